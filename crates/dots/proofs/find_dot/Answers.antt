-- `dots::find_dot` meets its contract: the ends are looked at first (Search). Assumes nothing.
use borrow.Author.Rules.{rules}
use mathlib.Core.Path.{sym, ◌∙◌}
use Rattle.dots.proofs.Search.{before_none, before_first, after_last}
use native.Mathlib.Omega.{arith}
use Rattle.dots.proofs.find_dot.Goals as goal

pub returns-then-count-eq0 : goal.returns-then-count-eq0
returns-then-count-eq0 c = before_none c.args.b.now (search rules) c.args.d c.requires.2 (omega (arith, c.entry_count-count.ensures, c.if-count-eq0.true))

pub returns-then-before : goal.returns-then-before
returns-then-before c = before_first c.args.b.now (search rules) c.args.d c.requires.2 (omega (arith, c.entry_count-count.ensures, c.if-count-eq0.false)) c.entry_dot.ensures (sym c.before-2.ensures ∙ c.if-before.true)

pub returns-then-before-2 : goal.returns-then-before-2
returns-then-before-2 c = after_last c.args.b.now (search rules) c.args.d c.requires.2 c.entry_count-count.result c.entry_count-count.ensures (omega (arith, c.if-count-eq0.false)) c.entry_dot-2.ensures (sym c.before-3.ensures ∙ c.if-before-2.true)
