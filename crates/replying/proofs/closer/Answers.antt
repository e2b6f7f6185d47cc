-- `replying::closer` meets its contract. The choice between two (Choosing). Assumes nothing.
use mathlib.Core.Path.{sym, ◌∙◌}
use borrow.Author.Tests.{not-true, not-false}
use Rattle.replying.proofs.Choosing.{not_behind, first_found, now_nearer, still_nearer}
use Rattle.replying.proofs.closer.Goals as goal

pub returns-then-not-before : goal.returns-then-not-before
returns-then-not-before c = not_behind c.args.last c.args.k c.args.best (sym c.before-2.ensures ∙ not-true _ c.if-not-before.true-raw)

pub returns-then-before : goal.returns-then-before
returns-then-before c = now_nearer c.args.last c.args.k (sym c.before-2.ensures ∙ not-false _ c.if-not-before.false-raw) c.args.best c.in-Some.b c.in-Some.is (sym c.before-in-Some.ensures ∙ c.if-before.true)

pub returns-in-None : goal.returns-in-None
returns-in-None c = first_found c.args.last c.args.k (sym c.before-2.ensures ∙ not-false _ c.if-not-before.false-raw) c.args.best c.in-None.is

pub returns-else-before : goal.returns-else-before
returns-else-before c = still_nearer c.args.last c.args.k (sym c.before-2.ensures ∙ not-false _ c.if-not-before.false-raw) c.args.best c.in-Some.b c.in-Some.is (sym c.before-in-Some.ensures ∙ c.if-before.false)
