-- `noting::with_dot` meets its contract (Choosing). Assumes nothing.
use mathlib.Core.Path.{sym, ◌∙◌}
use borrow.Author.Tests.{not-true, not-false}
use Rattle.layout.specs.Image.{decode}
use Rattle.noting.proofs.Choosing.{not_new, not_behind, behind_new}
use Rattle.noting.proofs.with_dot.Goals as goal

pub returns-then-not-before : goal.returns-then-not-before
returns-then-not-before c = not_behind (decode c.args.image.now) c.args.k c.args.last c.args.best c.args.d (sym c.before-2.ensures ∙ not-true _ c.if-not-before.true-raw)

pub arrives_new-requires : goal.arrives_new-requires
arrives_new-requires c = c.requires

pub returns-then-not-arrives_new : goal.returns-then-not-arrives_new
returns-then-not-arrives_new c = not_new (decode c.args.image.now) c.args.k c.args.last c.args.best c.args.d (sym c.arrives_new.ensures ∙ not-true _ c.if-not-arrives_new.true-raw)

pub returns : goal.returns
returns c = c.nearer.ensures ∙ behind_new (decode c.args.image.now) c.args.k c.args.last c.args.best c.args.d (sym c.before-2.ensures ∙ not-false _ c.if-not-before.false-raw) (sym c.arrives_new.ensures ∙ not-false _ c.if-not-arrives_new.false-raw)
