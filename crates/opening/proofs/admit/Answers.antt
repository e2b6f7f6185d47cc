-- `opening::admit` meets its contract. Rows 1 and 2, and then 5 (Ladder). Assumes nothing.
use Rattle.std.proofs.Common.{rules, ◌≡◌, Err}
use mathlib.Core.Path.{sym, ◌∙◌}
use borrow.Author.Tests.{not-true, not-false}
use Rattle.store.proofs.Lent.{own_is_crew}
use Rattle.opening.proofs.Ladder.{what_is_opened, not_admitted, not_ours, may_go_on}
use Rattle.opening.proofs.admit.Goals as goal

pub is_ours-requires : goal.is_ours-requires
is_ours-requires c = ((what_is_opened c.args.image.now c.args.lengths (sym c.opens.ensures ∙ c.in_ok-opens.was)).size, own_is_crew c.args.image.now (what_is_opened c.args.image.now c.args.lengths (sym c.opens.ensures ∙ c.in_ok-opens.was)).good)

pub returns-then-not-is_ours : goal.returns-then-not-is_ours
returns-then-not-is_ours c = not_ours c.args.image.now c.args.lengths c.args.k (sym c.opens.ensures ∙ c.in_ok-opens.was) (sym c.is_ours.ensures ∙ not-true _ c.if-not-is_ours.true-raw)

pub returns-in_err-opens : goal.returns-in_err-opens
returns-in_err-opens c = let z : ◌≡◌ c.from_residual.result (Err c.in_err-opens.field-0.0) = search rules in z ∙ not_admitted c.args.image.now c.args.lengths c.args.k c.in_err-opens.field-0.0 (sym c.opens.ensures ∙ c.in_err-opens.was)

pub returns : goal.returns
returns c = may_go_on c.args.image.now c.args.lengths c.args.k (sym c.opens.ensures ∙ c.in_ok-opens.was) (sym c.is_ours.ensures ∙ not-false _ c.if-not-is_ours.false-raw)
