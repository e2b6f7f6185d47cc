-- `message_calls::take_in` meets its contract. Refused by rows 1 and 2, or what the step answers (TakingIn). Assumes nothing.
use Rattle.std.proofs.Common.{rules, ◌≡◌, Err}
use mathlib.Core.Path.{ap, sym, ◌∙◌}
use borrow.Author.Tests.{eqb-true}
use lib.ListN.{length}
use Rattle.layout.specs.Calls.{After, one_block}
use Rattle.opening.proofs.Ladder.{what_is_opened}
use Rattle.message_calls.proofs.TakingIn.{take_in_refused, take_in_goes_on}
use Rattle.message_calls.proofs.take_in.Goals as goal

pub take_in_at-requires : goal.take_in_at-requires
take_in_at-requires c = ((what_is_opened c.args.image.now (one_block c.args.message.now) (sym c.opens.ensures ∙ c.in_ok-opens.was)).size, (what_is_opened c.args.image.now (one_block c.args.message.now) (sym c.opens.ensures ∙ c.in_ok-opens.was)).good, eqb-true (length c.args.message.now) 512 (what_is_opened c.args.image.now (one_block c.args.message.now) (sym c.opens.ensures ∙ c.in_ok-opens.was)).right)

pub returns-in_err-opens : goal.returns-in_err-opens
returns-in_err-opens c = let z : ◌≡◌ c.from_residual.result (Err c.in_err-opens.field-0.0) = search rules in let e = take_in_refused c.args.image.now c.args.message.now c.in_err-opens.field-0.0 (sym c.opens.ensures ∙ c.in_err-opens.was) in (z ∙ sym (ap (λ (a : After). a.verdict) e), sym (ap (λ (a : After). a.image) e))

pub returns : goal.returns
returns c = let e = take_in_goes_on c.args.image.now c.args.message.now (sym c.opens.ensures ∙ c.in_ok-opens.was) in (c.take_in_at.ensures.0 ∙ sym (ap (λ (a : After). a.verdict) e), c.take_in_at.ensures.1 ∙ sym (ap (λ (a : After). a.image) e))
