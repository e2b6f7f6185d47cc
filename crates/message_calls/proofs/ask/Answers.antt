-- `message_calls::ask` meets its contract. Refused by rows 1 and 2, or what the step answers (Asking). Assumes nothing.
use Rattle.std.proofs.Common.{rules, ◌≡◌, Err}
use Prim.Native.Nat.{◌-◌}
use mathlib.Core.Path.{ap, sym, ◌∙◌}
use borrow.Author.Tests.{eqb-true}
use lib.ListN.{length}
use Rattle.layout.specs.Calls.{After, one_block}
use Rattle.opening.proofs.Ladder.{what_is_opened}
use Rattle.message_calls.proofs.Asking.{ask_refused, ask_goes_on}
use Rattle.message_calls.proofs.ask.Goals as goal

pub ask_at-requires : goal.ask_at-requires
ask_at-requires c = ((what_is_opened c.args.image.now (one_block c.args.out.now) (sym c.opens.ensures ∙ c.in_ok-opens.was)).size, (what_is_opened c.args.image.now (one_block c.args.out.now) (sym c.opens.ensures ∙ c.in_ok-opens.was)).good, eqb-true (length c.args.out.now) 512 (what_is_opened c.args.image.now (one_block c.args.out.now) (sym c.opens.ensures ∙ c.in_ok-opens.was)).right)

pub returns-in_err-opens : goal.returns-in_err-opens
returns-in_err-opens c = let z : ◌≡◌ c.from_residual.result (Err c.in_err-opens.field-0.0) = search rules in let e = ask_refused c.args.image.now c.args.to c.args.out.now c.in_err-opens.field-0.0 (sym c.opens.ensures ∙ c.in_err-opens.was) in (z ∙ sym (ap (λ (a : After). a.verdict) e), sym (ap (λ (a : After). a.out) e))

pub returns : goal.returns
returns c = let e = ask_goes_on c.args.image.now c.args.to c.args.out.now (sym c.opens.ensures ∙ c.in_ok-opens.was) in (c.ask_at.ensures.0 ∙ sym (ap (λ (a : After). a.verdict) e), c.ask_at.ensures.1 ∙ sym (ap (λ (a : After). a.out) e))
