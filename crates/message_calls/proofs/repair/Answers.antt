-- `message_calls::repair` meets its contract. Refused by rows 1 and 2, or what the step answers (Repairing). Assumes nothing.
use Rattle.std.proofs.Common.{rules, ◌≡◌, Err}
use mathlib.Core.Path.{ap, sym, ◌∙◌}
use mathlib.Core.Bool.{Bool}
use Rattle.refusal.specs.Refusal.{verdict_of}
use Rattle.layout.specs.Calls.{After, whole_reply}
use Rattle.opening.specs.Admitted.{opened}
use Rattle.opening.proofs.Ladder.{what_is_opened}
use Rattle.message_calls.proofs.Repairing.{repair_refused, repair_goes_on}
use Rattle.message_calls.proofs.repair.Goals as goal

pub repair_read-requires : goal.repair_read-requires
repair_read-requires c = ((what_is_opened c.args.image.now (whole_reply c.args.message.now) (sym (c.opens.ensures ∙ ap (λ (b : Bool). verdict_of (opened c.args.image.now b)) c.is_whole.ensures) ∙ c.in_ok-opens.was)).size, (what_is_opened c.args.image.now (whole_reply c.args.message.now) (sym (c.opens.ensures ∙ ap (λ (b : Bool). verdict_of (opened c.args.image.now b)) c.is_whole.ensures) ∙ c.in_ok-opens.was)).good, (what_is_opened c.args.image.now (whole_reply c.args.message.now) (sym (c.opens.ensures ∙ ap (λ (b : Bool). verdict_of (opened c.args.image.now b)) c.is_whole.ensures) ∙ c.in_ok-opens.was)).right)

pub returns-in_err-opens : goal.returns-in_err-opens
returns-in_err-opens c = let z : ◌≡◌ c.from_residual.result (Err c.in_err-opens.field-0.0) = search rules in let e = repair_refused c.args.image.now c.args.message.now c.in_err-opens.field-0.0 (sym (c.opens.ensures ∙ ap (λ (b : Bool). verdict_of (opened c.args.image.now b)) c.is_whole.ensures) ∙ c.in_err-opens.was) in (z ∙ sym (ap (λ (a : After). a.verdict) e), sym (ap (λ (a : After). a.image) e))

pub returns : goal.returns
returns c = let e = repair_goes_on c.args.image.now c.args.message.now (sym (c.opens.ensures ∙ ap (λ (b : Bool). verdict_of (opened c.args.image.now b)) c.is_whole.ensures) ∙ c.in_ok-opens.was) in (c.repair_read.ensures.0 ∙ sym (ap (λ (a : After). a.verdict) e), c.repair_read.ensures.1 ∙ sym (ap (λ (a : After). a.image) e))
