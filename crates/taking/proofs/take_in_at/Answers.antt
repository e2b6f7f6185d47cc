-- `taking::take_in_at` meets its contract. Assumes nothing.
use Rattle.std.proofs.Common.{rules, ◌≡◌, Err}
use mathlib.Core.Path.{ap, sym, ◌∙◌}
use mathlib.Core.List.{[]}
use Rattle.refusal.specs.Refusal.{Answer, accepted}
use Rattle.meaning.specs.State.{State}
use Rattle.layout.specs.Image.{encode, decode}
use Rattle.layout.specs.Calls.{Left, After, afterwards}
use Rattle.checking.proofs.Accepted.{judged_refused, judged_accepted}
use Rattle.taking.proofs.Steps.{refused_after}
use Rattle.taking.proofs.take_in_at.Goals as goal

pub take_in_checked-requires : goal.take_in_checked-requires
take_in_checked-requires c = (c.requires.0, c.requires.1, c.requires.2, sym c.judge_message.ensures ∙ c.in_ok-judge_message.was)

pub returns-in_err-judge_message : goal.returns-in_err-judge_message
returns-in_err-judge_message c = let z : ◌≡◌ c.from_residual.result (Err c.in_err-judge_message.field-0.0) = search rules in let e = refused_after c.args.image.now _ c.in_err-judge_message.field-0.0 (judged_refused c.args.message.now (decode c.args.image.now) {B = Left} (λ (after : State). accepted (record { image = encode after; out = []; count = 0 })) c.in_err-judge_message.field-0.0 (sym c.judge_message.ensures ∙ c.in_err-judge_message.was)) in (z ∙ sym (ap (λ (a : After). a.verdict) e), sym (ap (λ (a : After). a.image) e))

pub returns : goal.returns
returns c = let e = judged_accepted c.args.message.now (decode c.args.image.now) {B = Left} (λ (after : State). accepted (record { image = encode after; out = []; count = 0 })) (sym c.judge_message.ensures ∙ c.in_ok-judge_message.was) in (c.take_in_checked.ensures.0 ∙ ap (λ (a : Answer Left). (afterwards c.args.image.now [] a).verdict) (sym e), c.take_in_checked.ensures.1 ∙ ap (λ (a : Answer Left). (afterwards c.args.image.now [] a).image) (sym e))
