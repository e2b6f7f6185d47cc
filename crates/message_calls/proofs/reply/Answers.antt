-- `message_calls::reply` meets its contract. Refused by rows 1 and 2, or as the ask is judged, or the reply (Replying). Assumes nothing.
use Rattle.opening.specs.CallContracts.{without_count, count_in}
use Rattle.std.proofs.Common.{rules, ◌≡◌, Err}
use mathlib.Core.Path.{ap, sym, ◌∙◌}
use mathlib.Core.Bool.{Bool}
use Rattle.refusal.specs.Refusal.{verdict_of}
use Rattle.layout.specs.Image.{decode}
use Rattle.layout.specs.Calls.{After}
use Rattle.replying.proofs.Judging.{judged_asker}
use Rattle.opening.specs.Admitted.{opened}
use Rattle.opening.proofs.Ladder.{what_is_opened}
use Rattle.message_calls.proofs.Replying.{reply_lengths, reply_refused, block_lent, room_lent, reply_judged_off, reply_sent}
use Rattle.message_calls.proofs.reply.Goals as goal

pub judge_ask-requires : goal.judge_ask-requires
judge_ask-requires c = ((what_is_opened c.args.image.now (reply_lengths c.args.message.now c.args.out.now) (sym (c.opens.ensures ∙ ap (λ (b : Bool). verdict_of (opened c.args.image.now b)) c.reply_lengths.ensures) ∙ c.in_ok-opens.was)).size, (what_is_opened c.args.image.now (reply_lengths c.args.message.now c.args.out.now) (sym (c.opens.ensures ∙ ap (λ (b : Bool). verdict_of (opened c.args.image.now b)) c.reply_lengths.ensures) ∙ c.in_ok-opens.was)).good, block_lent c.args.image.now c.args.message.now c.args.out.now (sym (c.opens.ensures ∙ ap (λ (b : Bool). verdict_of (opened c.args.image.now b)) c.reply_lengths.ensures) ∙ c.in_ok-opens.was))

pub write_reply-requires : goal.write_reply-requires
write_reply-requires c = ((what_is_opened c.args.image.now (reply_lengths c.args.message.now c.args.out.now) (sym (c.opens.ensures ∙ ap (λ (b : Bool). verdict_of (opened c.args.image.now b)) c.reply_lengths.ensures) ∙ c.in_ok-opens.was)).size, (what_is_opened c.args.image.now (reply_lengths c.args.message.now c.args.out.now) (sym (c.opens.ensures ∙ ap (λ (b : Bool). verdict_of (opened c.args.image.now b)) c.reply_lengths.ensures) ∙ c.in_ok-opens.was)).good, block_lent c.args.image.now c.args.message.now c.args.out.now (sym (c.opens.ensures ∙ ap (λ (b : Bool). verdict_of (opened c.args.image.now b)) c.reply_lengths.ensures) ∙ c.in_ok-opens.was), judged_asker c.args.message.now (decode c.args.image.now) (sym c.judge_ask.ensures ∙ c.in_ok-judge_ask.was), room_lent c.args.image.now c.args.message.now c.args.out.now (sym (c.opens.ensures ∙ ap (λ (b : Bool). verdict_of (opened c.args.image.now b)) c.reply_lengths.ensures) ∙ c.in_ok-opens.was))

pub returns-in_err-opens : goal.returns-in_err-opens
returns-in_err-opens c = let z : ◌≡◌ c.from_residual.result (Err c.in_err-opens.field-0.0) = search rules in let e = reply_refused c.args.image.now c.args.message.now c.args.out.now c.in_err-opens.field-0.0 (sym (c.opens.ensures ∙ ap (λ (b : Bool). verdict_of (opened c.args.image.now b)) c.reply_lengths.ensures) ∙ c.in_err-opens.was) in (ap without_count z ∙ sym (ap (λ (a : After). a.verdict) e), sym (ap (λ (a : After). a.out) e), ap count_in z ∙ sym (ap (λ (a : After). a.count) e))

pub returns-in_err-judge_ask : goal.returns-in_err-judge_ask
returns-in_err-judge_ask c = let z : ◌≡◌ c.from_residual-in_err-judge_ask.result (Err c.in_err-judge_ask.field-0.0) = search rules in let e = reply_judged_off c.args.image.now c.args.message.now c.args.out.now (sym (c.opens.ensures ∙ ap (λ (b : Bool). verdict_of (opened c.args.image.now b)) c.reply_lengths.ensures) ∙ c.in_ok-opens.was) c.in_err-judge_ask.field-0.0 (sym c.judge_ask.ensures ∙ c.in_err-judge_ask.was) in (ap without_count z ∙ sym (ap (λ (a : After). a.verdict) e), sym (ap (λ (a : After). a.out) e), ap count_in z ∙ sym (ap (λ (a : After). a.count) e))

pub returns : goal.returns
returns c = let e = reply_sent c.args.image.now c.args.message.now c.args.out.now (sym (c.opens.ensures ∙ ap (λ (b : Bool). verdict_of (opened c.args.image.now b)) c.reply_lengths.ensures) ∙ c.in_ok-opens.was) (sym c.judge_ask.ensures ∙ c.in_ok-judge_ask.was) in (sym (ap (λ (a : After). a.verdict) e), c.write_reply.ensures.1 ∙ sym (ap (λ (a : After). a.out) e), c.write_reply.ensures.0 ∙ sym (ap (λ (a : After). a.count) e))
