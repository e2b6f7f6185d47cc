-- The definition of reply, case by case. Assumes nothing.
use Prim.Native.Nat.{ℕ, ◌≤◌}
use mathlib.Core.Path.{◌≡◌, ap, ◌∙◌}
use mathlib.Core.Bool.{Bool, true, ◌&&◌}
use mathlib.Core.List.{List}
use lib.ListN.{length}
use lib.Dec.{leb}
use borrow.Author.Tests.{eqb-true, leb-true}
use Rattle.numbers.proofs.Tests.{and_left, and_right}
use Rattle.refusal.specs.declared.Refusal.{Refusal}
use Rattle.refusal.specs.Refusal.{Answer, accepted, ◌>>=◌, verdict_of}
use Rattle.meaning.specs.State.{State}
use Rattle.meaning.specs.Exchange.{Replied, reply}
use Rattle.layout.specs.Image.{decode}
use Rattle.layout.specs.Messages.{decode_ask, encode_reply, laid_out_ask}
use Rattle.layout.specs.Calls.{Left, afterwards, one_block, reply_room, on_image, with_message, over, reply_call}
use Rattle.store.proofs.Untouched.{untouched}
use Rattle.replying.specs.Judged.{ask_judged}
use Rattle.replying.specs.Sent.{sent_points, reply_of}
use Rattle.replying.proofs.Judging.{judged_refused, judged_accepted}
use Rattle.opening.specs.Admitted.{opened}
use Rattle.opening.proofs.Ladder.{refused_leaves, refused_first, opened_steps, what_is_opened}
use Rattle.std.specs.Prelude.{Ok, Err}

-- the lengths of the two buffers beside the image
abbrev pub reply_lengths : List ℕ → List ℕ → Bool
reply_lengths message out = one_block message && leb reply_room (length out)

module _ (img message out : List ℕ) where
  -- what the reply leaves
  abbrev leaves : Replied → Answer Left
  leaves r = accepted (record { image = img; out = over (encode_reply r.message) out; count = r.count })

  abbrev step : State → Answer Left
  step s = with_message message (laid_out_ask message) (reply s (decode_ask message) >>= leaves)

  pub reply_refused : (r : Refusal) → verdict_of (opened img (reply_lengths message out)) ≡ Err r → reply_call img message out ≡ untouched r img out
  unfolding reply_call
  reply_refused r e = refused_leaves img out (on_image (reply_lengths message out) img step) r (refused_first img (reply_lengths message out) step r e)

  module _ (ok : verdict_of (opened img (reply_lengths message out)) ≡ Ok tt) where
    pub block_lent : length message ≡ 512
    block_lent = eqb-true (length message) 512 (and_left (one_block message) (leb reply_room (length out)) (what_is_opened img (reply_lengths message out) ok).right)

    pub room_lent : 61952 ≤ length out
    room_lent = leb-true reply_room (length out) (and_right (one_block message) (leb reply_room (length out)) (what_is_opened img (reply_lengths message out) ok).right)

    pub reply_judged_off : (r : Refusal) → verdict_of (ask_judged message (decode img) true) ≡ Err r → reply_call img message out ≡ untouched r img out
    unfolding reply_call
    reply_judged_off r e =
        refused_leaves img out (on_image (reply_lengths message out) img step) r (opened_steps img (reply_lengths message out) step ok ∙ judged_refused message (decode img) leaves r e)

    pub reply_sent : verdict_of (ask_judged message (decode img) true) ≡ Ok tt
        → reply_call img message out ≡ record { verdict = Ok tt; image = img; out = over (encode_reply (reply_of (decode img) (decode_ask message))) out; count = length (sent_points (decode img) (decode_ask message)) }
    unfolding reply_call afterwards
    reply_sent e = ap (afterwards img out) (opened_steps img (reply_lengths message out) step ok ∙ judged_accepted message (decode img) leaves e)
