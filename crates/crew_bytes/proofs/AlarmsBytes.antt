-- No message of a run of bytes is refused for its bytes, for a history lost or for a clash. Assumes nothing.
use Prim.Native.Nat.{ℕ, ◌<◌}
use mathlib.Core.Path.{◌≡◌, sym, ap, ◌∙◌, subst}
use mathlib.Core.Bool.{Bool, true, ◌&&◌}
use mathlib.Core.List.{List, []}
use lib.ListN.{length}
use lib.Dec.{leb}
use borrow.Author.Tests.{eq-eqb, le-leb}
use Rattle.numbers.proofs.Tests.{never, and_both}
use Rattle.refusal.specs.declared.Refusal.{Refusal}
use Rattle.refusal.specs.Refusal.{Answer, refused, accepted, ◌>>=◌, Verdict}
use Rattle.meaning.specs.CrewTable.{CrewTable}
use Rattle.meaning.specs.State.{State}
use Rattle.meaning.specs.Message.{Outgoing, Ask, Reply, outgoing_formed, ask_formed, reply_formed}
use Rattle.meaning.specs.Exchange.{take_in, reply, repair}
use Rattle.meaning.specs.Good.{good_state}
use Rattle.laws.proofs.Goodness.{facts_good}
use Rattle.layout.specs.Image.{encode}
use Rattle.layout.specs.Messages.{checks_right, decode_outgoing, decode_ask, decode_reply, laid_out_outgoing, laid_out_ask, laid_out_reply}
use Rattle.layout.specs.Calls.{Left, afterwards, one_block, reply_room, whole_reply, on_image, with_message, take_in_call, reply_call, repair_call}
use Rattle.layout.proofs.CallsGood.{FitOutgoing, FitAsk, FitReply, outgoing_fit, ask_fit, reply_fit}
use Rattle.crew.specs.Moment.{Sent}
use Rattle.crew.specs.Demand.{NoAlarm, NoFalseAlarm}
use Rattle.crew.proofs.Sound.{sound}
use Rattle.crew.proofs.Alarms.{no_false_alarm}
use Rattle.crew_bytes.specs.DemandBytes.{NoAlarmBytes, NoFalseAlarmBytes}
use Rattle.crew_bytes.proofs.Followed.{outgoing_of, ask_of, reply_of}
use Rattle.crew_bytes.proofs.Called.{passes_image, message_passes}
use Rattle.crew_bytes.proofs.ShownBytes.{pictured, is_started}
use Rattle.crew_bytes.proofs.Saying.{Says, says_take_in, says_reply, says_repair}
use Rattle.std.specs.Prelude.{Ok, Err}

abbrev Above : ℕ → Type 0
Above k = 4 < k

-- a refused call is refused by its step
refused_step : {A : Type 0} (img out : List ℕ) (x : Answer A) (f : A → Left) (q : Refusal) → (afterwards img out (x >>= λ y. accepted (f y))).verdict ≡ Err q → x ≡ refused q
unfolding afterwards
refused_step img out (refused r) f q e = ap refused same
  where
    same : r ≡ q
    same = cc
refused_step img out (accepted y) f q e = absurd (subst is_accepted e tt)
  where
    is_accepted : Verdict → Type 0
    is_accepted (Ok _) = Unit {0}
    is_accepted (Err z) = ⊥

-- a call with a message that passes all tests on bytes
module _ (img : List ℕ) (s : State) (g : good_state s ≡ true) (e : img ≡ encode s) where
  quiet : {A : Type 0} (lengths : Bool) (out message : List ℕ) (laid_out : Bool) (step : State → Answer A) (f : A → Left)
      → lengths ≡ true → checks_right message ≡ true → laid_out ≡ true → NoAlarm (step s) → Says Above (step s)
      → NoAlarmBytes (afterwards img out (on_image lengths img (λ z. with_message message laid_out (step z >>= λ y. accepted (f y)))))
  quiet lengths out message laid_out step f size check laid calm says q h =
      let through = passes_image img s g e lengths (λ z. with_message message laid_out (step z >>= λ y. accepted (f y))) size ∙ message_passes message laid_out _ check laid in
      let r = refused_step img out (step s) f q (sym (ap (λ (x : Answer Left). (afterwards img out x).verdict) through) ∙ h) in
      (subst (Says Above) r says, (calm q r).0, (calm q r).1)

pub no_false_alarm_bytes : NoFalseAlarmBytes
unfolding NoFalseAlarmBytes NoFalseAlarm take_in_call reply_call repair_call
no_false_alarm_bytes t ok B r n h =
    let p = pictured t ok B r in
    let M = p.0 in
    let s = M.state n in
    let D = is_started t ok B M p.1 p.2 n h in
    let g = facts_good s D.good in
    let table = (sound t ok M p.1).table n in
    let calm = no_false_alarm t ok M p.1 n D.on in (
      λ m h.
          let o = outgoing_of t B M p.2 m h in
          let formed = p.2.outgoings_formed o.0 o.1 in
          let F = subst (λ (x : Sent (List ℕ)). FitOutgoing t x.message) (sym o.3) (outgoing_fit t o.0.message formed) in
          quiet (B.image n) s g D.is_image (one_block m.message) [] m.message (laid_out_outgoing m.message) (λ z. take_in z (decode_outgoing m.message)) _
          (eq-eqb (length m.message) 512 F.size) F.checked F.laid_out
          (subst (λ (x : Sent Outgoing). NoAlarm (take_in s x.message)) (sym o.2) (calm.0 o.0 o.1))
          (says_take_in Above (λ k a. a) s (decode_outgoing m.message) (λ f. never (subst (λ (z : CrewTable). outgoing_formed z (decode_outgoing m.message) ≡ true) (sym table) F.formed) f)),
      λ b h out room.
          let o = ask_of t B M p.2 b h in
          let F = subst (λ (x : List ℕ). FitAsk t x) (sym o.3) (ask_fit t o.0 (p.2.asks_formed o.0 o.1)) in
          quiet (B.image n) s g D.is_image (one_block b && leb reply_room (length out)) out b (laid_out_ask b) (λ z. reply z (decode_ask b)) _
          (and_both (one_block b) (leb reply_room (length out)) (eq-eqb (length b) 512 F.size) (le-leb reply_room (length out) room)) F.checked F.laid_out
          (subst (λ (x : Ask). NoAlarm (reply s x)) (sym o.2) (calm.1 o.0 o.1))
          (says_reply Above (λ k a. a) s (decode_ask b) (λ f. never (subst (λ (z : CrewTable). ask_formed z (decode_ask b) ≡ true) (sym table) F.formed) f)),
      λ m h.
          let o = reply_of t B M p.2 m h in
          let formed = p.2.replies_formed o.0 o.1 in
          let F = subst (λ (x : Sent (List ℕ)). FitReply t x.message) (sym o.3) (reply_fit t o.0.message formed.0 formed.1) in
          quiet (B.image n) s g D.is_image (whole_reply m.message) [] m.message (laid_out_reply m.message) (λ z. repair z (decode_reply m.message)) _
          F.size F.checked F.laid_out
          (subst (λ (x : Sent Reply). NoAlarm (repair s x.message)) (sym o.2) (calm.2 o.0 o.1))
          (says_repair Above (λ k a. a) s (decode_reply m.message) (λ f. never (subst (λ (z : CrewTable). reply_formed z (decode_reply m.message) ≡ true) (sym table) F.formed) f)),
    )
