-- What an accepted reply has passed, and what is then made of a repair. Assumes nothing.
use Prim.Native.Nat.{ℕ}
use mathlib.Core.Path.{◌≡◌, ◌∙◌}
use mathlib.Core.Bool.{Bool, true, false, ◌&&◌, ◌||◌}
use mathlib.Core.List.{List}
use Rattle.numbers.specs.Words.{all?, some?, map}
use Rattle.numbers.specs.Numbers.{same_controller}
use Rattle.numbers.proofs.Tests.{and_left, and_right, or_false}
use Rattle.refusal.specs.declared.Refusal.{Refusal}
use Rattle.refusal.specs.declared.Refusal.TheVariants.{WrongCheck, IllFormed, OutOfRange, NotPeer, HistoryLost, DotClash}
use Rattle.refusal.specs.Refusal.{Answer, refused, accepted, ◌>>=◌, verdict_of}
use Rattle.meaning.specs.Clock.{row, with_row}
use Rattle.meaning.specs.State.{State}
use Rattle.meaning.specs.Settle.{settle}
use Rattle.meaning.specs.Message.{Reply, reply_formed}
use Rattle.meaning.specs.Exchange.{both_hold, other_peer, ahead_of_us, row_ahead_of_us, clashes, tidied, mended, repair}
use Rattle.laws.proofs.Answers.{passes, passes_not, then, by_refusal, by_none, accepted_with, message_rows}
use Rattle.layout.specs.Messages.{checks_right, decode_reply, laid_out_reply}
use Rattle.layout.specs.Calls.{with_message}
use Rattle.hearing.specs.Heard.{peers_judged, reply_judged}
use Rattle.std.specs.Prelude.{Ok, Err}

-- what rows 3 to 10 leave of a reply
pub record ReplyFacts (message : List ℕ) (s : State) : Type 0 where
  pub checked : checks_right message ≡ true
  pub laid_out : laid_out_reply message ≡ true
  pub formed : reply_formed s.table (decode_reply message) ≡ true
  pub held : all? (λ p. both_hold s (decode_reply message).sender p.key) (decode_reply message).points ≡ true
  pub peer : other_peer s (decode_reply message).sender ≡ true
  pub addressed : same_controller (decode_reply message).addressee s.own ≡ true
  pub not_ahead : some? (λ p. ahead_of_us s p.object) (decode_reply message).points ≡ false
  pub row_not_ahead : row_ahead_of_us s (decode_reply message).clock ≡ false
  pub no_clash : some? (λ p. some? (clashes s p.key) p.object.versions) (decode_reply message).points ≡ false

-- ---- its points

-- ---- an accepted one

module _ (message : List ℕ) (s : State) where
  abbrev q : Reply
  q = decode_reply message

  abbrev jobs_held : Bool
  jobs_held = all? (λ p. both_hold s q.sender p.key) q.points

  abbrev to_us : Bool
  to_us = other_peer s q.sender && same_controller q.addressee s.own

  abbrev lost : Bool
  lost = some? (λ p. ahead_of_us s p.object) q.points || row_ahead_of_us s q.clock

  abbrev clashing : Bool
  clashing = some? (λ p. some? (clashes s p.key) p.object.versions) q.points

  pub judged_facts : verdict_of (reply_judged message s true) ≡ Ok tt → ReplyFacts message s
  unfolding reply_judged with_message peers_judged
  judged_facts e =
      let a = (accepted_with (reply_judged message s true) e).1 in
      let one = passes_not WrongCheck (checks_right message) _ a in
      let two = passes_not IllFormed (laid_out_reply message) _ one.1 in
      let three = passes_not IllFormed (reply_formed s.table q) _ two.1 in
      let four = passes_not OutOfRange jobs_held _ three.1 in
      let five = passes_not NotPeer to_us _ four.1 in
      let six = passes HistoryLost lost _ five.1 in
      let seven = passes DotClash clashing _ six.1 in
      let behind = or_false (some? (λ p. ahead_of_us s p.object) q.points) (row_ahead_of_us s q.clock) six.0 in
      record {
        checked = one.0;
        laid_out = two.0;
        formed = three.0;
        held = four.0;
        peer = and_left (other_peer s q.sender) (same_controller q.addressee s.own) five.0;
        addressed = and_right (other_peer s q.sender) (same_controller q.addressee s.own) five.0;
        not_ahead = behind.0;
        row_not_ahead = behind.1;
        no_clash = seven.0;
      }

  -- ---- whatever is made of the state

  abbrev result : Answer State
  result = settle s (with_row s.clock q.sender (row q.clock q.sender)) (map (mended s q) q.points) >>= λ after. accepted (tidied after q)

  module _ {B : Type 0} (g : State → Answer B) where
    any_state : with_message message (laid_out_reply message) (repair s q >>= g) ≡ then (reply_judged message s true) (result >>= g)
    unfolding reply_judged with_message peers_judged repair
    any_state = message_rows (checks_right message) (laid_out_reply message) (reply_formed s.table q) jobs_held to_us lost clashing result g

    pub judged_refused : (r : Refusal) → verdict_of (reply_judged message s true) ≡ Err r → with_message message (laid_out_reply message) (repair s (decode_reply message) >>= g) ≡ refused r
    judged_refused r e = any_state ∙ by_refusal (result >>= g) (reply_judged message s true) r e

    pub judged_accepted : verdict_of (reply_judged message s true) ≡ Ok tt
        → with_message message (laid_out_reply message) (repair s (decode_reply message) >>= g)
        ≡ ((settle s (with_row s.clock (decode_reply message).sender (row (decode_reply message).clock (decode_reply message).sender)) (map (mended s (decode_reply message)) (decode_reply message).points)
        >>= λ after. accepted (tidied after (decode_reply message))) >>= g)
    judged_accepted e = any_state ∙ by_none (result >>= g) (reply_judged message s true) e
