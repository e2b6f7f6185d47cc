-- What an accepted message has passed, and what is then made of a take in. Assumes nothing.
use Prim.Native.Nat.{ℕ}
use mathlib.Core.Path.{◌≡◌, ◌∙◌}
use mathlib.Core.Bool.{true, false}
use mathlib.Core.List.{List, [], ◌∷◌}
use Rattle.numbers.specs.Words.{some?}
use Rattle.refusal.specs.declared.Refusal.{Refusal}
use Rattle.refusal.specs.declared.Refusal.TheVariants.{WrongCheck, IllFormed, OutOfRange, NotPeer, HistoryLost, DotClash}
use Rattle.refusal.specs.Refusal.{Answer, refused, ◌>>=◌, verdict_of}
use Rattle.meaning.specs.Object.{merge}
use Rattle.meaning.specs.State.{Stored, State, local}
use Rattle.meaning.specs.Settle.{settle}
use Rattle.meaning.specs.Message.{Outgoing, outgoing_formed}
use Rattle.meaning.specs.Exchange.{both_hold, other_peer, ahead_of_us, clashes, take_in}
use Rattle.laws.proofs.Answers.{passes, passes_not, then, by_refusal, by_none, accepted_with, message_rows}
use Rattle.laws.proofs.Merging.{Carried}
use Rattle.laws.proofs.StaysGood.{outgoing_carried}
use Rattle.layout.specs.Messages.{checks_right, decode_outgoing, laid_out_outgoing}
use Rattle.layout.specs.Calls.{with_message}
use Rattle.checking.specs.Judged.{outgoing_judged, message_judged}
use Rattle.std.specs.Prelude.{Ok, Err}

-- what rows 3 to 10 leave of a message
pub record MessageFacts (message : List ℕ) (s : State) : Type 0 where
  pub checked : checks_right message ≡ true
  pub laid_out : laid_out_outgoing message ≡ true
  pub formed : outgoing_formed s.table (decode_outgoing message) ≡ true
  pub held : both_hold s (decode_outgoing message).sender (decode_outgoing message).key ≡ true
  pub peer : other_peer s (decode_outgoing message).sender ≡ true
  pub not_ahead : ahead_of_us s (decode_outgoing message).object ≡ false
  pub no_clash : some? (clashes s (decode_outgoing message).key) (decode_outgoing message).object.versions ≡ false

-- the point that it carries
pub carried : (message : List ℕ) (s : State) → MessageFacts message s → Carried s (decode_outgoing message).key (decode_outgoing message).object
carried message s F = outgoing_carried s (decode_outgoing message) F.formed F.held F.not_ahead F.no_clash

-- ---- an accepted one

module _ (message : List ℕ) (s : State) where
  abbrev q : Outgoing
  q = decode_outgoing message

  pub judged_facts : verdict_of (message_judged message s true) ≡ Ok tt → MessageFacts message s
  unfolding message_judged with_message outgoing_judged
  judged_facts e =
      let a = (accepted_with (message_judged message s true) e).1 in
      let one = passes_not WrongCheck (checks_right message) _ a in
      let two = passes_not IllFormed (laid_out_outgoing message) _ one.1 in
      let three = passes_not IllFormed (outgoing_formed s.table q) _ two.1 in
      let four = passes_not OutOfRange (both_hold s q.sender q.key) _ three.1 in
      let five = passes_not NotPeer (other_peer s q.sender) _ four.1 in
      let six = passes HistoryLost (ahead_of_us s q.object) _ five.1 in
      let seven = passes DotClash (some? (clashes s q.key) q.object.versions) _ six.1 in
      record { checked = one.0; laid_out = two.0; formed = three.0; held = four.0; peer = five.0; not_ahead = six.0; no_clash = seven.0 }

  -- ---- whatever is made of the state

  abbrev result : Stored
  result = record { key = q.key; object = merge (local s q.key) q.object }

  module _ {B : Type 0} (g : State → Answer B) where
    any_state : with_message message (laid_out_outgoing message) (take_in s q >>= g) ≡ then (message_judged message s true) (settle s s.clock (result ∷ []) >>= g)
    unfolding message_judged with_message outgoing_judged take_in
    any_state =
        message_rows (checks_right message) (laid_out_outgoing message) (outgoing_formed s.table q) (both_hold s q.sender q.key) (other_peer s q.sender) (ahead_of_us s q.object)
        (some? (clashes s q.key) q.object.versions) (settle s s.clock (result ∷ [])) g

    pub judged_refused : (r : Refusal) → verdict_of (message_judged message s true) ≡ Err r → with_message message (laid_out_outgoing message) (take_in s (decode_outgoing message) >>= g) ≡ refused r
    judged_refused r e = any_state ∙ by_refusal (settle s s.clock (result ∷ []) >>= g) (message_judged message s true) r e

    pub judged_accepted : verdict_of (message_judged message s true) ≡ Ok tt
        → with_message message (laid_out_outgoing message) (take_in s (decode_outgoing message) >>= g)
        ≡ (settle s s.clock (record { key = (decode_outgoing message).key; object = merge (local s (decode_outgoing message).key) (decode_outgoing message).object } ∷ []) >>= g)
    judged_accepted e = any_state ∙ by_none (settle s s.clock (result ∷ []) >>= g) (message_judged message s true) e
