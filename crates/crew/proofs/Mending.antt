-- A repair keeps the invariant of a run. Assumes nothing.
use Prim.Native.Nat.{ℕ, ◌+◌, ◌≤◌}
use mathlib.Core.Path.{◌≡◌, sym, ◌∙◌, subst}
use mathlib.Core.Logic.{◌⊎◌, inl, inr, ⊎_elim}
use mathlib.Core.Bool.{true}
use mathlib.Core.List.Memᴰ
use mathlib.Core.List.{List, ◌++◌}
use native.Mathlib.Nat.{le_refl, le_trans}
use Rattle.numbers.specs.declared.Controller.{Controller}
use Rattle.numbers.specs.Words.{map}
use Rattle.numbers.specs.Numbers.{is_counter}
use Rattle.numbers.proofs.Tests.{◌∈◌}
use Rattle.numbers.proofs.Lists.{in_left, in_right}
use Rattle.numbers.proofs.Controllers.{Crew}
use Rattle.meaning.specs.CrewTable.{CrewTable}
use Rattle.meaning.specs.Clock.{Clock, row, with_row}
use Rattle.meaning.specs.State.{Stored, Listed, State, mark, dots_of}
use Rattle.meaning.specs.Message.{Reply}
use Rattle.meaning.specs.Settle.{settled}
use Rattle.meaning.specs.Exchange.{tidied, mended}
use Rattle.meaning.specs.Write.{Write}
use Rattle.laws.proofs.ContextLaws.{Rising}
use Rattle.crew.specs.Moment.{Sent, Moment, for, seeing, made, reply_brings}
use Rattle.crew.proofs.Right.{Writes, ◌∪◌, At, History, Right}
use Rattle.crew.proofs.Knows.{Knows}
use Rattle.crew.proofs.Storing.{dots_counted}
use Rattle.crew.proofs.Repaired.{with_row_more, Told, Brought, Mended, repair_knows}
use Rattle.crew.proofs.Repaired as mending
use Rattle.crew.proofs.Steps.{Steps, repair_steps}
use Rattle.crew.proofs.Sound.{Sound}
use Rattle.crew.proofs.Listing.{raised_low}
use Rattle.crew.proofs.Invariant.{In, knows_set, in_reply_brings, reply_brings_in, ReplyRight, Inv, Stepped, seeing_inv}
use Rattle.crew.proofs.Calls.{settled_growing, mended_kept, rises_to, at_n, good, history_here}

module _ (t : CrewTable) (All : Writes) (H : History t All) (M : Moment) (S : Sound t M) (I : Inv t All M) (n : Controller) (on : M.started n ≡ true) where
  abbrev s : State
  s = M.state n

  abbrev T : Writes
  T = In (M.seen n)

  module _ (r : Sent Reply) (R : ReplyRight t All M r) (x : State) (A : Mended s r.message x) where
    to_us : r.message.addressee ≡ n
    to_us = A.to ∙ S.own n

    told : Told All T (In r.seen) s.table s.own r.message
    told =
        subst (λ (z : CrewTable). Told All T (In r.seen) z s.own r.message) (sym (S.table n))
        (subst (λ (z : Controller). Told All T (In r.seen) t z r.message) (sym (S.own n))
        (subst (λ (z : Controller). Told All (In (M.seen z)) (In r.seen) t z r.message) to_us R.told))

    abbrev united : Clock
    united = with_row s.clock r.message.sender (row r.message.clock r.message.sender)

    abbrev results : List Stored
    results = map (mended s r.message) r.message.points

    abbrev stored : State
    stored = settled s united results

    pub mended_right : (q : Stored) → q ∈ results → Right All q.key (At (T ∪ Brought (In r.seen) r.message) q.key) q.object
    mended_right = mending.each_right All T (In r.seen) s (history_here t All H M S I n on) (I.knows n) r.message told A.held

    counted : (l : Listed) → l ∈ dots_of results → is_counter l.dot.count ≡ true
    counted = dots_counted s.table All (T ∪ Brought (In r.seen) r.message) (history_here t All H M S I n on) results mended_right

    there_is : tidied stored r.message ≡ x
    there_is = A.state

    steps : Steps s (tidied stored r.message)
    steps = subst (λ (z : State). Steps s z) (sym there_is) (repair_steps s r.message x A)

    pub repair_stepped : Stepped M n x
    repair_stepped = subst (λ (z : State). Stepped M n z) there_is (record {
      steps = steps;
      growing = unfold tidied in (settled_growing s united results (with_row_more s.clock r.message.sender (row r.message.clock r.message.sender)) counted);
      kept = mended_kept s (good t All H M S I n on) united results r.message;
      marks = marks;
    })
      where
        B : Controller → Controller → ℕ
        B m k = (row (for n (tidied stored r.message) M.state m).clock k).base

        own_is : stored.own ≡ n
        own_is = unfold settled in (S.own n)

        up : (m : Controller) → Rising (M.state m).clock (for n (tidied stored r.message) M.state m).clock
        up = rises_to t All M S I n (tidied stored r.message) steps

        marks : (m k : Controller) → Crew m → Crew k → mark (tidied stored r.message).watermark m k ≤ B m k
        marks = unfold tidied in
            (raised_low stored r.message B
            (λ m k cm ck. unfold settled in (le_trans (I.marks n m k cm ck) (up m k ck)))
            (λ k ck. le_trans (R.rising k ck) (up r.message.sender k ck))
            (λ k ck. subst (λ (z : Controller). (row stored.clock k).base ≤ B z k) (sym own_is)
            (at_n t All M S I n (tidied stored r.message) steps (λ z. (row stored.clock k).base ≤ (row z.clock k).base) (unfold tidied in (le_refl (row stored.clock k).base)))))

    brought : Knows All (In (reply_brings r ++ M.seen n)) x
    brought =
        knows_set All (T ∪ Brought (In r.seen) r.message) (In (reply_brings r ++ M.seen n)) x to from
        (repair_knows All T (In r.seen) s (history_here t All H M S I n on) (I.knows n) r.message told A.held x A)
      where
        to : (w : Write) → (T ∪ Brought (In r.seen) r.message) w → w ∈ reply_brings r ++ M.seen n
        to w h =
            ⊎_elim {B = Brought (In r.seen) r.message w} (in_right (reply_brings r) (M.seen n))
            (λ q. in_left (reply_brings r) (M.seen n) (reply_brings_in r q.0 q.1)) h

        from : (w : Write) → w ∈ reply_brings r ++ M.seen n → (T ∪ Brought (In r.seen) r.message) w
        from w h = ⊎_elim (λ q. inr (in_reply_brings r q)) inl (Memᴰ.append_cases (reply_brings r) h)

    pub repair_inv : Inv t All (seeing M n x (reply_brings r))
    repair_inv =
        seeing_inv t All M S I n x repair_stepped (reply_brings r) (λ w h. R.made w (in_reply_brings r h).0) brought
