-- The invariant holds at every moment of a run. Assumes nothing.
use mathlib.Core.Path.{◌≡◌, refl, ◌∙◌}
use mathlib.Core.Bool.{true}
use mathlib.Core.List.Memᴰ
use mathlib.Core.List.{[]}
use native.Mathlib.Omega.{arith}
use Rattle.numbers.specs.declared.Controller.{Controller}
use Rattle.numbers.proofs.Tests.{◌∈◌, here, there}
use Rattle.numbers.specs.declared.Key.{Key}
use Rattle.meaning.specs.CrewTable.{CrewTable, is_table}
use Rattle.meaning.specs.Object.{value, deleted, Contents}
use Rattle.meaning.specs.Write.{Write}
use Rattle.meaning.specs.Context.{Context}
use Rattle.meaning.specs.OwnSteps.{Done}
use Rattle.laws.proofs.OtherSteps.{mark_each}
use Rattle.laws.proofs.StaysGood.{taken_in}
use Rattle.crew.specs.Moment.{Moment, beginning, starting, seeing, made, writing, asking, replying}
use Rattle.crew.specs.Run as run
use Rattle.crew.specs.Run.{Next, Later, Reached, now, ◌then◌}
use Rattle.crew.proofs.Right.{Writes, History}
use Rattle.crew.proofs.Repaired.{repaired}
use Rattle.crew.proofs.Stripped.{fresh_knows}
use Rattle.crew.proofs.Sound.{Sound, history, start_is, Wrote, wrote, deleted_is, later_sound, begins_sound, sound}
use Rattle.crew.proofs.Invariant.{In, Inv}
use Rattle.crew.proofs.Calls.{starting_inv, take_in_inv, strip_inv}
use Rattle.crew.proofs.Mending.{repair_inv}
use Rattle.crew.proofs.Putting.{writing_inv}
use Rattle.crew.proofs.Replying.{asking_inv, replying_inv}

-- no write is ever taken back
pub next_writes : (t : CrewTable) {M N : Moment} → Next t M N → (w : Write) → w ∈ M.writes → w ∈ N.writes
unfolding starting seeing writing asking replying
next_writes t (run.starts n s off e) w h = h
next_writes t run.refuses w h = h
next_writes t (run.reads n on k o e) w h = h
next_writes t (run.writes n on k v c d bytes e) w h = there h
next_writes t (run.deletes n on k c d e) w h = there h
next_writes t (run.takes_in n on m h s e) w q = q
next_writes t (run.asks n on to a e) w h = h
next_writes t (run.replies n on a h r e) w q = q
next_writes t (run.repairs n on r h s e) w q = q
next_writes t (run.strips n on) w h = h

module _ (t : CrewTable) (All : Writes) (H : History t All) where
  wrote_inv : (M : Moment) → Sound t M → Inv t All M → (n : Controller) → M.started n ≡ true → (k : Key) (b : Contents)
      (c : Context) (d : Done) → Wrote (M.state n) k b c d
      → ((w : Write) → w ∈ (writing M n (made (M.state n) k b c) d).writes → All w) → Inv t All (writing M n (made (M.state n) k b c) d)
  wrote_inv M S I n on k b c d W sub = writing_inv t All H M S I n on k b c d W (sub (made (M.state n) k b c) (unfold writing in (here refl)))

  -- every call keeps it, where All has the writes after the call
  next_inv : {M N : Moment} → Sound t M → Inv t All M → ((w : Write) → w ∈ N.writes → All w) → Next t M N → Inv t All N
  next_inv {M} S I sub (run.starts n s off e) = starting_inv t All M S I n s ((S.idle n off).0 ∙ (start_is t n s e).1) (S.idle n off).1
  next_inv S I sub run.refuses = I
  next_inv S I sub (run.reads n on k o e) = I
  next_inv {M} S I sub (run.writes n on k v c d bytes e) = wrote_inv M S I n on k (value v) c d (wrote (M.state n) k v c d (S.good n (S.crew n on)) bytes e) sub
  next_inv {M} S I sub (run.deletes n on k c d e) = wrote_inv M S I n on k deleted c d (deleted_is (M.state n) k c d (S.good n (S.crew n on)) e) sub
  next_inv {M} S I sub (run.takes_in n on m h s e) = take_in_inv t All H M S I n on m (I.outgoings m h) s (taken_in (M.state n) m.message s e)
  next_inv {M} S I sub (run.asks n on to a e) = asking_inv t All M S I n to a e
  next_inv {M} S I sub (run.replies n on a h r e) = replying_inv t All H M S I n on a h r e
  next_inv {M} S I sub (run.repairs n on r h s e) = repair_inv t All H M S I n on r (I.replies r h) s (repaired (M.state n) r.message s e)
  next_inv {M} S I sub (run.strips n on) = strip_inv t All H M S I n on

  begins_inv : Inv t All (beginning t)
  unfolding beginning
  begins_inv = record {
    knows = λ n. fresh_knows t n All (In []) H (λ w h. Memᴰ.not-nil h);
    seen_made = λ n w h. h;
    outgoings = λ m h. absurd (Memᴰ.not-nil h);
    asks = λ a h. absurd (Memᴰ.not-nil h);
    replies = λ r h. absurd (Memᴰ.not-nil h);
    listed = λ w h. absurd (Memᴰ.not-nil h);
    marks = λ i m n a b. omega (arith, mark_each (λ x y. 0) m n a b);
  }

  later_inv : is_table t ≡ true → {M N : Moment} → Sound t M → Inv t All M → ((w : Write) → w ∈ N.writes → All w) → Later t M N → Inv t All N
  later_inv ok S I sub now = I
  later_inv ok S I sub (r then e) = next_inv (later_sound t ok S r) (later_inv ok S I (λ w h. sub w (next_writes t e w h)) r) sub e

-- with any set of writes that has those made so far
pub invariant_in : (t : CrewTable) → is_table t ≡ true → (All : Writes) → History t All → (M : Moment) → ((w : Write) → w ∈ M.writes → All w) → Reached t M → Inv t All M
invariant_in t ok All H M sub r = later_inv t All H ok (begins_sound t ok) (begins_inv t All H) sub r

-- with just them
pub invariant : (t : CrewTable) → is_table t ≡ true → (M : Moment) → Reached t M → Inv t (In M.writes) M
invariant t ok M r = invariant_in t ok (In M.writes) (history t M (sound t ok M r)) M (λ w h. h) r
