-- One point of a reply, filled with the sender's clock, is a message's point whose context is the filled one. Assumes nothing.
use Prim.Native.Nat.{ℕ}
use mathlib.Core.Path.{◌≡◌, ap, sym, ◌∙◌, subst}
use mathlib.Core.Bool.{true, ◌&&◌}
use mathlib.Core.List.{List}
use native.Mathlib.Omega.{arith}
use lib.ListN.{length}
use lib.Dec.{ltb}
use borrow.Author.Tests.{le-ltb, lt-ltb}
use Rattle.numbers.specs.Words.{ascends?}
use Rattle.numbers.proofs.Tests.{by_test}
use Rattle.meaning.specs.Clock.{Clock}
use Rattle.meaning.specs.Context.{Context}
use Rattle.meaning.specs.Object.{Object, fill, strip, merge, gone}
use Rattle.meaning.specs.State.{Stored, stored_before, State, local}
use Rattle.meaning.specs.Settle.{put}
use Rattle.layout.specs.PointBlock.{form_1, decode_point, decode_stored}
use Rattle.weighing.specs.Weighed.{takable, key_in}
use Rattle.placing.specs.Placed.{comes, goes_away}
use Rattle.placing.proofs.Count.{put_comes, put_goes, put_keeps}
use Rattle.meaning.specs.Message.{most_versions}
use Rattle.store.specs.HasRecord.{has_record}
use Rattle.mending.specs.Mended.{filled, mend}
use Rattle.tallying.specs.Tallied.{too_many, Ready}

module _ (s : State) (k : Clock) (b : List ℕ) (c : Context) (same : c ≡ (filled s k (decode_stored form_1 b)).context) where
  with_filled : record { versions = (decode_point form_1 b).object.versions; context = c } ≡ filled s k (decode_stored form_1 b)
  unfolding fill decode_stored
  with_filled = λ i. record { versions = (decode_point form_1 b).object.versions; context = same i }

  pub result_mended : record { key = key_in b; object = merge (local s (key_in b)) (record { versions = (decode_point form_1 b).object.versions; context = c }) } ≡ mend s k (decode_stored form_1 b)
  unfolding decode_stored
  result_mended = ap (λ (o : Object). record { key = key_in b; object = merge (local s (key_in b)) o }) with_filled

  -- what is ready may be taken
  pub may_take : Ready s k b → takable s (key_in b) (record { versions = (decode_point form_1 b).object.versions; context = c }) ≡ true
  may_take r = subst (λ (o : Object). takable s (key_in b) o ≡ true) (sym with_filled) r.2

-- a result that comes makes the records one more, and no other does
pub comes_is : (c : Clock) (ps : List Stored) (r : Stored) → ascends? stored_before ps ≡ true → ltb (length ps) (length (put c ps r)) ≡ comes c ps r
comes_is c ps r up =
    by_test (comes c ps r)
    (λ t. lt-ltb (length ps) (length (put c ps r)) (omega (arith, put_comes c ps r up t)) ∙ sym t)
    (λ t. le-ltb (length ps) (length (put c ps r)) (by_test (goes_away c ps r) (λ g. omega (arith, put_goes c ps r up g)) (λ g. omega (arith, put_keeps c ps r up t g))) ∙ sym t)

pub many_is : (q r : Stored) → q ≡ r → ltb most_versions (length q.object.versions) ≡ too_many r
unfolding too_many
many_is q r e = ap (λ (x : Stored). ltb most_versions (length x.object.versions)) e

pub goes_is : (c : Clock) (ps : List Stored) (q r : Stored) → q ≡ r → (has_record q.key ps && gone (strip c q.object)) ≡ goes_away c ps r
unfolding goes_away
goes_is c ps q r e = ap (λ (x : Stored). has_record x.key ps && gone (strip c x.object)) e
