-- A search by halves for a key among things whose keys ascend, by any order. Assumes nothing.
use Prim.Native.Nat.{ℕ, ◌+◌, ◌≤◌, ◌<◌}
use mathlib.Core.Path.{◌≡◌, ap, ◌∙◌}
use mathlib.Core.Logic.{⊎_elim}
use mathlib.Core.Bool.{Bool, true}
use native.Mathlib.Omega.{arith}
use lib.ListN.{length, take, drop}
use lib.Dec.{ltb}
use borrow.Author.Tests.{ltb-true, ltb-false}
use Rattle.numbers.specs.Words.{all?}
use Rattle.numbers.proofs.Tests.{by_test}
use Rattle.numbers.proofs.Orders.{Order}
use Rattle.block.specs.Fields.{upto}
use Rattle.block.proofs.Arrays.{upto_length}
use Rattle.block.proofs.ByIndex.{Pairs, less_or_same, all_taken, all_dropped}

-- the first n things by their keys k: those before low come before x, and those from high on after it
pub record Between {K : Type 0} (before : K → K → Bool) (n : ℕ) (k : ℕ → K) (x : K) (low high : ℕ) : Type 0 where
  pub order : low ≤ high
  pub within : high ≤ n
  pub ascend : Pairs before n k
  pub below : (j : ℕ) → j < low → before (k j) x ≡ true
  pub above : (j : ℕ) → high ≤ j → j < n → before x (k j) ≡ true

module _ {K : Type 0} {before : K → K → Bool} {n : ℕ} {k : ℕ → K} {x : K} where
  pub nothing_yet : {high : ℕ} → high ≡ n → Pairs before n k → Between before n k x 0 high
  nothing_yet q p = record { order = omega arith; within = omega arith; ascend = p; below = λ j l. absurd (omega arith); above = λ j l m. absurd (omega arith) }

  -- the thing that is looked at
  module _ (O : Order before) {low high : ℕ} (s : Between before n k x low high) (mid : ℕ) (from : low ≤ mid) (to : mid < high) where
    pub upper_half : before (k mid) x ≡ true → Between before n k x (mid + 1) high
    upper_half t =
        record {
          order = omega arith;
          within = s.within;
          ascend = s.ascend;
          below = λ j l.
              ⊎_elim (λ h. O.through (k j) (k mid) x (s.ascend j mid h (omega (arith, s.within))) t)
              (λ h. ap (λ (i : ℕ). before (k i) x) h ∙ t) (less_or_same j mid l);
          above = s.above;
        }

    pub lower_half : before x (k mid) ≡ true → Between before n k x low mid
    lower_half t =
        record {
          order = from;
          within = omega (arith, s.within);
          ascend = s.ascend;
          below = s.below;
          above = λ j l m.
              by_test (ltb mid j) (λ h. O.through x (k mid) (k j) t (s.ascend mid j (ltb-true mid j h) m))
              (λ h. let q : j ≡ mid = omega (arith, ltb-false mid j h) in ap (λ (i : ℕ). before x (k i)) q ∙ t);
        }

-- where nothing is left between them, low is the place of x
pub nowhere : {A K : Type 0} (key_of : A → K) (before : K → K → Bool) (n : ℕ) (e : ℕ → A) {x : K} {low high : ℕ}
    → Between before n (λ j. key_of (e j)) x low high → high ≤ low
    → (low ≤ length (upto n e))
    × (all? (λ a. before (key_of a) x) (take low (upto n e)) ≡ true)
    × (all? (λ a. before x (key_of a)) (drop low (upto n e)) ≡ true)
nowhere key_of before n e {x} {low} s h = (
  omega (arith, s.order, s.within, upto_length n e),
  all_taken (λ a. before (key_of a) x) low n e s.below,
  all_dropped (λ a. before x (key_of a)) low n e (λ j l m. s.above j (omega (arith, h)) m),
)
