-- Tests of a list by the index, and its order: one thing for each number below n. Assumes nothing.
use Prim.Native.Nat.{ℕ, zero, suc, ◌+◌, ◌≤◌, ◌<◌}
use mathlib.Core.Path.{◌≡◌, refl, subst}
use mathlib.Core.Logic.{◌⊎◌, inl, inr}
use mathlib.Core.Bool.{Bool, true, false}
use native.Mathlib.Omega.{arith}
use native.Mathlib.Nat.{le_of_suc-le-suc}
use lib.ListN.{take, drop}
use lib.Dec.{ltb}
use borrow.Author.Tests.{ltb-true, ltb-false}
use Rattle.numbers.specs.Words.{all?, ascends?}
use Rattle.numbers.proofs.Tests.{by_test, never, and_left, and_right, and_both}
use Rattle.numbers.proofs.Orders.{Order}
use Rattle.block.specs.Fields.{upto}

pub less_or_same : (k n : ℕ) → k < n + 1 → (k < n) ⊎ (k ≡ n)
less_or_same k n l = by_test (ltb k n) (λ e. inl (ltb-true k n e)) (λ e. inr (omega (arith, ltb-false k n e)))

module _ {A : Type 0} (f : A → Bool) where
  pub all_below : (n : ℕ) (e : ℕ → A) → ((i : ℕ) → i < n → f (e i) ≡ true) → all? f (upto n e) ≡ true
  all_below zero e h = refl
  all_below (suc n) e h = and_both (f (e 0)) (all? f (upto n (λ i. e (suc i)))) (h 0 (omega arith)) (all_below n (λ i. e (suc i)) (λ i l. h (suc i) (omega arith)))

  pub below_all : (n : ℕ) (e : ℕ → A) → all? f (upto n e) ≡ true → (i : ℕ) → i < n → f (e i) ≡ true
  below_all zero e t i l = absurd (omega arith)
  below_all (suc n) e t zero l = and_left (f (e 0)) (all? f (upto n (λ i. e (suc i)))) t
  below_all (suc n) e t (suc i) l = below_all n (λ j. e (suc j)) (and_right (f (e 0)) (all? f (upto n (λ j. e (suc j)))) t) i (le_of_suc-le-suc l)

  -- of those before m, and of those from m on
  pub all_taken : (m n : ℕ) (e : ℕ → A) → ((i : ℕ) → i < m → f (e i) ≡ true) → all? f (take m (upto n e)) ≡ true
  all_taken zero n e h = refl
  all_taken (suc m) zero e h = refl
  all_taken (suc m) (suc n) e h =
      and_both (f (e 0)) (all? f (take m (upto n (λ i. e (suc i))))) (h 0 (omega arith)) (all_taken m n (λ i. e (suc i)) (λ i l. h (suc i) (omega arith)))

  pub all_dropped : (m n : ℕ) (e : ℕ → A) → ((i : ℕ) → m ≤ i → i < n → f (e i) ≡ true) → all? f (drop m (upto n e)) ≡ true
  all_dropped zero n e h = all_below n e (λ i l. h i (omega arith) l)
  all_dropped (suc m) zero e h = refl
  all_dropped (suc m) (suc n) e h = all_dropped m n (λ i. e (suc i)) (λ i l k. h (suc i) (omega arith) (omega arith))

module _ {A : Type 0} (before : A → A → Bool) where
  -- each pair of the first n in its order
  abbrev pub Pairs : ℕ → (ℕ → A) → Type 0
  Pairs n e = (i j : ℕ) → i < j → j < n → before (e i) (e j) ≡ true

  pub ascends_upto : (n : ℕ) (e : ℕ → A) → Pairs n e → ascends? before (upto n e) ≡ true
  ascends_upto zero e h = refl
  ascends_upto (suc n) e h =
      and_both (all? (before (e 0)) (upto n (λ i. e (suc i)))) (ascends? before (upto n (λ i. e (suc i))))
      (all_below (before (e 0)) n (λ i. e (suc i)) (λ i l. h 0 (suc i) (omega arith) (omega arith)))
      (ascends_upto n (λ i. e (suc i)) (λ i j l k. h (suc i) (suc j) (omega arith) (omega arith)))

  pub upto_ascends : (n : ℕ) (e : ℕ → A) → ascends? before (upto n e) ≡ true → Pairs n e
  upto_ascends zero e t i j l k = absurd (omega arith)
  upto_ascends (suc n) e t i zero l k = absurd (omega arith)
  upto_ascends (suc n) e t zero (suc j) l k =
      below_all (before (e 0)) n (λ i. e (suc i)) (and_left (all? (before (e 0)) (upto n (λ i. e (suc i)))) (ascends? before (upto n (λ i. e (suc i)))) t) j (le_of_suc-le-suc k)
  upto_ascends (suc n) e t (suc i) (suc j) l k =
      upto_ascends n (λ m. e (suc m)) (and_right (all? (before (e 0)) (upto n (λ m. e (suc m)))) (ascends? before (upto n (λ m. e (suc m)))) t) i j (le_of_suc-le-suc l) (le_of_suc-le-suc k)

  -- one alone, and one more, which comes after the last
  pub pairs_one : (e : ℕ → A) → Pairs 1 e
  pairs_one e i j l k = absurd (omega arith)

  pub pairs_more : Order before → (e : ℕ → A) (n : ℕ) → Pairs (n + 1) e → before (e n) (e (n + 1)) ≡ true → Pairs (n + 1 + 1) e
  pairs_more O e n h t i j l k =
      by_test (ltb j (n + 1)) (λ u. h i j l (ltb-true j (n + 1) u))
      (λ u.
      let last : n + 1 ≡ j = omega (arith, k, ltb-false j (n + 1) u) in
      subst (λ (x : ℕ). before (e i) (e x) ≡ true) last
      (by_test (ltb i n) (λ v. O.through (e i) (e n) (e (n + 1)) (h i n (ltb-true i n v) (omega arith)) t)
      (λ v. subst (λ (x : ℕ). before (e x) (e (n + 1)) ≡ true) (omega (arith, l, last, ltb-false i n v)) t)))

  -- a neighbour that does not come after stops it
  pub pairs_fail : (e : ℕ → A) (n i : ℕ) → i + 1 < n → before (e i) (e (i + 1)) ≡ false → ascends? before (upto n e) ≡ false
  pairs_fail e n i l f = by_test (ascends? before (upto n e)) (λ t. never (upto_ascends n e t i (i + 1) (omega arith) l) f) (λ t. t)
