-- The results that marks choose: those that a test chooses, one mark after the other. Assumes nothing.
use Rattle.std.specs.Prelude.{if◌then◌else◌}
use Prim.Native.Nat.{ℕ, zero, suc, ◌+◌, ◌<◌}
use mathlib.Core.Path.{◌≡◌, refl, ap, sym, ◌∙◌}
use mathlib.Core.Logic.{⊎_elim}
use mathlib.Core.Bool.{Bool, true, false, not}
use mathlib.Core.List.Memᴰ
use mathlib.Core.List.{List, [], ◌∷◌, ◌++◌, append-nil}
use native.Mathlib.Nat.{le_of_suc-le-suc}
use native.Mathlib.Numerals.{add-one}
use native.Mathlib.Omega.{arith}
use lib.ListN.{length, take, drop, get_or}
use lib.Dec.{eqb}
use Rattle.numbers.specs.Words.{cons_if, keep, map, ascends?}
use Rattle.numbers.specs.Key.{same_key}
use Rattle.numbers.proofs.Tests.{by_test}
use Rattle.numbers.proofs.Orders.{ascends_rest}
use Rattle.numbers.proofs.Dots.{other_way}
use Rattle.block.proofs.Arrays.{get_or_in}
use Rattle.meaning.specs.State.{Stored, stored_before}
use Rattle.placing.proofs.Order.{NoneOf, first_apart}
use Rattle.mending.specs.Mended.{marked}

-- ---- marks that a test gave

kept : (b : Bool) (r : Stored) {xs ys : List Stored} → xs ≡ ys → (if b then r ∷ xs else xs) ≡ cons_if b r ys
kept true r e = ap (λ (z : List Stored). r ∷ z) e
kept false r e = e

chosen : (w : ℕ) (g : Stored → ℕ) (f : Stored → Bool) → ((r : Stored) → eqb (g r) w ≡ f r) → (rs : List Stored) → marked w (map g rs) rs ≡ keep f rs
unfolding marked
chosen w g f same [] = refl
chosen w g f same (r ∷ rs) =
    let rest = marked w (map g rs) rs in
    ap (λ (b : Bool). if b then r ∷ rest else rest) (same r) ∙ kept (f r) r (chosen w g f same rs)

one_is : (b : Bool) → eqb (if b then 1 else 0) 1 ≡ b
one_is true = refl
one_is false = refl

none_is : (b : Bool) → eqb (if b then 1 else 0) 0 ≡ not b
none_is true = refl
none_is false = refl

module _ (f : Stored → Bool) (ms : List ℕ) (rs : List Stored) (by : ms ≡ map (λ r. if f r then 1 else 0) rs) where
  pub marked_yes : marked 1 ms rs ≡ keep f rs
  marked_yes = ap (λ (z : List ℕ). marked 1 z rs) by ∙ chosen 1 (λ r. if f r then 1 else 0) f (λ r. one_is (f r)) rs

  pub marked_no : marked 0 ms rs ≡ keep (λ r. not (f r)) rs
  marked_no = ap (λ (z : List ℕ). marked 0 z rs) by ∙ chosen 0 (λ r. if f r then 1 else 0) (λ r. not (f r)) (λ r. none_is (f r)) rs

-- ---- one mark after the other

module _ (w : ℕ) where
  no_results : (ms : List ℕ) → marked w ms [] ≡ []
  unfolding marked
  no_results [] = refl
  no_results (m ∷ ms) = refl

  -- those of the first i marks, and then those of the others
  marked_split : (i : ℕ) (ms : List ℕ) (rs : List Stored) → marked w ms rs ≡ marked w (take i ms) rs ++ marked w (drop i ms) (drop i rs)
  unfolding marked
  marked_split zero ms rs = refl
  marked_split (suc i) [] rs = refl
  marked_split (suc i) (m ∷ ms) [] = sym (no_results (drop i ms))
  marked_split (suc i) (m ∷ ms) (r ∷ rs) =
      let rest = marked_split i ms rs in
      by_test (eqb m w) (λ t. rw t (ap (λ (z : List Stored). r ∷ z) rest)) (λ t. rw t rest)

  pub marked_prefix : (i : ℕ) (ms : List ℕ) (rs : List Stored) → (ys : List Stored) × (marked w ms rs ≡ marked w (take i ms) rs ++ ys)
  marked_prefix i ms rs = (marked w (drop i ms) (drop i rs), marked_split i ms rs)

  one_more : (i : ℕ) (ms : List ℕ) (rs : List Stored) (d : Stored) → i < length ms → i < length rs
      → marked w (take (suc i) ms) rs ≡ marked w (take i ms) rs ++ (if eqb (get_or ms i 0) w then get_or rs i d ∷ [] else [])
  unfolding marked
  one_more i [] rs d l h = absurd (omega arith)
  one_more i (m ∷ ms) [] d l h = absurd (omega arith)
  one_more zero (m ∷ ms) (r ∷ rs) d l h = refl
  one_more (suc i) (m ∷ ms) (r ∷ rs) d l h =
      let rest = one_more i ms rs d (le_of_suc-le-suc l) (le_of_suc-le-suc h) in
      by_test (eqb m w) (λ t. rw t (ap (λ (z : List Stored). r ∷ z) rest)) (λ t. rw t rest)

  added : (b : Bool) (xs : List Stored) (r : Stored) → xs ++ (if b then r ∷ [] else []) ≡ (if b then xs ++ (r ∷ []) else xs)
  added true xs r = refl
  added false xs r = append-nil xs

  pub marked_more : (i : ℕ) (ms : List ℕ) (rs : List Stored) (d : Stored) → i < length ms → i < length rs
      → marked w (take (i + 1) ms) rs ≡ (if eqb (get_or ms i 0) w then marked w (take i ms) rs ++ (get_or rs i d ∷ []) else marked w (take i ms) rs)
  marked_more i ms rs d l h =
      ap (λ (n : ℕ). marked w (take n ms) rs) (add-one i) ∙ one_more i ms rs d l h ∙ added (eqb (get_or ms i 0) w) (marked w (take i ms) rs) (get_or rs i d)

  -- where the results ascend, the i-th is of another point than those that the marks before it chose
  pub apart_marked : (i : ℕ) (ms : List ℕ) (rs : List Stored) (d : Stored) → ascends? stored_before rs ≡ true → i < length rs → NoneOf (get_or rs i d).key (marked w (take i ms) rs)
  unfolding marked
  apart_marked zero ms rs d up l q m = absurd (Memᴰ.not-nil m)
  apart_marked (suc i) [] rs d up l q m = absurd (Memᴰ.not-nil m)
  apart_marked (suc i) (x ∷ ms) [] d up l q m = absurd (omega arith)
  apart_marked (suc i) (x ∷ ms) (r ∷ rs) d up l q m =
      let rest = apart_marked i ms rs d (ascends_rest stored_before r rs up) (le_of_suc-le-suc l) q in
      let k = (get_or rs i d).key in
      let first : same_key k r.key ≡ false = other_way r.key k (first_apart r rs up (get_or rs i d) (get_or_in rs i d (le_of_suc-le-suc l))) in
      by_test (eqb x w)
      (λ t. ⊎_elim (λ e. ap (λ (z : Stored). same_key k z.key) e ∙ first) rest (Memᴰ.cases_cons (rw t at m)))
      (λ t. rest (rw t at m))
