-- When a row is sound, as the code asks it: no bit at or above the places that are left up to the last counter. Assumes nothing.
use Prim.Native.Nat.{ℕ, zero, suc, ◌+◌, ◌-◌, ◌/◌, ◌%◌, ◌^◌, ◌≤◌, ◌<◌}
use mathlib.Core.Path.{◌≡◌, sym, ◌∙◌}
use mathlib.Core.Bool.{true, false, ◌&&◌}
use native.Mathlib.Nat.{le_refl, lt_of_lt_of_le, div-eq_of_lt, div-eq-sub-div}
use native.Mathlib.Omega.{arith}
use lib.Arith.{half_le}
use lib.Pow.{pow_mono, pow_pos}
use lib.Dec.{leb, ltb, eqb}
use borrow.Author.Tests.{lt-ltb, le-leb, eq-eqb, ne_eqb, leb-true, ltb-true, ltb-false}
use Rattle.numbers.specs.Numbers.{last_counter}
use Rattle.numbers.proofs.Tests.{by_test, and_both, and_first, and_second}
use Rattle.row.specs.declared.Row.{Row}
use Rattle.row.specs.Row.{digits, highest, fits, sound}
use Rattle.head.specs.HeadParts.{row_good}

-- with enough to look at, a number is below 2 to the number of its digits
pub digits_above : (k n : ℕ) → n ≤ k → n < 2 ^ digits k n
unfolding digits
digits_above zero n h = omega arith
digits_above (suc k) zero h = omega arith
digits_above (suc k) (suc n) h = double (suc n) (digits k (suc n / 2)) (digits_above k (suc n / 2) (half_le h))
  where
    double : (m d : ℕ) → m / 2 < 2 ^ d → m < 2 ^ suc d
    double m d l = omega arith

-- and it has no more than d of them where it is below 2 to the d
pub digits_few : (k n d : ℕ) → n < 2 ^ d → digits k n ≤ d
unfolding digits
digits_few zero n d h = omega arith
digits_few (suc k) zero d h = omega arith
digits_few (suc k) (suc n) zero h = absurd (omega arith)
digits_few (suc k) (suc n) (suc d) h = more (digits_few k (suc n / 2) d (halved (suc n) h))
  where
    halved : (m : ℕ) → m < 2 ^ suc d → m / 2 < 2 ^ d
    halved m l = omega arith

    more : {e : ℕ} → e ≤ d → suc e ≤ suc d
    more l = omega arith

module _ (r : Row) (base : r.base ≤ last_counter) (small : r.bits < 2 ^ 64) where
  abbrev left : ℕ
  left = last_counter - r.base

  pub good_low : r.bits % 2 ≡ 0 → r.bits < 2 ^ left → true ≡ row_good r
  unfolding fits sound highest
  good_low e l =
      sym
      (and_both (ltb r.bits (2 ^ 64)) (eqb (r.bits % 2) 0 && leb (r.base + digits r.bits r.bits) last_counter) (lt-ltb r.bits (2 ^ 64) small)
      (and_both (eqb (r.bits % 2) 0) (leb (r.base + digits r.bits r.bits) last_counter) (eq-eqb (r.bits % 2) 0 e)
      (le-leb (r.base + digits r.bits r.bits) last_counter (omega (arith, digits_few r.bits r.bits left l)))))

  pub good_far : r.bits % 2 ≡ 0 → 64 ≤ left → true ≡ row_good r
  good_far e l = good_low e (lt_of_lt_of_le small (pow_mono l))

  pub bad_first : (r.bits % 2 ≡ 0 → ⊥) → false ≡ row_good r
  unfolding fits sound highest
  bad_first e =
      sym
      (and_second (ltb r.bits (2 ^ 64)) (eqb (r.bits % 2) 0 && leb (r.base + digits r.bits r.bits) last_counter)
      (and_first (eqb (r.bits % 2) 0) (leb (r.base + digits r.bits r.bits) last_counter) (ne_eqb (r.bits % 2) 0 e)))

  bad_high : 2 ^ left ≤ r.bits → row_good r ≡ false
  unfolding fits sound highest
  bad_high l =
      and_second (ltb r.bits (2 ^ 64)) (eqb (r.bits % 2) 0 && leb (r.base + digits r.bits r.bits) last_counter)
      (and_second (eqb (r.bits % 2) 0) (leb (r.base + digits r.bits r.bits) last_counter)
      (by_test (leb (r.base + digits r.bits r.bits) last_counter)
      (λ t. absurd
      (omega (
        arith,
        lt_of_lt_of_le (digits_above r.bits r.bits (le_refl r.bits))
            (pow_mono {i = digits r.bits r.bits} {j = left} (omega (arith, leb-true (r.base + digits r.bits r.bits) last_counter t))),
      )))
      (λ f. f)))

  -- what is left of the bits above those places
  pub good_by_shift : r.bits % 2 ≡ 0 → eqb (r.bits / 2 ^ left) 0 ≡ row_good r
  good_by_shift e = by_test (ltb r.bits (2 ^ left)) low high
    where
      low : ltb r.bits (2 ^ left) ≡ true → eqb (r.bits / 2 ^ left) 0 ≡ row_good r
      low t = let l = ltb-true r.bits (2 ^ left) t in eq-eqb (r.bits / 2 ^ left) 0 (div-eq_of_lt l) ∙ good_low e l

      high : ltb r.bits (2 ^ left) ≡ false → eqb (r.bits / 2 ^ left) 0 ≡ row_good r
      high t =
          let l = ltb-false r.bits (2 ^ left) t in
          ne_eqb (r.bits / 2 ^ left) 0 (λ z. omega (arith, div-eq-sub-div {m = 2 ^ left} {n = r.bits} (pow_pos left) l)) ∙ sym (bad_high l)
