-- When a row stands for a counter above a base, as the code asks it. Assumes nothing.
use Prim.Native.Nat.{ℕ, ◌+◌, ◌-◌, ◌/◌, ◌^◌, ◌≤◌, ◌<◌}
use mathlib.Core.Path.{◌≡◌, ap, sym, ◌∙◌}
use mathlib.Core.Bool.{true, false, not}
use native.Mathlib.Nat.{le_refl, lt_of_lt_of_le, div-eq_of_lt, div-eq-sub-div}
use native.Mathlib.Omega.{arith}
use lib.Pow.{pow_mono, pow_pos}
use lib.Dec.{leb, ltb, eqb}
use borrow.Author.Tests.{lt-ltb, le-ltb, eq-eqb, ne_eqb, leb-true, leb-false, ltb-true, ltb-false}
use Rattle.numbers.proofs.Tests.{by_test}
use Rattle.row.specs.declared.Row.{Row}
use Rattle.row.specs.Row.{digits, highest}
use Rattle.head.proofs.RowSound.{digits_above, digits_few}

module _ (r : Row) (base : ℕ) where
  abbrev places : ℕ
  places = digits r.bits r.bits

  pub base_above : base < r.base → true ≡ ltb base (highest r)
  unfolding highest
  base_above h = sym (lt-ltb base (r.base + places) (omega arith))

  module _ (h : r.base ≤ base) where
    none_above : r.bits < 2 ^ (base - r.base) → false ≡ ltb base (highest r)
    unfolding highest
    none_above l = sym (le-ltb base (r.base + places) (omega (arith, digits_few r.bits r.bits (base - r.base) l)))

    some_above : 2 ^ (base - r.base) ≤ r.bits → true ≡ ltb base (highest r)
    unfolding highest
    some_above l = by_test (leb places (base - r.base)) low high
      where
        low : leb places (base - r.base) ≡ true → true ≡ ltb base (r.base + places)
        low t =
            absurd
            (omega (
              arith,
              lt_of_lt_of_le (digits_above r.bits r.bits (le_refl r.bits)) (pow_mono {i = places} {j = base - r.base} (leb-true places (base - r.base) t)),
            ))

        high : leb places (base - r.base) ≡ false → true ≡ ltb base (r.base + places)
        high t = sym (lt-ltb base (r.base + places) (omega (arith, leb-false places (base - r.base) t)))

    -- none of 64 places is left
    pub past_all : r.bits < 2 ^ 64 → 64 ≤ base - r.base → false ≡ ltb base (highest r)
    past_all small l = none_above (lt_of_lt_of_le small (pow_mono l))

    -- what is left of the bits above those places
    pub by_shift : not (eqb (r.bits / 2 ^ (base - r.base)) 0) ≡ ltb base (highest r)
    by_shift = by_test (ltb r.bits (2 ^ (base - r.base))) low high
      where
        low : ltb r.bits (2 ^ (base - r.base)) ≡ true → not (eqb (r.bits / 2 ^ (base - r.base)) 0) ≡ ltb base (highest r)
        low t =
            let l = ltb-true r.bits (2 ^ (base - r.base)) t in
            ap not (eq-eqb (r.bits / 2 ^ (base - r.base)) 0 (div-eq_of_lt l)) ∙ none_above l

        high : ltb r.bits (2 ^ (base - r.base)) ≡ false → not (eqb (r.bits / 2 ^ (base - r.base)) 0) ≡ ltb base (highest r)
        high t =
            let l = ltb-false r.bits (2 ^ (base - r.base)) t in
            ap not (ne_eqb (r.bits / 2 ^ (base - r.base)) 0 (λ z. omega (arith, div-eq-sub-div {m = 2 ^ (base - r.base)} {n = r.bits} (pow_pos (base - r.base)) l)))
            ∙ some_above l
