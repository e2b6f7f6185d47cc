-- The highest counter of a row, that a row fits its 64 bits, and that it is sound: what each says of the row's counters, and that adding and
-- uniting keep it. Assumes nothing.
use Prim.Native.Nat.{ℕ, zero, suc, ◌+◌, ◌/◌, ◌%◌, ◌^◌, ◌≤◌, ◌<◌}
use mathlib.Core.Path.{◌≡◌, refl, sym, ap, ◌∙◌}
use mathlib.Core.Logic.{◌⊎◌, inl, inr, ⊎_elim}
use mathlib.Core.Bool.{true, false}
use native.Mathlib.Nat.{le_refl, le_trans, div-eq_of_lt, lt_of_lt_of_le}
use native.Mathlib.Omega.{arith}
use lib.Arith.{half_le}
use lib.Pow.{pow_mono}
use lib.Dec.{leb, ltb, eqb}
use borrow.Author.Tests.{ltb-true, ltb-false, lt-ltb, leb-true, leb-false, le-leb, eqb-true, eq-eqb}
use Rattle.numbers.specs.declared.Counter.{Counter}
use Rattle.numbers.specs.Numbers.{counter, last_counter, is_counter}
use Rattle.numbers.proofs.Tests.{by_test, and_left, and_right, and_both}
use Rattle.row.specs.declared.Row.{Row}
use Rattle.row.specs.Row.{has, add, unite, digits, highest, fits, sound}
use Rattle.row.proofs.Members.{digit, digit_half, same_number, Member, low, high, member, has_of, low_has, Clear}
use Rattle.row.proofs.Adding.{add_has, add_clear, add_base}
use Rattle.row.proofs.Uniting.{unite_has, unite_clear, unite_base, unite_base'}

-- ---- how many digits

digits_zero : (k : ℕ) → digits k 0 ≡ 0
unfolding digits
digits_zero zero = refl
digits_zero (suc k) = refl

double : (n d : ℕ) → n / 2 < 2 ^ d → n < 2 ^ suc d
double n d l = omega arith

-- with enough to look at, a number is below 2 to the number of its digits
digits_above : (k n : ℕ) → n ≤ k → n < 2 ^ digits k n
unfolding digits
digits_above zero n h = omega arith
digits_above (suc k) zero h = omega arith
digits_above (suc k) (suc n) h = double (suc n) (digits k (suc n / 2)) (digits_above k (suc n / 2) (half_le h))

-- and the last of them is set
digits_last : (k n : ℕ) → n ≤ k → (n ≡ 0) ⊎ ((j : ℕ) × (digits k n ≡ suc j) × (digit j n ≡ 1))
unfolding digits
digits_last zero n h = inl (omega arith)
digits_last (suc k) zero h = inl refl
digits_last (suc k) (suc n) h = inr (⊎_elim one more (digits_last k (suc n / 2) (half_le h)))
  where
    one : suc n / 2 ≡ 0 → (j : ℕ) × (digits (suc k) (suc n) ≡ suc j) × (digit j (suc n) ≡ 1)
    one e = (0, ap suc (ap (digits k) e ∙ digits_zero k), ap (digit 0) single)
      where
        single : suc n ≡ 1
        single = omega arith

    more : (j : ℕ) × (digits k (suc n / 2) ≡ suc j) × (digit j (suc n / 2) ≡ 1) → (j : ℕ) × (digits (suc k) (suc n) ≡ suc j) × (digit j (suc n) ≡ 1)
    more (j, e, d) = (suc j, ap suc e, sym (digit_half j (suc n)) ∙ d)

-- a digit that is set is one of those
digit_below : (j k n : ℕ) → n < 2 ^ k → digit j n ≡ 1 → j < k
digit_below j k n l d =
    by_test (ltb j k) (λ t. ltb-true j k t)
    (λ f. absurd (omega (arith, d, ap (λ (x : ℕ). x % 2) (div-eq_of_lt (lt_of_lt_of_le l (pow_mono (ltb-false j k f)))))))

-- ---- the highest counter

-- a row with k bits has no counter above base + k
bits_top : (r : Row) (c : Counter) (k : ℕ) → r.bits < 2 ^ k → has r c ≡ true → c.0 ≤ r.base + k
bits_top r c k l h = top (member r c h)
  where
    top : Member r.base r.bits c.0 → c.0 ≤ r.base + k
    top (low p q) = omega arith
    top (high j e d) = omega (arith, digit_below j k r.bits l d)

pub has_highest : (r : Row) (c : Counter) → has r c ≡ true → c.0 ≤ highest r
unfolding highest
has_highest r c h = bits_top r c (digits r.bits r.bits) (digits_above r.bits r.bits (le_refl r.bits)) h

module _ (r : Row) where
  pub base_highest : r.base ≤ highest r
  unfolding highest
  base_highest = omega arith

  pub whole_highest : r.bits ≡ 0 → highest r ≡ r.base
  unfolding highest
  whole_highest none = rw (none, digits_zero) (omega arith)

  -- it is a counter of the row, if there is one
  pub highest_has : (highest r ≡ 0) ⊎ (has r (counter (highest r)) ≡ true)
  unfolding highest
  highest_has = ⊎_elim whole more (digits_last r.bits r.bits (le_refl r.bits))
    where
      whole : r.bits ≡ 0 → (highest r ≡ 0) ⊎ (has r (counter (highest r)) ≡ true)
      whole none =
          let e = whole_highest none in
          by_test (leb r.base 0) (λ t. inl (omega (arith, leb-true r.base 0 t)))
          (λ f. inr (low_has r (counter (highest r)) (omega (arith, leb-false r.base 0 f)) (omega arith)))

      more : (j : ℕ) × (digits r.bits r.bits ≡ suc j) × (digit j r.bits ≡ 1) → (highest r ≡ 0) ⊎ (has r (counter (highest r)) ≡ true)
      more (j, e, d) = inr (has_of r (counter (highest r)) (high j (omega arith) d))

  pub highest_least : (m : ℕ) → ((c : Counter) → has r c ≡ true → c.0 ≤ m) → highest r ≤ m
  highest_least m f = ⊎_elim (λ e. omega arith) (λ h. f (counter (highest r)) h) highest_has

-- ---- 64 bits

pub small_fits : (r : Row) → r.bits < 2 ^ 64 → fits r ≡ true
unfolding fits
small_fits r l = lt-ltb r.bits (2 ^ 64) l

pub fits_top : (r : Row) (c : Counter) → fits r ≡ true → has r c ≡ true → c.0 ≤ r.base + 64
unfolding fits
fits_top r c f h = bits_top r c 64 (ltb-true r.bits (2 ^ 64) f) h

pub fits_digits : (r : Row) → fits r ≡ true → highest r ≤ r.base + 64
fits_digits r f = highest_least r (r.base + 64) (λ c h. fits_top r c f h)

pub top_fits : (r : Row) → ((c : Counter) → has r c ≡ true → c.0 ≤ r.base + 64) → fits r ≡ true
unfolding highest
top_fits r f = small_fits r (lt_of_lt_of_le (digits_above r.bits r.bits (le_refl r.bits)) (pow_mono few))
  where
    few : digits r.bits r.bits ≤ 64
    few = omega (arith, highest_least r (r.base + 64) f)

-- a row that has a counter 64 or more above one that it lacks does not fit
pub gap_far : (r : Row) (c d : Counter) → has r c ≡ true → 0 < d.0 → (has r d ≡ true → ⊥) → d.0 + 64 ≤ c.0 → fits r ≡ false
gap_far r c d h pos lacks l =
    by_test (fits r)
    (λ t. absurd (by_test (leb d.0 r.base) (λ e. lacks (low_has r d pos (leb-true d.0 r.base e)))
    (λ e. omega (arith, fits_top r c t h, leb-false d.0 r.base e))))
    (λ f. f)

-- an add of a counter up to base + 64 to a row that fits gives one that fits
pub add_fits : (r : Row) (c : Counter) → fits r ≡ true → 0 < c.0 → c.0 ≤ r.base + 64 → fits (add r c) ≡ true
add_fits r c f pos l =
    let up = add_base r c in
    top_fits (add r c)
    (λ d h. ⊎_elim (λ k. omega (arith, fits_top r d f k)) (λ e. omega (arith, same_number e)) ((add_has r c d pos).0 h))

pub unite_fits : (r s : Row) → fits r ≡ true → fits s ≡ true → fits (unite r s) ≡ true
unite_fits r s f g =
    let up = unite_base r s in
    let up' = unite_base' r s in
    top_fits (unite r s) (λ c h. ⊎_elim (λ k. omega (arith, fits_top r c f k)) (λ k. omega (arith, fits_top s c g k)) ((unite_has r s c).0 h))

-- ---- soundness

module _ (r : Row) where
  pub sound_clear : sound r ≡ true → Clear r
  unfolding sound
  sound_clear t = eqb-true (r.bits % 2) 0 (and_left _ _ t)

  pub sound_highest : sound r ≡ true → highest r ≤ last_counter
  unfolding sound
  sound_highest t = leb-true (highest r) last_counter (and_right (eqb (r.bits % 2) 0) _ t)

  pub sound_base : sound r ≡ true → r.base ≤ last_counter
  sound_base t = le_trans (base_highest r) (sound_highest t)

  pub sound_has : (c : Counter) → sound r ≡ true → has r c ≡ true → c.0 ≤ last_counter
  sound_has c t h = le_trans (has_highest r c h) (sound_highest t)

  pub make_sound : Clear r → ((c : Counter) → has r c ≡ true → c.0 ≤ last_counter) → sound r ≡ true
  unfolding sound
  make_sound clear f =
      and_both _ _ (eq-eqb (r.bits % 2) 0 clear)
      (le-leb (highest r) last_counter (highest_least r last_counter f))

pub counter_positive : (c : Counter) → is_counter c ≡ true → 0 < c.0
unfolding is_counter
counter_positive c t = omega (arith, leb-true 1 c.0 (and_left _ _ t))

pub counter_highest : (c : Counter) → is_counter c ≡ true → c.0 ≤ last_counter
unfolding is_counter
counter_highest c t = leb-true c.0 last_counter (and_right (leb 1 c.0) _ t)

pub is_a_counter : (c : Counter) → 0 < c.0 → c.0 ≤ last_counter → is_counter c ≡ true
unfolding is_counter
is_a_counter c p l = and_both _ _ (le-leb 1 c.0 (omega arith)) (le-leb c.0 last_counter l)

pub add_sound : (r : Row) (c : Counter) → sound r ≡ true → is_counter c ≡ true → sound (add r c) ≡ true
add_sound r c t p =
    make_sound (add r c) (add_clear r c (sound_clear r t))
    (λ d h. ⊎_elim (λ k. sound_has r d t k) (λ e. omega (arith, counter_highest c p, same_number e)) ((add_has r c d (counter_positive c p)).0 h))

pub unite_sound : (r s : Row) → sound r ≡ true → sound s ≡ true → sound (unite r s) ≡ true
unite_sound r s t u =
    make_sound (unite r s) (unite_clear r s) (λ c h. ⊎_elim (λ k. sound_has r c t k) (λ k. sound_has s c u k) ((unite_has r s c).0 h))
