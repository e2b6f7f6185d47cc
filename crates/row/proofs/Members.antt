-- The counters of a row: what `has` says as a fact, and that a row whose bit 0 is clear is determined by its counters. Assumes nothing.
use Prim.Native.Nat.{ℕ, zero, suc, ◌+◌, ◌-◌, ◌/◌, ◌%◌, ◌^◌, ◌≤◌, ◌<◌}
use mathlib.Core.Path.{◌≡◌, refl, sym, ap, ap₂, subst, ◌∙◌}
use mathlib.Core.Logic.{◌⊎◌, inl, inr, ◌↔◌, ⊎_elim, ⊎_map}
use mathlib.Core.Bool.{true, false, ◌||◌}
use native.Mathlib.Nat.{zero-div, div-one}
use native.Mathlib.Omega.{arith}
use lib.Arith.{bin_ind}
use lib.Pow.{shr-shr}
use lib.Bits.{bit_or, or_shr, or_mod}
use lib.Dec.{leb, ltb, eqb}
use borrow.Author.Tests.{ltb-true, leb-true, leb-false, eqb-true, eqb-false, lt-ltb, le-leb, lt-leb, eq-eqb}
use Rattle.numbers.specs.declared.Counter.{Counter}
use Rattle.numbers.specs.Numbers.{counter}
use Rattle.numbers.proofs.Tests.{by_test, and_left, and_right, or_cases}
use Rattle.row.specs.declared.Row.{Row}
use Rattle.row.specs.Row.{none_seen, bit, has}

-- ---- digits

-- the j-th binary digit of n
abbrev pub digit : ℕ → ℕ → ℕ
digit j n = n / 2 ^ j % 2

pub parity : (n : ℕ) → (n % 2 ≡ 0) ⊎ (n % 2 ≡ 1)
parity n = by_test (eqb (n % 2) 0) (λ t. inl (eqb-true (n % 2) 0 t)) (λ f. inr (omega (arith, eqb-false (n % 2) 0 f)))

pub digit_zero : (n : ℕ) → digit 0 n ≡ n % 2
digit_zero n = rw div-one

pub digit_shift : (j k n : ℕ) → digit j (n / 2 ^ k) ≡ digit (k + j) n
digit_shift j k n = ap (λ (x : ℕ). x % 2) (shr-shr n k j)

pub digit_half : (j n : ℕ) → digit j (n / 2) ≡ digit (suc j) n
digit_half j n = digit_shift j 1 n ∙ ap (λ (k : ℕ). digit k n) (omega arith)

digits_none : (n : ℕ) → ((j : ℕ) → digit j n ≡ 0) → n ≡ 0
digits_none =
    bin_ind (λ n. ((j : ℕ) → digit j n ≡ 0) → n ≡ 0) (λ f. refl)
    (λ n ih f. omega (arith, ih (λ j. digit_half j n ∙ f (suc j)), sym (digit_zero n) ∙ f 0))

-- a number is determined by its digits
digits_same : (n m : ℕ) → ((j : ℕ) → digit j n ≡ digit j m) → n ≡ m
digits_same =
    bin_ind (λ n. (m : ℕ) → ((j : ℕ) → digit j n ≡ digit j m) → n ≡ m)
    (λ m f. sym (digits_none m (λ j. sym (f j) ∙ ap (λ (x : ℕ). x % 2) (zero-div (2 ^ j)))))
    (λ n ih m f. omega (arith, ih (m / 2) (λ j. digit_half j n ∙ f (suc j) ∙ sym (digit_half j m)), sym (digit_zero n) ∙ f 0 ∙ digit_zero m))

-- the digits of a or b
digit_or : (j a b : ℕ) → digit j (bit_or a b) ≡ bit_or (digit j a) (digit j b)
digit_or j a b = ap (λ (x : ℕ). x % 2) (or_shr a b j) ∙ or_mod (a / 2 ^ j) (b / 2 ^ j) 1

or_one : (j a b : ℕ) → digit j (bit_or a b) ≡ 1 → (digit j a ≡ 1) ⊎ (digit j b ≡ 1)
or_one j a b h = ⊎_elim (λ p. ⊎_elim (λ q. absurd (omega (arith, zero_one p q))) inr (parity (b / 2 ^ j))) inl (parity (a / 2 ^ j))
  where
    zero_one : digit j a ≡ 0 → digit j b ≡ 0 → ◌≡◌ {A = ℕ} 0 1
    zero_one p q = sym (digit_or j a b ∙ ap₂ bit_or p q) ∙ h

pub or_left : (j a b : ℕ) → digit j a ≡ 1 → digit j (bit_or a b) ≡ 1
or_left j a b p = ⊎_elim (λ q. digit_or j a b ∙ ap₂ bit_or p q) (λ q. digit_or j a b ∙ ap₂ bit_or p q) (parity (b / 2 ^ j))

pub or_right : (j a b : ℕ) → digit j b ≡ 1 → digit j (bit_or a b) ≡ 1
or_right j a b q = ⊎_elim (λ p. digit_or j a b ∙ ap₂ bit_or p q) (λ p. digit_or j a b ∙ ap₂ bit_or p q) (parity (a / 2 ^ j))

-- ---- members

pub same_number : {c d : Counter} → c ≡ d → c.0 ≡ d.0
same_number e = ap (λ (c : Counter). c.0) e

-- the row with base b and bits n has the counter c
pub data Member (b n c : ℕ) : Type 0 where
  low : 0 < c → c ≤ b → Member b n c
  high : (j : ℕ) → c ≡ b + 1 + j → digit j n ≡ 1 → Member b n c

module _ (r : Row) (c : Counter) where
  pub has_positive : has r c ≡ true → 0 < c.0
  unfolding has
  has_positive h = ltb-true 0 c.0 (and_left _ _ h)

  pub member : has r c ≡ true → Member r.base r.bits c.0
  unfolding has bit
  member h = by_test (leb c.0 r.base) in_base (λ f. ⊎_elim in_base (in_bits f) (or_cases _ _ rest))
    where
      j : ℕ
      j = c.0 - (r.base + 1)

      rest : (leb c.0 r.base || bit j r.bits) ≡ true
      rest = and_right (ltb 0 c.0) _ h

      in_base : leb c.0 r.base ≡ true → Member r.base r.bits c.0
      in_base t = low (has_positive h) (leb-true c.0 r.base t)

      in_bits : leb c.0 r.base ≡ false → bit j r.bits ≡ true → Member r.base r.bits c.0
      in_bits f t = high j (omega (arith, leb-false c.0 r.base f)) (eqb-true (digit j r.bits) 1 t)

  pub has_of : Member r.base r.bits c.0 → has r c ≡ true
  unfolding has bit
  has_of (low p l) = simp (lt-ltb 0 c.0 p, le-leb c.0 r.base l)
  has_of (high j e d) = simp (lt-ltb 0 c.0 (omega arith), lt-leb c.0 r.base (omega arith), at_j, eq-eqb (digit j r.bits) 1 d)
    where
      at_j : c.0 - (r.base + 1) ≡ j
      at_j = omega arith

  pub low_has : 0 < c.0 → c.0 ≤ r.base → has r c ≡ true
  low_has p l = has_of (low p l)

  -- a row with no bits has its base and nothing more
  pub whole_has : r.bits ≡ 0 → has r c ≡ true → c.0 ≤ r.base
  whole_has none h = below (member h)
    where
      below : Member r.base r.bits c.0 → c.0 ≤ r.base
      below (low p l) = l
      below (high j e d) = absurd (omega (arith, sym d ∙ ap (digit j) none ∙ ap (λ (x : ℕ). x % 2) (zero-div (2 ^ j))))

pub none_has : (c : Counter) → has none_seen c ≡ false
none_has c = by_test (has none_seen c) (λ t. absurd (omega (arith, has_positive none_seen c t, whole_has none_seen c refl t))) (λ f. f)

-- the members of two rows with one base, together
pub either : (b x y c : ℕ) → Member b (bit_or x y) c ↔ (Member b x c ⊎ Member b y c)
either b x y c = (to, from)
  where
    to : Member b (bit_or x y) c → Member b x c ⊎ Member b y c
    to (low p q) = inl (low p q)
    to (high j e d) = ⊎_map (high j e) (high j e) (or_one j x y d)

    from : Member b x c ⊎ Member b y c → Member b (bit_or x y) c
    from (inl (low p q)) = low p q
    from (inl (high j e d)) = high j e (or_left j x y d)
    from (inr (low p q)) = low p q
    from (inr (high j e d)) = high j e (or_right j x y d)

-- ---- a row with bit 0 clear

abbrev pub Clear : Row → Type 0
Clear r = r.bits % 2 ≡ 0

-- it does not have the counter after its base
pub not_next : (b n : ℕ) → n % 2 ≡ 0 → Member b n (b + 1) → ⊥
not_next b n clear (low p l) = omega arith
not_next b n clear (high zero e d) = omega (arith, sym (digit_zero n) ∙ d)
not_next b n clear (high (suc j) e d) = omega arith

base_le : (b n b' n' : ℕ) → n % 2 ≡ 0 → ((c : ℕ) → Member b' n' c → Member b n c) → b' ≤ b
base_le b n b' n' clear f =
    by_test (leb b' b) (λ t. leb-true b' b t)
    (λ t. absurd (not_next b n clear (f (b + 1) (low (omega arith) (omega (arith, leb-false b' b t))))))

one_of : (b n j : ℕ) → Member b n (b + 1 + j) → digit j n ≡ 1
one_of b n j (low p l) = absurd (omega arith)
one_of b n j (high i e d) = subst (λ (x : ℕ). digit x n ≡ 1) (omega arith) d

same_digit : (b n m : ℕ) → ((c : ℕ) → Member b n c ↔ Member b m c) → (j : ℕ) → digit j n ≡ digit j m
same_digit b n m f j =
    ⊎_elim (λ p. ⊎_elim (λ q. p ∙ sym q) (λ q. one_of b n j ((f (b + 1 + j)).1 (high j refl q)) ∙ sym q) (parity (m / 2 ^ j)))
    (λ p. p ∙ sym (one_of b m j ((f (b + 1 + j)).0 (high j refl p)))) (parity (n / 2 ^ j))

pub row_determined : (r s : Row) → Clear r → Clear s → ((c : Counter) → (has r c ≡ true) ↔ (has s c ≡ true)) → r ≡ s
row_determined r s cr cs f = λ i. record { base = bases i; bits = digits_same r.bits s.bits (same_digit s.base r.bits s.bits at_one_base) i }
  where
    members : (c : ℕ) → Member r.base r.bits c ↔ Member s.base s.bits c
    members c = (λ m. member s (counter c) ((f (counter c)).0 (has_of r (counter c) m)), λ m. member r (counter c) ((f (counter c)).1 (has_of s (counter c) m)))

    bases : r.base ≡ s.base
    bases = omega (arith, base_le r.base r.bits s.base s.bits cr (λ c. (members c).1), base_le s.base s.bits r.base r.bits cs (λ c. (members c).0))

    at_one_base : (c : ℕ) → Member s.base r.bits c ↔ Member s.base s.bits c
    at_one_base = subst (λ (b : ℕ). (c : ℕ) → Member b r.bits c ↔ Member s.base s.bits c) bases members
