-- Adding counters: a row then has what it had and the counters added, in any order and any number of times. Assumes nothing.
use Prim.Native.Nat.{ℕ, suc, ◌+◌, ◌-◌, ◌/◌, ◌%◌, ◌^◌, ◌≤◌, ◌<◌}
use mathlib.Core.Path.{◌≡◌, refl, ap, ◌∙◌}
use mathlib.Core.Logic.Iff
use mathlib.Core.Logic.{◌⊎◌, inl, inr, ◌↔◌, ⊎_elim, ⊎_map}
use mathlib.Core.Bool.{true}
use mathlib.Core.List.Memᴰ
use mathlib.Core.List.{List, [], ◌∷◌}
use native.Mathlib.Nat.{le_refl, div_self, div-eq_of_lt}
use native.Mathlib.Omega.{arith}
use lib.Pow.{pow-add, pow_pos, pow-lt, shl-shr}
use lib.Bits.{bit_or}
use lib.Dec.{leb, ltb}
use borrow.Author.Tests.{ltb-true, ltb-false, leb-true, leb-false, le-leb, lt-leb}
use Rattle.numbers.specs.declared.Counter.{Counter}
use Rattle.numbers.specs.Words.{fold}
use Rattle.numbers.proofs.Tests.{by_test, ◌∈◌, here, there}
use Rattle.row.specs.declared.Row.{Row}
use Rattle.row.specs.Row.{has, advance, advanced, add}
use Rattle.row.proofs.Members.{digit, same_number, Member, low, high, member, has_of, either, Clear, row_determined}
use Rattle.row.proofs.Advancing.{advanced_member, advanced_clear, advanced_base}

-- ---- the digits of a power of two

pub pow_digit : (i : ℕ) → digit i (2 ^ i) ≡ 1
pow_digit i = ap (λ (x : ℕ). x % 2) (div_self (pow_pos i))

pow_below : (i j k : ℕ) → i ≡ suc k + j → digit j (2 ^ i) ≡ 0
pow_below i j k e =
    ap (λ (x : ℕ). x % 2) (ap (λ (x : ℕ). 2 ^ x / 2 ^ j) e ∙ ap (λ (x : ℕ). x / 2 ^ j) (pow-add 2 (suc k) j) ∙ shl-shr (2 ^ suc k) j) ∙ omega arith

digit_pow : (i j : ℕ) → digit j (2 ^ i) ≡ 1 → j ≡ i
digit_pow i j h =
    by_test (ltb j i) (λ l. absurd (omega (arith, h, below (ltb-true j i l))))
    (λ l. by_test (ltb i j) (λ g. absurd (omega (arith, h, over (ltb-true i j g)))) (λ g. omega (arith, ltb-false j i l, ltb-false i j g)))
  where
    below : j < i → digit j (2 ^ i) ≡ 0
    below l = pow_below i j (i - suc j) (omega arith)

    over : i < j → digit j (2 ^ i) ≡ 0
    over l = ap (λ (x : ℕ). x % 2) (div-eq_of_lt (pow-lt l))

or_member : (b n i d : ℕ) → Member b (bit_or n (2 ^ i)) d ↔ (Member b n d ⊎ (d ≡ b + 1 + i))
or_member b n i d = (λ m. ⊎_elim inl one ((either b n (2 ^ i) d).0 m), λ m. (either b n (2 ^ i) d).1 (⊎_map (λ x. x) (λ e. high i e (pow_digit i)) m))
  where
    one : Member b (2 ^ i) d → Member b n d ⊎ (d ≡ b + 1 + i)
    one (low p l) = inl (low p l)
    one (high j e h) = inr (e ∙ ap (λ (k : ℕ). b + 1 + k) (digit_pow i j h))

-- ---- one counter

-- the row with the bit i set, before its base goes up
abbrev pub with_bit : Row → ℕ → Row
with_bit r i = record { base = r.base; bits = bit_or r.bits (2 ^ i) }

-- a counter is in the base, or stands at a bit
place_of : (b c : ℕ) → (c ≤ b) ⊎ ((i : ℕ) × (c ≡ b + 1 + i))
place_of b c = by_test (leb c b) (λ t. inl (leb-true c b t)) (λ f. inr (c - (b + 1), omega (arith, leb-false c b f)))

module _ (r : Row) (c : Counter) where
  -- the two cases of an add, as equations
  pub add_old : c.0 ≤ r.base → add r c ≡ r
  unfolding add
  add_old l = rw (le-leb c.0 r.base l, add)

  pub add_new : (i : ℕ) → c.0 ≡ r.base + 1 + i → add r c ≡ advanced (with_bit r i)
  unfolding add
  add_new i e = rw (lt-leb c.0 r.base (omega arith), add) (ap (λ (k : ℕ). advanced (with_bit r k)) (omega arith))

  add_member : (d : ℕ) → 0 < c.0 → Member (add r c).base (add r c).bits d ↔ (Member r.base r.bits d ⊎ (d ≡ c.0))
  add_member d pos = ⊎_elim old new (place_of r.base c.0)
    where
      old : c.0 ≤ r.base → Member (add r c).base (add r c).bits d ↔ (Member r.base r.bits d ⊎ (d ≡ c.0))
      old l = rw (add_old l) (inl, ⊎_elim (λ m. m) (λ e. low (omega arith) (omega arith)))

      new : (i : ℕ) × (c.0 ≡ r.base + 1 + i) → Member (add r c).base (add r c).bits d ↔ (Member r.base r.bits d ⊎ (d ≡ c.0))
      new (i, e) = rw (add_new i e, e) (Iff.trans (advanced_member (with_bit r i) d) (or_member r.base r.bits i d))

  pub add_has : (d : Counter) → 0 < c.0 → (has (add r c) d ≡ true) ↔ ((has r d ≡ true) ⊎ (d ≡ c))
  add_has d pos = (
    λ h. ⊎_map (has_of r d) (λ e i. record { 0 = e i }) ((add_member d.0 pos).0 (member (add r c) d h)),
    λ h. has_of (add r c) d ((add_member d.0 pos).1 (⊎_map (member r d) same_number h)),
  )

  pub add_clear : Clear r → Clear (add r c)
  add_clear clear = ⊎_elim (λ l. rw (add_old l) clear) (λ i. rw (add_new i.0 i.1) (advanced_clear (with_bit r i.0))) (place_of r.base c.0)

  pub add_base : r.base ≤ (add r c).base
  add_base = ⊎_elim (λ l. rw (add_old l) (le_refl r.base)) (λ i. rw (add_new i.0 i.1) (advanced_base (with_bit r i.0))) (place_of r.base c.0)

  -- the counter after the base of a row with no bits
  pub add_next : r.bits ≡ 0 → c.0 ≡ r.base + 1 → add r c ≡ record { base = r.base + 1; bits = 0 }
  unfolding advanced advance
  add_next none e = add_new 0 (omega arith) ∙ ap (λ (n : ℕ). advanced (record { base = r.base; bits = bit_or n 1 })) none

-- ---- several

unfoldable pub add_all : Row → List Counter → Row
add_all r cs = fold add r cs

abbrev pub Positive : List Counter → Type 0
Positive cs = (c : Counter) → c ∈ cs → 0 < c.0

pub add_all_has : (r : Row) (cs : List Counter) (d : Counter) → Positive cs → (has (add_all r cs) d ≡ true) ↔ ((has r d ≡ true) ⊎ (d ∈ cs))
unfolding add_all
add_all_has r [] d pos = (inl, ⊎_elim (λ h. h) (λ m. absurd (Memᴰ.not-nil m)))
add_all_has r (c ∷ cs) d pos =
    let rest = add_all_has (add r c) cs d (λ e m. pos e (there m)) in
    let this = add_has r c d (pos c (here refl)) in (
      λ h. ⊎_elim (λ x. ⊎_map (λ y. y) here (this.0 x)) (λ m. inr (there m)) (rest.0 h),
      λ h. rest.1 (⊎_elim (λ x. inl (this.1 (inl x))) (λ m. ⊎_map (λ e. this.1 (inr e)) (λ x. x) (Memᴰ.cases_cons m)) h),
    )

pub add_all_clear : (r : Row) (cs : List Counter) → Clear r → Clear (add_all r cs)
unfolding add_all
add_all_clear r [] h = h
add_all_clear r (c ∷ cs) h = add_all_clear (add r c) cs (add_clear r c h)

-- the same counters in any order, and any number of times, give the same row
pub any_order : (r : Row) (cs ds : List Counter) → Clear r → Positive cs → Positive ds → ((c : Counter) → (c ∈ cs) ↔ (c ∈ ds)) → add_all r cs ≡ add_all r ds
any_order r cs ds clear pc pd same =
    row_determined (add_all r cs) (add_all r ds) (add_all_clear r cs clear) (add_all_clear r ds clear)
    (λ c. (
      λ h. (add_all_has r ds c pd).1 (⊎_map (λ x. x) (same c).0 ((add_all_has r cs c pc).0 h)),
      λ h. (add_all_has r cs c pc).1 (⊎_map (λ x. x) (same c).1 ((add_all_has r ds c pd).0 h)),
    ))
