-- What the code of a row computes is what the definitions say: a law for each way through it. Assumes nothing.
use Prim.Native.Nat.{ℕ, zero, suc, ◌+◌, ◌-◌, ◌*◌, ◌/◌, ◌%◌, ◌^◌, ◌≤◌, ◌<◌}
use mathlib.Core.Path.{◌≡◌, refl, ap, ◌∙◌}
use mathlib.Core.Logic.{⊎_elim}
use mathlib.Core.Bool.{true}
use mathlib.Core.List.{[]}
use native.Mathlib.Omega.{arith}
use native.Mathlib.Nat.{div-one, add-zero, one-mul, sub_self, max-eq_right, le_refl, mod-eq_of_lt}
use lib.Arith.{half_le}
use lib.Count.{count_trailing_zeros}
use lib.Pow.{shr-shr, pow_pos, pow-lt}
use lib.Bits.{bit_or}
use lib.Dec.{ltb, eqb}
use borrow.Author.Tests.{lt-ltb, le-leb, lt-leb}
use Rattle.numbers.specs.declared.Counter.{Counter}
use Rattle.numbers.specs.Numbers.{last_counter}
use Rattle.numbers.proofs.Tests.{by_test}
use Rattle.row.specs.declared.Row.{Row}
use Rattle.row.specs.Row.{has, bit, advance, advanced, add, unite, sound, add_up}
use Rattle.row.proofs.Members.{parity}
use Rattle.row.proofs.Advancing.{advance_even, advance_odd, advance_clear}
use Rattle.row.proofs.Adding.{add_old, add_new, add_all}
use Rattle.row.proofs.Highest.{small_fits, add_fits, add_sound, unite_sound, is_a_counter, sound_base, sound_clear}
use Rattle.row.proofs.Ascending.{too_far}
use Rattle.std.specs.Prelude.{Some, None}

-- ---- the run of set low bits

-- the set low digits of a number of k digits are the low zeros of its complement
abbrev pub run : ℕ → ℕ → ℕ
run k n = count_trailing_zeros k ((2 ^ k - 1) - n)

run_even : (k n : ℕ) → n < 2 ^ suc k → n % 2 ≡ 0 → run (suc k) n ≡ 0
unfolding count_trailing_zeros
run_even k n l e = rw odd
  where
    odd : (2 ^ suc k - 1 - n) % 2 ≡ 1
    odd = omega arith

run_odd : (k n : ℕ) → n < 2 ^ suc k → n % 2 ≡ 1 → run (suc k) n ≡ suc (run k (n / 2))
unfolding count_trailing_zeros
run_odd k n l e = rw (even, half)
  where
    even : (2 ^ suc k - 1 - n) % 2 ≡ 0
    even = omega arith

    half : (2 ^ suc k - 1 - n) / 2 ≡ 2 ^ k - 1 - n / 2
    half = omega arith

one_more : (b n t : ℕ) → ◌≡◌ {A = Row} (record { base = b + 1 + t; bits = n / 2 / 2 ^ t }) (record { base = b + suc t; bits = n / 2 ^ suc t })
one_more b n t = λ i. record { base = sums i; bits = halves i }
  where
    sums : b + 1 + t ≡ b + suc t
    sums = omega arith

    halves : n / 2 / 2 ^ t ≡ n / 2 ^ suc t
    halves = shr-shr n 1 t ∙ ap (λ (x : ℕ). n / 2 ^ x) (omega arith)

-- to advance is to count the run and to shift by it
advance_run : (k f b n : ℕ) → n < 2 ^ k → n ≤ f → advance f b n ≡ record { base = b + run k n; bits = n / 2 ^ run k n }
advance_run zero f b n l h = rw none (advance_clear f b 0 refl ∙ rw (none_run, div-one, add-zero))
  where
    none : n ≡ 0
    none = omega arith

    none_run : run 0 0 ≡ 0
    none_run = unfold count_trailing_zeros in refl
advance_run (suc k) zero b n l h = rw none (advance_clear 0 b 0 refl ∙ rw (run_even k 0 (pow_pos (suc k)) refl, div-one, add-zero))
  where
    none : n ≡ 0
    none = omega arith
advance_run (suc k) (suc f) b n l h =
    ⊎_elim (λ e. rw (advance_even f b n e, run_even k n l e, div-one, add-zero))
    (λ o. rw (advance_odd f b n o, run_odd k n l o, advance_run k f (b + 1) (n / 2) (omega arith) (half_le h)) (one_more b n (run k (n / 2)))) (parity n)

pub advanced_run : (b n : ℕ) → n < 2 ^ 64 → advanced (record { base = b; bits = n }) ≡ record { base = b + run 64 n; bits = n / 2 ^ run 64 n }
unfolding advanced
advanced_run b n l = advance_run 64 n b n l (le_refl n)

-- ---- `has` and `add`

module _ (r : Row) (c : Counter) where
  pub has_low : c.0 ≤ r.base → has r c ≡ ltb 0 c.0
  unfolding has
  has_low l = by_test (ltb 0 c.0) (λ t. rw (t, le-leb c.0 r.base l)) (λ f. rw f)

  pub has_bit : r.base < c.0 → has r c ≡ eqb (r.bits / 2 ^ (c.0 - r.base - 1) % 2) 1
  unfolding has bit
  has_bit l = simp (lt-ltb 0 c.0 (omega arith), lt-leb c.0 r.base l, same)
    where
      same : c.0 - (r.base + 1) ≡ c.0 - r.base - 1
      same = omega arith

  pub add_up_old : c.0 ≤ r.base → r.bits < 2 ^ 64 → add_up r c ≡ Some r
  unfolding add_up
  add_up_old l small = rw (add_old r c l, small_fits r small)

  pub add_up_far : sound r ≡ true → r.base < c.0 → 64 ≤ c.0 - r.base - 1 → add_up r c ≡ None
  unfolding add_up add_all
  add_up_far t l far = rw (too_far r c [] (sound_clear r t) (omega arith) tt)

  -- the row with the bit set, as the code makes it, before its base goes up
  abbrev pub raw : Row
  raw = record { base = r.base; bits = bit_or r.bits (1 * 2 ^ (c.0 - r.base - 1) % 2 ^ 64) }

  module _ (l : r.base < c.0) (near : c.0 - r.base - 1 < 64) where
    added : add r c ≡ advanced raw
    added = add_new r c (c.0 - r.base - 1) (omega arith) ∙ rw (one-mul, mod-eq_of_lt (pow-lt near))

    pub add_up_new : r.bits < 2 ^ 64 → add_up r c ≡ Some (advanced raw)
    unfolding add_up
    add_up_new small = rw (add_fits r c (small_fits r small) (omega arith) (omega arith)) (ap Some added)

    pub raw_base : sound r ≡ true → c.0 ≤ last_counter → (advanced raw).base ≤ last_counter
    raw_base t h = rw added at (sound_base (add r c) (add_sound r c t (is_a_counter c (omega arith) h)))

-- ---- `unite`

-- where the first base is not the higher one; x is the bits at that base, shifted to the other
module _ (r s : Row) (x : ℕ) (l : r.base ≤ s.base) (e : x ≡ r.bits / 2 ^ (s.base - r.base)) where
  pub unite_up : unite r s ≡ advanced (record { base = s.base; bits = bit_or x s.bits })
  unfolding unite
  unite_up = rw (e, max-eq_right l, sub_self, div-one)

  pub unite_up_base : sound r ≡ true → sound s ≡ true → (advanced (record { base = s.base; bits = bit_or x s.bits })).base ≤ last_counter
  unite_up_base t u = rw unite_up at (sound_base (unite r s) (unite_sound r s t u))
