-- The base that goes up over the run of set low bits: the row keeps its counters, and bit 0 is clear afterwards. Assumes nothing.
use Prim.Native.Nat.{ℕ, zero, suc, ◌+◌, ◌/◌, ◌%◌, ◌≤◌}
use mathlib.Core.Path.{◌≡◌, refl, sym, ◌∙◌}
use mathlib.Core.Logic.Iff
use mathlib.Core.Logic.{◌↔◌, ⊎_elim}
use native.Mathlib.Nat.{le_refl}
use native.Mathlib.Omega.{arith}
use lib.Arith.{half_le}
use lib.Dec.{leb}
use borrow.Author.Tests.{leb-true, leb-false}
use Rattle.numbers.proofs.Tests.{by_test}
use Rattle.row.specs.declared.Row.{Row}
use Rattle.row.specs.Row.{advance, advanced}
use Rattle.row.proofs.Members.{Member, low, high, Clear, parity, digit_zero, digit_half}

-- the two cases of a step, as equations
pub advance_even : (k b n : ℕ) → n % 2 ≡ 0 → advance (suc k) b n ≡ record { base = b; bits = n }
unfolding advance
advance_even k b n e = rw (e, advance)

pub advance_odd : (k b n : ℕ) → n % 2 ≡ 1 → advance (suc k) b n ≡ advance k (b + 1) (n / 2)
unfolding advance
advance_odd k b n e = rw (e, advance)

pub advance_clear : (k b n : ℕ) → n % 2 ≡ 0 → advance k b n ≡ record { base = b; bits = n }
advance_clear zero b n e = unfold advance in refl
advance_clear (suc k) b n e = advance_even k b n e

-- one step keeps the members
step_down : (b n c : ℕ) → n % 2 ≡ 1 → Member (b + 1) (n / 2) c → Member b n c
step_down b n c odd (low p l) =
    by_test (leb c b) (λ t. low p (leb-true c b t)) (λ f. high 0 (omega (arith, leb-false c b f)) (digit_zero n ∙ odd))
step_down b n c odd (high j e d) = high (suc j) (omega arith) (sym (digit_half j n) ∙ d)

step_up : (b n c : ℕ) → n % 2 ≡ 1 → Member b n c → Member (b + 1) (n / 2) c
step_up b n c odd (low p l) = low p (omega arith)
step_up b n c odd (high zero e d) = low (omega arith) (omega arith)
step_up b n c odd (high (suc j) e d) = high j (omega arith) (digit_half j n ∙ d)

advance_member : (k b n c : ℕ) → Member (advance k b n).base (advance k b n).bits c ↔ Member b n c
advance_member zero b n c = unfold advance in Iff.rfl
advance_member (suc k) b n c =
    ⊎_elim (λ e. rw (advance_even k b n e) Iff.rfl)
    (λ e. rw (advance_odd k b n e) (Iff.trans (advance_member k (b + 1) (n / 2) c) (step_down b n c e, step_up b n c e)))
    (parity n)

-- with enough steps bit 0 is clear
advance_ends : (k b n : ℕ) → n ≤ k → (advance k b n).bits % 2 ≡ 0
advance_ends zero b n h = unfold advance in (omega arith)
advance_ends (suc k) b n h =
    ⊎_elim (λ e. rw (advance_even k b n e) e) (λ e. rw (advance_odd k b n e) (advance_ends k (b + 1) (n / 2) (half_le h))) (parity n)

advance_base : (k b n : ℕ) → b ≤ (advance k b n).base
advance_base zero b n = unfold advance in le_refl b
advance_base (suc k) b n =
    ⊎_elim (λ e. rw (advance_even k b n e) (le_refl b)) (λ e. rw (advance_odd k b n e) (omega (arith, advance_base k (b + 1) (n / 2)))) (parity n)

-- the same of a row
module _ (r : Row) where
  pub advanced_member : (c : ℕ) → Member (advanced r).base (advanced r).bits c ↔ Member r.base r.bits c
  unfolding advanced
  advanced_member c = advance_member r.bits r.base r.bits c

  pub advanced_clear : Clear (advanced r)
  unfolding advanced
  advanced_clear = advance_ends r.bits r.base r.bits (le_refl r.bits)

  pub advanced_base : r.base ≤ (advanced r).base
  unfolding advanced
  advanced_base = advance_base r.bits r.base r.bits

  -- with bit 0 clear there is nothing to do
  pub advanced_already : Clear r → advanced r ≡ r
  unfolding advanced
  advanced_already clear = advance_clear r.bits r.base r.bits clear
