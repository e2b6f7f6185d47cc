-- Marks that are set: the new ones stand, those that stood stand still, and a dot whose marks do not both stand is none of those noted. Assumes nothing.
use Prim.Native.Nat.{ℕ, ◌*◌, ◌/◌, ◌%◌, ◌^◌, ◌<◌}
use mathlib.Core.Path.{◌≡◌, ap, ap₂, sym, ◌∙◌, subst}
use mathlib.Core.Bool.{Bool, true, false, ◌&&◌}
use mathlib.Core.List.{List}
use native.Mathlib.Omega.{arith}
use lib.ListN.{length, get_or, set, length-set}
use lib.Seq.{get_or-set_same, get_or-set_other}
use lib.Bits.{bit_or}
use lib.Pow.{shl_exact}
use lib.Dec.{eqb}
use borrow.Author.Tests.{eqb-true, eqb-false, eq-eqb}
use Rattle.numbers.specs.declared.Dot.{Dot}
use Rattle.numbers.specs.Words.{all?}
use Rattle.numbers.proofs.Tests.{by_test, never, and_left, and_right, and_both}
use Rattle.numbers.proofs.Lists.{all_in, in_all}
use Rattle.row.specs.Row.{bit}
use Rattle.row.proofs.Members.{digit, or_left, or_right}
use Rattle.row.proofs.Adding.{pow_digit}
use Rattle.meaning.specs.Object.{Version, has_dot}
use Rattle.laws.proofs.MergeLaws.{has_dot_of}
use Rattle.apart.specs.Marks.{first_mark, second_mark, marked, with_mark, both_marked, with_both}

-- the mark as the code sets it
pub with_mark_is : (ms : List ℕ) (k : ℕ) → set ms (k / 64) (bit_or (get_or ms (k / 64) 0) (1 * 2 ^ (k % 64) % 18446744073709551616)) ≡ with_mark ms k
unfolding with_mark
with_mark_is ms k = ap (λ (x : ℕ). set ms (k / 64) (bit_or (get_or ms (k / 64) 0) x)) (shl_exact 1 (k % 64) 64 (omega arith) (omega arith) ∙ one)
  where
    one : 1 * 2 ^ (k % 64) ≡ 2 ^ (k % 64)
    one = omega arith

marks_length : (ms : List ℕ) (k : ℕ) → length (with_mark ms k) ≡ length ms
unfolding with_mark
marks_length ms k = length-set ms (k / 64) (bit_or (get_or ms (k / 64) 0) (2 ^ (k % 64)))

first_bound : (d : Dot) → first_mark d < 2048
unfolding first_mark
first_bound d = omega arith

second_bound : (d : Dot) → second_mark d < 2048
unfolding second_mark
second_bound d = omega arith

elsewhere : (d : Dot) → second_mark d / 64 ≡ first_mark d / 64 → ⊥
unfolding first_mark second_mark
elsewhere d e = omega arith

-- ---- one mark

untouched : (ms : List ℕ) (k l : ℕ) → (l / 64 ≡ k / 64 → ⊥) → get_or (with_mark ms k) (l / 64) 0 ≡ get_or ms (l / 64) 0
unfolding with_mark
untouched ms k l n = get_or-set_other ms (k / 64) (l / 64) (bit_or (get_or ms (k / 64) 0) (2 ^ (k % 64))) 0 n

module _ (ms : List ℕ) (size : length ms ≡ 32) (k : ℕ) (small : k < 2048) where
  abbrev old : ℕ
  old = get_or ms (k / 64) 0

  here : get_or (with_mark ms k) (k / 64) 0 ≡ bit_or old (2 ^ (k % 64))
  unfolding with_mark
  here = get_or-set_same ms (k / 64) (bit_or old (2 ^ (k % 64))) 0 (omega arith)

  new_one : marked (with_mark ms k) k ≡ true
  unfolding marked bit
  new_one = ap (λ (n : ℕ). eqb (digit (k % 64) n) 1) here ∙ eq-eqb (digit (k % 64) (bit_or old (2 ^ (k % 64)))) 1 (or_right (k % 64) old (2 ^ (k % 64)) (pow_digit (k % 64)))

  old_one : (l : ℕ) → marked ms l ≡ true → marked (with_mark ms k) l ≡ true
  unfolding marked bit
  old_one l t = by_test (eqb (l / 64) (k / 64)) (λ e. same (eqb-true (l / 64) (k / 64) e)) (λ e. other (eqb-false (l / 64) (k / 64) e))
    where
      was : digit (l % 64) (get_or ms (l / 64) 0) ≡ 1
      was = eqb-true (digit (l % 64) (get_or ms (l / 64) 0)) 1 t

      same : l / 64 ≡ k / 64 → eqb (digit (l % 64) (get_or (with_mark ms k) (l / 64) 0)) 1 ≡ true
      same e =
          ap (λ (n : ℕ). eqb (digit (l % 64) n) 1) (ap (λ (n : ℕ). get_or (with_mark ms k) n 0) e ∙ here)
          ∙ eq-eqb (digit (l % 64) (bit_or old (2 ^ (k % 64)))) 1 (or_left (l % 64) old (2 ^ (k % 64)) (ap (λ (n : ℕ). digit (l % 64) (get_or ms n 0)) (sym e) ∙ was))

      other : (l / 64 ≡ k / 64 → ⊥) → eqb (digit (l % 64) (get_or (with_mark ms k) (l / 64) 0)) 1 ≡ true
      other n = ap (λ (x : ℕ). eqb (digit (l % 64) x) 1) (untouched ms k l n) ∙ t

-- ---- both marks of a dot

module _ (ms : List ℕ) (d : Dot) where
  -- the second mark is in another number than the first: setting the first changes nothing about it
  second_after : marked (with_mark ms (first_mark d)) (second_mark d) ≡ marked ms (second_mark d)
  unfolding marked
  second_after = ap (bit (second_mark d % 64)) (untouched ms (first_mark d) (second_mark d) (elsewhere d))

  -- what was answered of the first mark and of the second, and the marks after each
  pub one_then_other : {r s : Bool} {next last : List ℕ} → (r ≡ marked ms (first_mark d)) × (next ≡ with_mark ms (first_mark d)) → (s ≡ marked next (second_mark d)) × (last ≡ with_mark next (second_mark d)) → ((r && s) ≡ both_marked ms d) × (last ≡ with_both ms d)
  unfolding both_marked with_both
  one_then_other p q = (ap₂ ◌&&◌ p.0 (q.0 ∙ ap (λ (x : List ℕ). marked x (second_mark d)) p.1 ∙ second_after), q.1 ∙ ap (λ (x : List ℕ). with_mark x (second_mark d)) p.1)

  pub both_length : length (with_both ms d) ≡ length ms
  unfolding with_both
  both_length = marks_length (with_mark ms (first_mark d)) (second_mark d) ∙ marks_length ms (first_mark d)

  module _ (size : length ms ≡ 32) where
    abbrev then : length (with_mark ms (first_mark d)) ≡ 32
    then = marks_length ms (first_mark d) ∙ size

    one_stands : (l : ℕ) → marked ms l ≡ true → marked (with_both ms d) l ≡ true
    unfolding with_both
    one_stands l t = old_one (with_mark ms (first_mark d)) then (second_mark d) (second_bound d) l (old_one ms size (first_mark d) (first_bound d) l t)

    pub new_stand : both_marked (with_both ms d) d ≡ true
    unfolding both_marked with_both
    new_stand =
        and_both (marked (with_both ms d) (first_mark d)) (marked (with_both ms d) (second_mark d))
        (old_one (with_mark ms (first_mark d)) then (second_mark d) (second_bound d) (first_mark d) (new_one ms size (first_mark d) (first_bound d)))
        (new_one (with_mark ms (first_mark d)) then (second_mark d) (second_bound d))

    pub old_stand : (e : Dot) → both_marked ms e ≡ true → both_marked (with_both ms d) e ≡ true
    unfolding both_marked
    old_stand e t =
        and_both (marked (with_both ms d) (first_mark e)) (marked (with_both ms d) (second_mark e))
        (one_stands (first_mark e) (and_left (marked ms (first_mark e)) (marked ms (second_mark e)) t))
        (one_stands (second_mark e) (and_right (marked ms (first_mark e)) (marked ms (second_mark e)) t))

    -- versions that are noted stay so
    pub noted_still : (vs : List Version) → all? (λ v. both_marked ms v.dot) vs ≡ true → all? (λ v. both_marked (with_both ms d) v.dot) vs ≡ true
    noted_still vs t = in_all (λ v. both_marked (with_both ms d) v.dot) vs (λ v m. old_stand v.dot (all_in (λ v. both_marked ms v.dot) vs t m))

-- a dot whose marks do not both stand is the dot of none that is noted
pub unmarked_none : (ms : List ℕ) (vs : List Version) (d : Dot) → all? (λ v. both_marked ms v.dot) vs ≡ true → both_marked ms d ≡ false → has_dot vs d ≡ false
unmarked_none ms vs d t f =
    by_test (has_dot vs d)
    (λ h. let q = has_dot_of vs d h in never (subst (λ (e : Dot). both_marked ms e ≡ true) q.2 (all_in (λ v. both_marked ms v.dot) vs t q.1)) f)
    (λ h. h)
