-- Whether all bytes of a list are zero: by the number that they make, and by what `|` makes of them. Assumes nothing.
use Prim.Native.Nat.{ℕ, ◌+◌, ◌*◌}
use mathlib.Core.Path.{◌≡◌, refl, ap, sym, ◌∙◌}
use mathlib.Core.Bool.{Bool, true, false, ◌&&◌}
use mathlib.Core.List.{List, [], ◌∷◌, ◌++◌}
use native.Mathlib.Omega.{arith}
use lib.Dec.{eqb}
use lib.Bits.{bit_or}
use Rattle.std.specs.List.{fold}
use Rattle.std.proofs.lemmas.Nat.{le_or_l, le_or_r}
use Rattle.block.proofs.Passing.{and_true}
use borrow.Author.Tests.{eq-eqb, ne_eqb, eqb-true}
use Rattle.numbers.specs.Words.{all?}
use Rattle.numbers.proofs.Tests.{same_test, and_left, and_right, and_both}
use Rattle.block.specs.Fields.{number}

and_assoc : (a b c : Bool) → ((a && b) && c) ≡ (a && (b && c))
and_assoc true b c = refl
and_assoc false b c = refl

-- a number is 0 where its bytes are
digit_zero : (b n : ℕ) → (eqb b 0 && eqb n 0) ≡ eqb (b + 256 * n) 0
digit_zero b n =
    same_test (eqb b 0 && eqb n 0) (eqb (b + 256 * n) 0)
    (λ t. eq-eqb (b + 256 * n) 0 (omega (arith, eqb-true b 0 (and_left (eqb b 0) (eqb n 0) t), eqb-true n 0 (and_right (eqb b 0) (eqb n 0) t))))
    (λ t. let e = eqb-true (b + 256 * n) 0 t in and_both (eqb b 0) (eqb n 0) (eq-eqb b 0 (omega arith)) (eq-eqb n 0 (omega arith)))

pub number_zero : (l : List ℕ) → all? (λ x. eqb x 0) l ≡ eqb (number l) 0
unfolding number
number_zero [] = refl
number_zero (b ∷ bs) = ap (λ (t : Bool). eqb b 0 && t) (number_zero bs) ∙ digit_zero b (number bs)

-- what `|` makes of bytes is 0 where all of them are
or_zero : (a b : ℕ) → eqb (bit_or a b) 0 ≡ (eqb a 0 && eqb b 0)
or_zero a b =
    same_test (eqb (bit_or a b) 0) (eqb a 0 && eqb b 0)
    (λ t. let e = eqb-true (bit_or a b) 0 t in and_both (eqb a 0) (eqb b 0) (eq-eqb a 0 (omega (arith, le_or_l a b))) (eq-eqb b 0 (omega (arith, le_or_r a b))))
    (λ t. let e : a ≡ 0 = eqb-true a 0 (and_left (eqb a 0) (eqb b 0) t) in let f : b ≡ 0 = eqb-true b 0 (and_right (eqb a 0) (eqb b 0) t) in rw (e, f) refl)

pub fold_zero : (l : List ℕ) (a : ℕ) → eqb (fold bit_or a l) 0 ≡ (eqb a 0 && all? (λ x. eqb x 0) l)
fold_zero [] a = sym (and_true (eqb a 0))
fold_zero (x ∷ l) a = fold_zero l (bit_or a x) ∙ ap (λ (t : Bool). t && all? (λ y. eqb y 0) l) (or_zero a x) ∙ and_assoc (eqb a 0) (eqb x 0) (all? (λ y. eqb y 0) l)

-- ---- a run of bytes, looked at part by part

all_append : {A : Type 0} (p : A → Bool) (xs ys : List A) → all? p (xs ++ ys) ≡ (all? p xs && all? p ys)
all_append p [] ys = refl
all_append p (x ∷ xs) ys = ap (λ (t : Bool). p x && t) (all_append p xs ys) ∙ sym (and_assoc (p x) (all? p xs) (all? p ys))

abbrev zeros : List ℕ → Bool
zeros = all? (λ x. eqb x 0)

-- n is what `|` makes of the first part of run
module _ (n : ℕ) (run part rest : List ℕ) (is : run ≡ part ++ rest) (made : n ≡ fold bit_or 0 part) where
  both : zeros run ≡ (eqb n 0 && zeros rest)
  both = ap zeros is ∙ all_append (λ x. eqb x 0) part rest ∙ ap (λ (t : Bool). t && zeros rest) (sym (fold_zero part 0) ∙ ap (λ (k : ℕ). eqb k 0) (sym made))

  pub zero_on : n ≡ 0 → zeros run ≡ zeros rest
  zero_on e = both ∙ ap (λ (t : Bool). t && zeros rest) (eq-eqb n 0 e)

  pub zero_not : (n ≡ 0 → ⊥) → false ≡ zeros run
  zero_not e = sym (both ∙ ap (λ (t : Bool). t && zeros rest) (ne_eqb n 0 e))
