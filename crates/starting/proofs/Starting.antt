-- The definition of start, case by case. Assumes nothing.
use Prim.Native.Nat.{ℕ, ◌≤◌, ◌<◌}
use mathlib.Core.Path.{◌≡◌, ap, ◌∙◌}
use mathlib.Core.Bool.{Bool, true, false, ◌&&◌}
use mathlib.Core.List.{List, []}
use lib.ListN.{length}
use lib.Dec.{leb, eqb}
use borrow.Author.Tests.{eq-eqb, ne_eqb, le-leb, lt-leb}
use Rattle.numbers.specs.Numbers.{controller, is_controller}
use Rattle.refusal.specs.declared.Refusal.{Refusal}
use Rattle.refusal.specs.declared.Refusal.TheVariants.{WrongLength, OutOfRange}
use Rattle.refusal.specs.Refusal.{refuse◌when◌else◌}
use Rattle.meaning.specs.OwnSteps.{fresh, start}
use Rattle.layout.specs.Image.{image_length, encode}
use Rattle.layout.specs.Calls.{After, afterwards, whole_image, start_call}
use Rattle.std.specs.Prelude.{Ok, Err}

-- refused with r, and all as it was
abbrev leaves : Refusal → List ℕ → After
leaves r img = record { verdict = Err r; image = img; out = []; count = 0 }

module _ (img : List ℕ) (n : ℕ) (t : List ℕ) where
  wrong : (whole_image img && eqb (length t) 8) ≡ false → start_call img n t ≡ leaves WrongLength img
  unfolding start_call afterwards refuse◌when◌else◌
  wrong e = rw e

  pub wrong_image : (length img ≡ image_length → ⊥) → start_call img n t ≡ leaves WrongLength img
  wrong_image h = wrong (ap (λ (b : Bool). b && eqb (length t) 8) (ne_eqb (length img) image_length h))

  pub wrong_table : length img ≡ image_length → (length t ≡ 8 → ⊥) → start_call img n t ≡ leaves WrongLength img
  wrong_table e h = wrong (ap (λ (b : Bool). b && eqb (length t) 8) (eq-eqb (length img) image_length e) ∙ ne_eqb (length t) 8 h)

  module _ (e : length img ≡ image_length) (f : length t ≡ 8) where
    right : (whole_image img && eqb (length t) 8) ≡ true
    right = ap (λ (b : Bool). b && eqb (length t) 8) (eq-eqb (length img) image_length e) ∙ eq-eqb (length t) 8 f

    no_number : is_controller (controller n) ≡ false → start_call img n t ≡ leaves OutOfRange img
    unfolding start_call afterwards refuse◌when◌else◌ start
    no_number h = rw (right, h)

    pub number_zero : n < 1 → start_call img n t ≡ leaves OutOfRange img
    unfolding is_controller
    number_zero h = no_number (ap (λ (b : Bool). b && leb n 8) (lt-leb 1 n h))

    pub number_large : 1 ≤ n → 8 < n → start_call img n t ≡ leaves OutOfRange img
    unfolding is_controller
    number_large g h = no_number (ap (λ (b : Bool). b && leb n 8) (le-leb 1 n g) ∙ lt-leb n 8 h)

    pub started : 1 ≤ n → n ≤ 8 → start_call img n t ≡ record { verdict = Ok tt; image = encode (fresh (controller n) t); out = []; count = 0 }
    unfolding start_call afterwards refuse◌when◌else◌ start is_controller
    started g h = rw (right, le-leb 1 n g, le-leb n 8 h)
