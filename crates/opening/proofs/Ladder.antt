-- The rows of the table that a call on an image begins with: 1 and 2, and 5 of a point. Assumes nothing.
use Prim.Native.Nat.{ℕ}
use mathlib.Core.Path.{◌≡◌, refl, ap, sym, ◌∙◌}
use mathlib.Core.Bool.{Bool, true, false, ◌&&◌, not}
use mathlib.Core.List.{List}
use lib.ListN.{length}
use borrow.Author.Tests.{eqb-true, eq-eqb, ne_eqb}
use Rattle.numbers.specs.declared.Key.{Key}
use Rattle.numbers.proofs.Tests.{and_left, and_right}
use Rattle.refusal.specs.declared.Refusal.{Refusal}
use Rattle.refusal.specs.declared.Refusal.TheVariants.{WrongLength, ImageNotGood, OutOfRange}
use Rattle.refusal.specs.Refusal.{Answer, refused, accepted, refuse◌when◌else◌, verdict_of}
use Rattle.meaning.specs.State.{State}
use Rattle.meaning.specs.OwnSteps.{ours}
use Rattle.laws.proofs.Answers.{passes_not, then, by_refusal, by_none, accepted_with}
use Rattle.layout.specs.Image.{image_length, decode, good_image}
use Rattle.layout.specs.Calls.{Left, afterwards, whole_image, on_image}
use Rattle.store.proofs.Untouched.{untouched}
use Rattle.opening.specs.Admitted.{opened, admitted}
use Rattle.std.specs.Prelude.{Ok, Err}

pub refused_leaves : (img out : List ℕ) (a : Answer Left) (r : Refusal) → a ≡ refused r → afterwards img out a ≡ untouched r img out
unfolding afterwards
refused_leaves img out a r e = ap (afterwards img out) e

-- ---- rows 1 and 2 as a verdict

module _ (img : List ℕ) (lengths : Bool) where
  pub no_image : (length img ≡ image_length → ⊥) → Err WrongLength ≡ verdict_of (opened img lengths)
  unfolding on_image refuse◌when◌else◌
  no_image h = sym (rw (ap (λ (b : Bool). b && lengths) (ne_eqb (length img) image_length h)))

  module _ (size : length img ≡ image_length) where
    whole : (whole_image img && lengths) ≡ lengths
    whole = ap (λ (b : Bool). b && lengths) (eq-eqb (length img) image_length size)

    pub no_buffer : lengths ≡ false → Err WrongLength ≡ verdict_of (opened img lengths)
    unfolding on_image refuse◌when◌else◌
    no_buffer h = sym (rw (whole ∙ h))

    module _ (right : lengths ≡ true) where
      pub bad_image : good_image img ≡ false → Err ImageNotGood ≡ verdict_of (opened img lengths)
      unfolding on_image refuse◌when◌else◌
      bad_image h = sym (rw (whole ∙ right, h))

      pub may_open : good_image img ≡ true → (Ok tt) ≡ verdict_of (opened img lengths)
      unfolding on_image refuse◌when◌else◌
      may_open h = sym (rw (whole ∙ right, h))

  -- whatever follows them
  same_rows : {A : Type 0} (a g : Bool) (x : Answer A)
      → (refuse WrongLength when not a else refuse ImageNotGood when not g else x) ≡ then (refuse WrongLength when not a else refuse ImageNotGood when not g else accepted true) x
  unfolding refuse◌when◌else◌ then
  same_rows false g x = refl
  same_rows true false x = refl
  same_rows true true x = refl

  whatever : {A : Type 0} (step : State → Answer A) → on_image lengths img step ≡ then (opened img lengths) (step (decode img))
  unfolding on_image
  whatever step = same_rows (whole_image img && lengths) (good_image img) (step (decode img))

  pub refused_first : {A : Type 0} (step : State → Answer A) (r : Refusal) → verdict_of (opened img lengths) ≡ Err r → on_image lengths img step ≡ refused r
  refused_first step r e = whatever step ∙ by_refusal (step (decode img)) (opened img lengths) r e

  pub opened_steps : {A : Type 0} (step : State → Answer A) → verdict_of (opened img lengths) ≡ Ok tt → on_image lengths img step ≡ step (decode img)
  opened_steps step e = whatever step ∙ by_none (step (decode img)) (opened img lengths) e

  pub record Opened : Type 0 where
    pub size : length img ≡ image_length
    pub right : lengths ≡ true
    pub good : good_image img ≡ true

  pub what_is_opened : verdict_of (opened img lengths) ≡ Ok tt → Opened
  unfolding on_image
  what_is_opened e =
      let a = (accepted_with (opened img lengths) e).1 in
      let first = passes_not WrongLength (whole_image img && lengths) _ a in
      let second = passes_not ImageNotGood (good_image img) _ first.1 in
      record {
        size = eqb-true (length img) image_length (and_left (whole_image img) lengths first.0);
        right = and_right (whole_image img) lengths first.0;
        good = second.0;
      }

-- ---- rows 1, 2 and 5

module _ (img : List ℕ) (lengths : Bool) (k : Key) where
  abbrev fifth : State → Answer Bool
  fifth s = refuse OutOfRange when not (ours s k) else accepted true

  pub not_admitted : (r : Refusal) → verdict_of (opened img lengths) ≡ Err r → Err r ≡ verdict_of (admitted img lengths k)
  unfolding admitted
  not_admitted r e = sym (ap verdict_of (refused_first img lengths fifth r e))

  module _ (ok : verdict_of (opened img lengths) ≡ Ok tt) where
    pub not_ours : ours (decode img) k ≡ false → Err OutOfRange ≡ verdict_of (admitted img lengths k)
    unfolding admitted refuse◌when◌else◌
    not_ours h = sym (ap verdict_of (opened_steps img lengths fifth ok) ∙ ap (λ (o : Bool). verdict_of (refuse OutOfRange when not o else accepted true)) h)

    pub may_go_on : ours (decode img) k ≡ true → (Ok tt) ≡ verdict_of (admitted img lengths k)
    unfolding admitted refuse◌when◌else◌
    may_go_on h = sym (ap verdict_of (opened_steps img lengths fifth ok) ∙ ap (λ (o : Bool). verdict_of (refuse OutOfRange when not o else accepted true)) h)

  module _ (step : State → Answer Left) (asks : (s : State) → ours s k ≡ false → step s ≡ refused OutOfRange) where
    begins : on_image lengths img step ≡ then (admitted img lengths k) (step (decode img))
    unfolding on_image admitted then refuse◌when◌else◌
    begins = same_rows_5 (whole_image img && lengths) (good_image img) (ours (decode img) k) (step (decode img)) (asks (decode img))
      where
        same_rows_5 : (a g o : Bool) (x : Answer Left) → (o ≡ false → x ≡ refused OutOfRange)
            → (refuse WrongLength when not a else refuse ImageNotGood when not g else x)
            ≡ then (refuse WrongLength when not a else refuse ImageNotGood when not g else refuse OutOfRange when not o else accepted true) x
        same_rows_5 false g o x h = refl
        same_rows_5 true false o x h = refl
        same_rows_5 true true false x h = h refl
        same_rows_5 true true true x h = refl

    pub not_admitted_first : (r : Refusal) → verdict_of (admitted img lengths k) ≡ Err r → on_image lengths img step ≡ refused r
    not_admitted_first r e = begins ∙ by_refusal (step (decode img)) (admitted img lengths k) r e

    pub admitted_then : verdict_of (admitted img lengths k) ≡ Ok tt → on_image lengths img step ≡ step (decode img)
    admitted_then e = begins ∙ by_none (step (decode img)) (admitted img lengths k) e

  pub record Admitted : Type 0 where
    pub size : length img ≡ image_length
    pub right : lengths ≡ true
    pub good : good_image img ≡ true
    pub mine : ours (decode img) k ≡ true

  pub what_is_admitted : verdict_of (admitted img lengths k) ≡ Ok tt → Admitted
  unfolding admitted on_image
  what_is_admitted e =
      let a = (accepted_with (admitted img lengths k) e).1 in
      let first = passes_not WrongLength (whole_image img && lengths) _ a in
      let second = passes_not ImageNotGood (good_image img) _ first.1 in
      let third = passes_not OutOfRange (ours (decode img) k) _ second.1 in
      record {
        size = eqb-true (length img) image_length (and_left (whole_image img) lengths first.0);
        right = and_right (whole_image img) lengths first.0;
        good = second.0;
        mine = third.0;
      }
