-- A loop that looks for one of a list: it is found, or none of those before i is it. Assumes nothing.
use Prim.Native.Nat.{ℕ, ◌+◌, ◌≤◌, ◌<◌}
use mathlib.Core.Path.{◌≡◌, ap, sym, ◌∙◌}
use mathlib.Core.Bool.{Bool, true, false, not}
use mathlib.Core.List.{List}
use lib.ListN.{length}
use Rattle.numbers.specs.Words.{every, some?}
use Rattle.block.specs.Fields.{upto}
use Rattle.block.proofs.Arrays.{upto_length}
use Rattle.block.proofs.Passing.{some_upto, Passing, one_more, one_fails, all_passed}
use Rattle.layout.specs.Image.{decode}
use Rattle.image.specs.Parts.{stored_count}
use Rattle.image.specs.Apart.{point_at}
use Rattle.image.proofs.Counted.{points_are}

-- none of those before i
abbrev pub Without : {A : Type 0} → (A → Bool) → (ℕ → A) → ℕ → ℕ → Type 0
Without f e n i = Passing n (λ k. not (f (e k))) i

module _ {A : Type 0} (f : A → Bool) (xs : List A) (n : ℕ) (e : ℕ → A) (are : xs ≡ upto n e) (i : ℕ) (before : Without f e n i) where
  looked : not (every (upto n (λ k. not (f (e k))))) ≡ some? f xs
  looked = sym (ap (some? f) are ∙ some_upto f n e)

  pub found : i < n → f (e i) ≡ true → true ≡ some? f xs
  found l t = ap not (one_fails before l (ap not t)) ∙ looked

  pub not_yet : i < n → f (e i) ≡ false → Without f e n (i + 1)
  not_yet l t = one_more before l (ap not t)

  pub nowhere : n ≤ i → false ≡ some? f xs
  nowhere l = ap not (all_passed before l) ∙ looked

-- the records of an image, as many as were counted
pub records_read : (img : List ℕ) (n : ℕ) → n ≡ length (decode img).points → (decode img).points ≡ upto n (point_at img)
records_read img n r =
    points_are img ∙ ap (λ (k : ℕ). upto k (point_at img)) (sym (r ∙ ap length (points_are img) ∙ upto_length (stored_count img) (point_at img)))
