-- A loop that takes one thing after the other. Assumes nothing.
use Prim.Native.Nat.{ℕ, ◌+◌, ◌≤◌, ◌<◌}
use mathlib.Core.Path.{◌≡◌, refl, ap, sym, ◌∙◌}
use mathlib.Core.List.{List, [], ◌∷◌, ◌++◌}
use native.Mathlib.Numerals.{add-one}
use native.Mathlib.Omega.{arith}
use lib.ListN.{length, drop, drop_of_length-le}
use lib.Seq.{drop-cons}
use Rattle.numbers.specs.Words.{fold}
use Rattle.block.specs.Fields.{upto}
use Rattle.block.proofs.Arrays.{upto_length, upto_at}

-- of the first n things i are taken, from b₀, and gave b
pub record Folded {A B : Type 0} (f : B → A → B) (n : ℕ) (e : ℕ → A) (b₀ : B) (i : ℕ) (b : B) : Type 0 where
  pub within : i ≤ n
  pub rest : fold f b (drop i (upto n e)) ≡ fold f b₀ (upto n e)

pub none_folded : {A B : Type 0} (f : B → A → B) (n : ℕ) (e : ℕ → A) (b : B) → Folded f n e b 0 b
none_folded f n e b = record { within = omega arith; rest = refl }

module _ {A B : Type 0} {f : B → A → B} {n : ℕ} {e : ℕ → A} {b₀ : B} {i : ℕ} {b : B} (F : Folded f n e b₀ i b) where
  pub folded_more : i < n → (c : B) → c ≡ f b (e i) → Folded f n e b₀ (i + 1) c
  folded_more l c q = record {
    within = omega arith;
    rest = ap (λ (x : B). fold f x (drop (i + 1) (upto n e))) q ∙ sym (ap (fold f b) next) ∙ F.rest;
  }
    where
      next : drop i (upto n e) ≡ e i ∷ drop (i + 1) (upto n e)
      next =
          let h : i < length (upto n e) = omega (arith, upto_length n e) in
          rw (add-one i, drop-cons (upto n e) i (e i) h, upto_at n e (e i) i l)

  pub folded_all : n ≤ i → b ≡ fold f b₀ (upto n e)
  folded_all h =
      let none : drop i (upto n e) ≡ [] = drop_of_length-le (upto n e) {i = i} (omega (arith, upto_length n e)) in
      sym (ap (fold f b) none) ∙ F.rest

pub fold_append : {A B : Type 0} (f : B → A → B) (b : B) (xs ys : List A) → fold f b (xs ++ ys) ≡ fold f (fold f b xs) ys
fold_append f b [] ys = refl
fold_append f b (x ∷ xs) ys = fold_append f (f b x) xs ys
