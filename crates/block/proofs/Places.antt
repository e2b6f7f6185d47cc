-- What stands at a place of a list of which one was put anew, put in or taken out. Assumes nothing.
use Prim.Native.Nat.{ℕ, ◌+◌, ◌-◌, ◌≤◌, ◌<◌}
use mathlib.Core.Path.{◌≡◌, ap, ◌∙◌}
use mathlib.Core.List.{List, ◌∷◌, ◌++◌}
use native.Mathlib.Omega.{arith}
use lib.ListN.{length, take, drop, get_or, length-take, get_or-append}
use lib.Seq.{get_or_at, get_or-append-add, get_or-take, get_or-drop}
use Rattle.block.specs.Fields.{splice}

module _ {A : Type 0} (xs : List A) (i : ℕ) (d : A) where
  module _ (h : i ≤ length xs) (k : ℕ) (ys : List A) where
    front : length (take i xs) ≡ i
    front = length-take i xs ∙ omega arith

    -- before the i-th nothing is another
    pub place_below : (j : ℕ) → j < i → get_or (splice xs i k ys) j d ≡ get_or xs j d
    place_below j l = get_or-append (take i xs) (ys ++ drop k (drop i xs)) d j (omega (arith, front)) ∙ get_or-take i xs j d l

    -- behind those that were put stand those that stood k further on than the i-th
    pub place_above : (j : ℕ) → i + length ys ≤ j → get_or (splice xs i k ys) j d ≡ get_or xs (j - length ys + k) d
    place_above j l =
        ap (λ (n : ℕ). get_or (splice xs i k ys) n d) first
        ∙ get_or-append-add (take i xs) (ys ++ drop k (drop i xs)) (length ys + (j - i - length ys)) d
        ∙ get_or-append-add ys (drop k (drop i xs)) (j - i - length ys) d
        ∙ get_or-drop k (drop i xs) (j - i - length ys) d
        ∙ get_or-drop i xs (k + (j - i - length ys)) d
        ∙ ap (λ (n : ℕ). get_or xs n d) there
      where
        first : j ≡ length (take i xs) + (length ys + (j - i - length ys))
        first = omega (arith, front)

        there : i + (k + (j - i - length ys)) ≡ j - length ys + k
        there = omega arith

  -- at the i-th stands the first that was put
  pub place_here : i ≤ length xs → (k : ℕ) (y : A) (ys : List A) → get_or (splice xs i k (y ∷ ys)) i d ≡ y
  place_here h k y ys = get_or_at (take i xs) y (ys ++ drop k (drop i xs)) d i (length-take i xs ∙ omega arith)
