-- What a place that a search found in an ascending list is good for: where a thing is placed, and what is kept of the list without a key.
-- Assumes nothing.
use Prim.Native.Nat.{ℕ, zero, suc, ◌<◌}
use mathlib.Core.Path.{◌≡◌, refl, ap, sym, ◌∙◌, subst}
use mathlib.Core.Bool.{Bool, true, false, not}
use mathlib.Core.List.{List, [], ◌∷◌, ◌++◌}
use native.Mathlib.Omega.{arith}
use native.Mathlib.Nat.{le_of_suc-le-suc}
use lib.ListN.{length, take, drop, get_or}
use Rattle.numbers.specs.Words.{keep, all?, ascends?, place}
use Rattle.numbers.proofs.Tests.{by_test, never, and_left, and_right, and_both}
use Rattle.numbers.proofs.Lists.{Tied}
use Rattle.numbers.proofs.Orders.{Order, ascends_rest}

-- ---- any test

module _ {A : Type 0} (f : A → Bool) where
  pub all_at : (xs : List A) → all? f xs ≡ true → (d : A) (i : ℕ) → i < length xs → f (get_or xs i d) ≡ true
  all_at [] t d i l = absurd (omega arith)
  all_at (x ∷ xs) t d zero l = and_left (f x) (all? f xs) t
  all_at (x ∷ xs) t d (suc i) l = all_at xs (and_right (f x) (all? f xs) t) d i (le_of_suc-le-suc l)

  -- a test that follows from another
  pub all_then : (g : A → Bool) → ((x : A) → f x ≡ true → g x ≡ true) → (xs : List A) → all? f xs ≡ true → all? g xs ≡ true
  all_then g h [] t = refl
  all_then g h (x ∷ xs) t = and_both (g x) (all? g xs) (h x (and_left (f x) (all? f xs) t)) (all_then g h xs (and_right (f x) (all? f xs) t))

  keep_first : (x : A) (xs ys : List A) → f x ≡ true → keep f xs ≡ ys → keep f (x ∷ xs) ≡ x ∷ ys
  keep_first x xs ys t e = rw t (λ i. x ∷ e i)

  keep_next : (x : A) (xs : List A) → f x ≡ false → keep f (x ∷ xs) ≡ keep f xs
  keep_next x xs t = rw t

  pub keep_all : (xs : List A) → all? f xs ≡ true → keep f xs ≡ xs
  keep_all [] t = refl
  keep_all (x ∷ xs) t = keep_first x xs xs (and_left (f x) (all? f xs) t) (keep_all xs (and_right (f x) (all? f xs) t))

  -- all before place i pass, and all from there on
  pub all_both : (xs : List A) (i : ℕ) → all? f (take i xs) ≡ true → all? f (drop i xs) ≡ true → all? f xs ≡ true
  all_both xs zero p q = q
  all_both [] (suc i) p q = refl
  all_both (x ∷ xs) (suc i) p q =
      and_both (f x) (all? f xs) (and_left (f x) (all? f (take i xs)) p) (all_both xs i (and_right (f x) (all? f (take i xs)) p) q)

  -- all but the one at place i pass
  pub keep_beside : (xs : List A) (d : A) (i : ℕ) → i < length xs → all? f (take i xs) ≡ true → f (get_or xs i d) ≡ false → all? f (drop 1 (drop i xs)) ≡ true
      → keep f xs ≡ take i xs ++ drop 1 (drop i xs)
  keep_beside [] d i l p o q = absurd (omega arith)
  keep_beside (x ∷ xs) d zero l p o q = keep_next x xs o ∙ keep_all xs q
  keep_beside (x ∷ xs) d (suc i) l p o q =
      keep_first x xs (take i xs ++ drop 1 (drop i xs)) (and_left (f x) (all? f (take i xs)) p)
      (keep_beside xs d i (le_of_suc-le-suc l) (and_right (f x) (all? f (take i xs)) p) o q)

-- ---- any order

module _ {A K : Type 0} (key_of : A → K) (before : K → K → Bool) (O : Order before) where
  -- one thing comes before another where its key does
  abbrev pub by_key : A → A → Bool
  by_key a b = before (key_of a) (key_of b)

  after_not_before : (a b : K) → before a b ≡ true → before b a ≡ false
  after_not_before a b t = by_test (before b a) (λ u. never (O.through a b a t u) (O.itself a)) (λ u. u)

  place_on : (x y : A) (ys zs : List A) → by_key y x ≡ true → place by_key x ys ≡ zs → place by_key x (y ∷ ys) ≡ y ∷ zs
  place_on x y ys zs t e = rw t (λ i. y ∷ e i)

  place_front : (x y : A) (ys : List A) → by_key x y ≡ true → place by_key x (y ∷ ys) ≡ x ∷ y ∷ ys
  place_front x y ys t = rw (after_not_before (key_of x) (key_of y) t, t)

  place_over : (x y : A) (ys : List A) → Tied before (key_of x) (key_of y) → place by_key x (y ∷ ys) ≡ x ∷ ys
  place_over x y ys t = rw (t.1, t.0)

  -- x comes between those before place i and those from there on
  pub place_between : (x : A) (xs : List A) (i : ℕ) → all? (λ y. before (key_of y) (key_of x)) (take i xs) ≡ true → all? (λ y. before (key_of x) (key_of y)) (drop i xs) ≡ true
      → place by_key x xs ≡ take i xs ++ (x ∷ drop i xs)
  place_between x [] zero p q = refl
  place_between x [] (suc i) p q = refl
  place_between x (y ∷ ys) zero p q = place_front x y ys (and_left (by_key x y) (all? (λ z. by_key x z) ys) q)
  place_between x (y ∷ ys) (suc i) p q =
      place_on x y ys (take i ys ++ (x ∷ drop i ys)) (and_left (by_key y x) (all? (λ z. by_key z x) (take i ys)) p)
      (place_between x ys i (and_right (by_key y x) (all? (λ z. by_key z x) (take i ys)) p) q)

  -- the key k stands at place i of a list that ascends: those before it come before it, and those behind it after it
  pub found_splits : (k : K) (xs : List A) (d : A) (i : ℕ) → ascends? by_key xs ≡ true → i < length xs → key_of (get_or xs i d) ≡ k
      → (all? (λ y. before (key_of y) k) (take i xs) ≡ true) × (all? (λ y. before k (key_of y)) (drop 1 (drop i xs)) ≡ true)
  found_splits k [] d i up l e = absurd (omega arith)
  found_splits k (y ∷ ys) d zero up l e = (
    refl,
    subst (λ (z : K). all? (λ a. before z (key_of a)) ys ≡ true) e (and_left (all? (by_key y) ys) (ascends? by_key ys) up),
  )
  found_splits k (y ∷ ys) d (suc i) up l e =
      let rest = found_splits k ys d i (ascends_rest by_key y ys up) (le_of_suc-le-suc l) e in
      let first : before (key_of y) k ≡ true =
      subst (λ (z : K). before (key_of y) z ≡ true) e (all_at (by_key y) ys (and_left (all? (by_key y) ys) (ascends? by_key ys) up) d i (le_of_suc-le-suc l)) in
      (and_both (before (key_of y) k) (all? (λ a. before (key_of a) k) (take i ys)) first rest.0, rest.1)

  -- x takes the place of the one with its key
  pub place_instead : (x : A) (xs : List A) (d : A) (i : ℕ) → ascends? by_key xs ≡ true → i < length xs → key_of (get_or xs i d) ≡ key_of x
      → place by_key x xs ≡ take i xs ++ (x ∷ drop 1 (drop i xs))
  place_instead x [] d i up l e = absurd (omega arith)
  place_instead x (y ∷ ys) d zero up l e =
      place_over x y ys (subst (λ (z : K). Tied before (key_of x) z) (sym e) (O.itself (key_of x), O.itself (key_of x)))
  place_instead x (y ∷ ys) d (suc i) up l e =
      place_on x y ys (take i ys ++ (x ∷ drop 1 (drop i ys)))
      (and_left (by_key y x) (all? (λ a. by_key a x) (take i ys)) (found_splits (key_of x) (y ∷ ys) d (suc i) up l e).0)
      (place_instead x ys d i (ascends_rest by_key y ys up) (le_of_suc-le-suc l) e)

  -- ---- a list without a key

  module _ (same : K → K → Bool) (is_same : (a b : K) → same a b ≡ true → a ≡ b) (itself : (a : K) → same a a ≡ true) where
    abbrev pub other : K → A → Bool
    other k y = not (same k (key_of y))

    apart : (a b : K) → before a b ≡ true → not (same a b) ≡ true
    apart a b t = by_test (same a b) (λ u. never t (subst (λ (z : K). before a z ≡ false) (is_same a b u) (O.itself a))) (λ u. ap not u)

    apart' : (a b : K) → before b a ≡ true → not (same a b) ≡ true
    apart' a b t = by_test (same a b) (λ u. never t (subst (λ (z : K). before z a ≡ false) (is_same a b u) (O.itself a))) (λ u. ap not u)

    -- nothing has the key
    pub all_others : (k : K) (xs : List A) (i : ℕ) → all? (λ y. before (key_of y) k) (take i xs) ≡ true → all? (λ y. before k (key_of y)) (drop i xs) ≡ true
        → all? (other k) xs ≡ true
    all_others k xs i p q =
        all_both (other k) xs i (all_then (λ y. before (key_of y) k) (other k) (λ y. apart' k (key_of y)) (take i xs) p)
        (all_then (λ y. before k (key_of y)) (other k) (λ y. apart k (key_of y)) (drop i xs) q)

    pub keep_between : (k : K) (xs : List A) (i : ℕ) → all? (λ y. before (key_of y) k) (take i xs) ≡ true → all? (λ y. before k (key_of y)) (drop i xs) ≡ true
        → keep (λ y. not (same k (key_of y))) xs ≡ xs
    keep_between k xs i p q = keep_all (other k) xs (all_others k xs i p q)

    -- those before place i have other keys
    pub others_before : (k : K) (xs : List A) (d : A) (i : ℕ) → ascends? by_key xs ≡ true → i < length xs → key_of (get_or xs i d) ≡ k
        → all? (other k) (take i xs) ≡ true
    others_before k xs d i up l e = all_then (λ y. before (key_of y) k) (other k) (λ y. apart' k (key_of y)) (take i xs) (found_splits k xs d i up l e).0

    -- the one with the key goes
    pub keep_but : (k : K) (xs : List A) (d : A) (i : ℕ) → ascends? by_key xs ≡ true → i < length xs → key_of (get_or xs i d) ≡ k
        → keep (λ y. not (same k (key_of y))) xs ≡ take i xs ++ drop 1 (drop i xs)
    keep_but k xs d i up l e =
        keep_beside (other k) xs d i l (others_before k xs d i up l e) (ap not (ap (same k) e ∙ itself k))
        (all_then (λ y. before k (key_of y)) (other k) (λ y. apart k (key_of y)) (drop 1 (drop i xs)) (found_splits k xs d i up l e).1)
