-- Small words that the definitions are written with; no word of document 01 is defined here. Assumes nothing.
use Rattle.std.specs.Prelude.{ℕ, Bool, true, false, ◌&&◌, ◌||◌, List, [], ◌∷◌, ◌++◌, ltb, eqb, if◌then◌else◌}

-- all tests of a list pass
abbrev pub every : List Bool → Bool
every [] = true
every (b ∷ bs) = b && every bs

module _ {A : Type 0} where
  -- x in front of xs where the test passed
  abbrev pub cons_if : Bool → A → List A → List A
  cons_if true x xs = x ∷ xs
  cons_if false x xs = xs

  -- those of a list that pass a test
  abbrev pub keep : (A → Bool) → List A → List A
  keep f [] = []
  keep f (x ∷ xs) = cons_if (f x) x (keep f xs)

  -- one of them passes; all of them pass
  abbrev pub some? : (A → Bool) → List A → Bool
  some? f [] = false
  some? f (x ∷ xs) = f x || some? f xs

  abbrev pub all? : (A → Bool) → List A → Bool
  all? f [] = true
  all? f (x ∷ xs) = f x && all? f xs

  -- a list ascends strictly: each comes before the next, and so before all that follow
  abbrev pub ascends? : (A → A → Bool) → List A → Bool
  ascends? before [] = true
  ascends? before (x ∷ xs) = all? (before x) xs && ascends? before xs

  -- `place before x xs`: x at its place in an ascending list. One that stands there already, neither before x nor after it, goes
  abbrev pub place : (A → A → Bool) → A → List A → List A
  place before x [] = x ∷ []
  place before x (y ∷ ys) =
      let there = place before x ys in
      if before y x then (y ∷ there) else (if before x y then (x ∷ y ∷ ys) else (x ∷ ys))

  -- each of xs at its place in ys
  abbrev pub place_all : (A → A → Bool) → List A → List A → List A
  place_all before [] ys = ys
  place_all before (x ∷ xs) ys = place before x (place_all before xs ys)

module _ {A B : Type 0} where
  abbrev pub map : (A → B) → List A → List B
  map f [] = []
  map f (x ∷ xs) = f x ∷ map f xs

  abbrev pub concat_map : (A → List B) → List A → List B
  concat_map f [] = []
  concat_map f (x ∷ xs) = f x ++ concat_map f xs

  -- f applied for each of a list, the first one first
  abbrev pub fold : (B → A → B) → B → List A → B
  fold f b [] = b
  fold f b (x ∷ xs) = fold f (f b x) xs

-- two lists of numbers are the same
abbrev pub same_list : List ℕ → List ℕ → Bool
same_list [] [] = true
same_list [] (y ∷ ys) = false
same_list (x ∷ xs) [] = false
same_list (x ∷ xs) (y ∷ ys) = eqb x y && same_list xs ys

-- two pairs of numbers are the same; one comes before the other, by its first number and then by its second
abbrev pub same_pair : ℕ → ℕ → ℕ → ℕ → Bool
same_pair a b c d = eqb a c && eqb b d

abbrev pub pair_before : ℕ → ℕ → ℕ → ℕ → Bool
pair_before a b c d = ltb a c || (eqb a c && ltb b d)
