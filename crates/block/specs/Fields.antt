-- Bytes as numbers, and parts of a list of bytes. "Little-endian." Assumes nothing.
use Rattle.std.specs.Prelude.{ℕ, zero, suc, ◌+◌, ◌*◌, ◌-◌, ◌/◌, ◌%◌, List, [], ◌∷◌, ◌++◌, length, take, drop, replicate}

-- the n bytes of a number, the lowest first
unfoldable pub le : ℕ → ℕ → List ℕ
le zero v = []
le (suc n) v = v % 256 ∷ le n (v / 256)

-- the number that bytes make, the lowest first
unfoldable pub number : List ℕ → ℕ
number [] = 0
number (b ∷ bs) = b + 256 * number bs

-- the n elements from a on, and the list with others in their place: the shapes in which a lent part goes out and comes back
abbrev pub cut : {A : Type 0} → List A → ℕ → ℕ → List A
cut l a n = take n (drop a l)

abbrev pub splice : {A : Type 0} → List A → ℕ → ℕ → List A → List A
splice l a n b = take a l ++ (b ++ drop n (drop a l))

-- a list with its i-th put anew, with one more before its i-th, without its i-th
abbrev pub put_at : {A : Type 0} → List A → ℕ → A → List A
put_at l i x = splice l i 1 (x ∷ [])

abbrev pub insert_at : {A : Type 0} → List A → ℕ → A → List A
insert_at l i x = splice l i 0 (x ∷ [])

abbrev pub remove_at : {A : Type 0} → List A → ℕ → List A
remove_at l i = splice l i 1 []

-- the number of n bytes from a on
unfoldable pub field : List ℕ → ℕ → ℕ → ℕ
field b a n = number (cut b a n)

abbrev pub zeros : ℕ → List ℕ
zeros n = replicate n 0

-- "padded with zeros to" n bytes
unfoldable pub pad : ℕ → List ℕ → List ℕ
pad n l = l ++ zeros (n - length l)

-- one thing for each number below n
abbrev pub upto : {A : Type 0} → ℕ → (ℕ → A) → List A
upto zero f = []
upto (suc n) f = f 0 ∷ upto n (λ i. f (suc i))
