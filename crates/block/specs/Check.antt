-- The check of a block. Assumes nothing.
-- "Check: over the 254 two-byte words of bytes 0-507, s1 is the sum modulo 65535, s2 the sum of the running s1 values modulo 65535; s1
-- at 508, s2 at 510, both at most 65534."
use Rattle.std.specs.Prelude.{ℕ, ◌+◌, ◌*◌, ◌%◌, Bool, ◌&&◌, List, [], ◌∷◌, ◌++◌, take, eqb}
use Rattle.block.specs.declared.Sums.{Sums}
use Rattle.block.specs.Fields.{le, field}

-- one word more
abbrev pub add_word : Sums → ℕ → Sums
add_word s w = record { s1 = (s.s1 + w) % 65535; s2 = (s.s2 + (s.s1 + w) % 65535) % 65535 }

-- the sums go on over two-byte words
unfoldable pub sums_from : Sums → List ℕ → Sums
sums_from s [] = s
sums_from s (a ∷ []) = s
sums_from s (a ∷ b ∷ rest) = sums_from (add_word s (a + 256 * b)) rest

unfoldable pub sums : List ℕ → Sums
sums b = sums_from (record { s1 = 0; s2 = 0 }) (take 508 b)

-- the block of these 508 bytes, with its check
unfoldable pub seal : List ℕ → List ℕ
seal body = body ++ (le 2 (sums body).s1 ++ le 2 (sums body).s2)

-- the check that stands in the block is right
unfoldable pub sealed : List ℕ → Bool
sealed b = eqb (field b 508 2) (sums b).s1 && eqb (field b 510 2) (sums b).s2
