-- "Blocks of 512 bytes": what all kinds have in common, and blocks one after the other. Assumes nothing.
use Rattle.std.specs.Prelude.{ℕ, ◌*◌, ◌/◌, List, ◌++◌, ◌≡◌, length, take}
use Rattle.block.specs.Fields.{le, cut, splice, pad, upto}
use Rattle.block.specs.Check.{seal}

-- "Byte 0 kind, 1 format (1), 2-3 position in the sequence, 508-511 check, unused bytes zero."
abbrev pub body : ℕ → ℕ → ℕ → List ℕ → List ℕ
body kind format position content = le 1 kind ++ (le 1 format ++ (le 2 position ++ pad 504 content))

unfoldable pub make_block : ℕ → ℕ → ℕ → List ℕ → List ℕ
make_block kind format position content = seal (body kind format position content)

-- a block with its check made anew
unfoldable pub resealed : List ℕ → List ℕ
resealed b = seal (take 508 b)

-- All but the check is as the layout has it: what the block says, laid out, is the block with its check made anew. Edits keep this, and say what
-- the block then says; the check is made once, after the last of them
abbrev pub Laid : {A : Type 0} → (A → List ℕ) → (List ℕ → A) → List ℕ → Type 0
Laid encode decode b = resealed b ≡ encode (decode b)

-- block k of a run of blocks, and the run with its block k put anew
unfoldable pub block_at : List ℕ → ℕ → List ℕ
block_at run k = cut run (512 * k) 512

unfoldable pub set_block : List ℕ → ℕ → List ℕ → List ℕ
set_block run k b = splice run (512 * k) 512 b

-- all whole blocks of a run
unfoldable pub blocks : List ℕ → List (List ℕ)
blocks run = upto (length run / 512) (block_at run)
