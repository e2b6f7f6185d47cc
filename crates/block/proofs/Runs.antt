-- Blocks of a run of blocks: their bytes, and those of the rest of the run. Assumes nothing.
use Prim.Native.Nat.{ℕ, suc, ◌+◌, ◌*◌, ◌-◌}
use mathlib.Core.Path.{◌≡◌, refl, ap, ◌∙◌}
use mathlib.Core.List.{List}
use native.Mathlib.Omega.{arith}
use lib.ListN.{length, take, drop, length-drop}
use lib.Seq.{take_all, drop-drop}
use Rattle.block.specs.Fields.{cut}
use Rattle.block.specs.Block.{block_at}
use Rattle.block.proofs.Numbers.{Bytes, bytes_cut}
use Rattle.block.proofs.Parts.{part_is}

pub block_bytes : (run : List ℕ) → Bytes run → (k : ℕ) → Bytes (block_at run k)
unfolding block_at
block_bytes run small k = bytes_cut run (512 * k) 512 small

pub block_zero : (run : List ℕ) → cut run 0 512 ≡ block_at run 0
unfolding block_at
block_zero run = refl

pub block_of_drop : (run : List ℕ) (j k : ℕ) → block_at (drop (512 * j) run) k ≡ block_at run (j + k)
unfolding block_at
block_of_drop run j k = ap (take 512) (drop-drop (512 * k) (512 * j) run ∙ ap (λ (o : ℕ). drop o run) there)
  where
    there : 512 * j + 512 * k ≡ 512 * (j + k)
    there = omega arith

pub block_later : (run : List ℕ) (k : ℕ) → block_at (drop 512 run) k ≡ block_at run (suc k)
block_later run k = block_of_drop run 1 k ∙ ap (block_at run) there
  where
    there : 1 + k ≡ suc k
    there = omega arith

-- a block, and all from o on, as they are lent
pub block_part : (run : List ℕ) (k : ℕ) → take (512 * k + 512 - 512 * k) (drop (512 * k) run) ≡ block_at run k
unfolding block_at
block_part run k = part_is run (512 * k) 512

pub lent_rest : (run : List ℕ) (o : ℕ) → take (length run - o) (drop o run) ≡ drop o run
lent_rest run o = take_all (length run - o) (drop o run) (omega (arith, length-drop o run))
