-- The part of a reply that is lent for a point. Assumes nothing.
use Prim.Native.Nat.{ℕ, ◌+◌, ◌-◌, ◌*◌}
use mathlib.Core.List.{List}
use mathlib.Core.Path.{◌≡◌}
use lib.ListN.{take, drop}
use Rattle.block.specs.Block.{block_at}
use Rattle.block.proofs.Parts.{part_is}

pub point_part : (reply : List ℕ) (i : ℕ) → take (512 * (1 + i) + 512 - 512 * (1 + i)) (drop (512 * (1 + i)) reply) ≡ block_at reply (1 + i)
unfolding block_at
point_part reply i = part_is reply (512 * (1 + i)) 512
