-- The block of a list is block 1 or block 2. Assumes nothing.
use Prim.Native.Nat.{◌≤◌}
use native.Mathlib.Omega.{arith}
use Rattle.dots.specs.declared.DotList.{DotList}
use Rattle.dots.specs.declared.DotList.TheVariants.{Own, Foreign}
use Rattle.dots.specs.Lists.{list_block}

pub block_low : (l : DotList) → 1 ≤ list_block l
block_low Own = omega arith
block_low Foreign = omega arith

pub block_high : (l : DotList) → list_block l ≤ 2
block_high Own = omega arith
block_high Foreign = omega arith
