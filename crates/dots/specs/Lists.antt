-- The two lists of an image: the block that each stands in, and whose dots it holds. Assumes nothing.
use Rattle.std.specs.Prelude.{ℕ, Bool, true, false}
use Rattle.dots.specs.declared.DotList.{DotList}
use Rattle.dots.specs.declared.DotList.TheVariants.{Own, Foreign}

-- the own dots stand in block 1, the foreign ones in block 2
abbrev pub list_block : DotList → ℕ
list_block Own = 1
list_block Foreign = 2

-- one of them holds own dots, the other none
abbrev pub is_own : DotList → Bool
is_own Own = true
is_own Foreign = false
