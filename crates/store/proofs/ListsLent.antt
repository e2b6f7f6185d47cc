-- The two lists of an image as they are lent. Assumes nothing.
use Prim.Native.Nat.{ℕ, ◌*◌, ◌≤◌}
use mathlib.Core.Path.{◌≡◌, refl, subst}
use mathlib.Core.List.{List}
use native.Mathlib.Omega.{arith}
use lib.ListN.{length}
use Rattle.block.specs.Fields.{cut, field}
use Rattle.block.specs.Block.{Laid, block_at}
use Rattle.block.proofs.Numbers.{Bytes, bytes_cut}
use Rattle.block.proofs.Parts.{length_cut, part_is}
use Rattle.layout.specs.Image.{image_length, decode_dots, decode}
use Rattle.dots.specs.DotsBlock.{lay_dots, dots_block}
use Rattle.dots.proofs.Edits.{few_dots, count_is}
use Rattle.image_edits.specs.Edits.{Canonical}
use Rattle.image_edits.proofs.Lifting.{list_part_laid}

module _ (img : List ℕ) (small : Bytes img) (size : length img ≡ image_length) (canonical : Canonical img) where
  pub list_few : (k : ℕ) → 1 ≤ k → k ≤ 2 → field (cut img (512 * k) 512) 4 2 ≤ 60
  list_few k l h =
      let laid : Laid lay_dots dots_block (cut img (512 * k) 512) = subst (Laid lay_dots dots_block) (part_is img (512 * k) 512) (list_part_laid img small size canonical k l h) in
      let long : length (cut img (512 * k) 512) ≡ 512 = length_cut img (512 * k) 512 (omega arith) in
      let bytes : Bytes (cut img (512 * k) 512) = bytes_cut img (512 * k) 512 small in
      omega (arith, count_is (cut img (512 * k) 512) bytes long laid, few_dots (cut img (512 * k) 512) bytes long laid)

pub own_list : (img : List ℕ) → decode_dots (cut img 512 512) ≡ (decode img).own_dots
unfolding decode block_at
own_list img = refl

pub foreign_list : (img : List ℕ) → decode_dots (cut img 1024 512) ≡ (decode img).foreign_dots
unfolding decode block_at
foreign_list img = refl
