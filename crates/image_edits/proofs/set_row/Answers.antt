-- `image::set_row` meets its contract. One part edited and sealed is that block put anew (Lifting). Assumes nothing.
use mathlib.Core.Path.{refl}
use native.Mathlib.Omega.{arith}
use Rattle.block.proofs.Numbers.{bytes_of}
use Rattle.image_edits.proofs.Lifting.{head_part_laid, row_done}
use borrow.Author.Rules.{rules}
use Rattle.image_edits.proofs.set_row.Goals as goal

pub set_row-requires : goal.set_row-requires
set_row-requires c = let img = c.args.image.now in let small = bytes_of c.args.image.now c.slice_known-1.given in let p = c.requires in (omega arith, p.2, head_part_laid img small p.0 p.1)

pub returns : goal.returns
returns c = let img = c.args.image.now in let small = bytes_of c.args.image.now c.slice_known-1.given in let p = c.requires in row_done img small p.0 p.1 _ _ _ _ (omega arith) refl c.seal_block.ensures refl c.args.n c.args.r p.2 (search rules, search rules) c.set_row.ensures
