-- `image::set_mark` meets its contract. One part edited and sealed is that block put anew (Lifting). Assumes nothing.
use mathlib.Core.Path.{refl}
use native.Mathlib.Omega.{arith}
use Rattle.block.proofs.Numbers.{bytes_of}
use Rattle.image_edits.proofs.Lifting.{head_part_laid, mark_done}
use Rattle.image_edits.proofs.set_mark.Goals as goal

pub set_mark-requires : goal.set_mark-requires
set_mark-requires c = let img = c.args.image.now in let small = bytes_of c.args.image.now c.slice_known-1.given in let p = c.requires in (omega arith, p.2, p.3, head_part_laid img small p.0 p.1)

pub returns : goal.returns
returns c = let img = c.args.image.now in let small = bytes_of c.args.image.now c.slice_known-1.given in let p = c.requires in mark_done img small p.0 p.1 _ _ _ _ (omega arith) refl c.seal_block.ensures refl c.args.m c.args.n c.args.base p.2 p.3 (omega arith) c.set_mark.ensures
