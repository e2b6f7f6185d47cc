-- `joining::set_rows` meets its contract. The invariant: the rows below n are set (RowsSet). Assumes nothing.
use borrow.Author.Rules.{rules}
use mathlib.Core.Path.{refl}
use Rattle.block.proofs.Numbers.{bytes_of}
use Rattle.layout.specs.Clocks.{decode_clock}
use Rattle.layout.specs.Image.{decode}
use Rattle.image_edits.proofs.Blocks.{image_decoded}
use Rattle.arriving.proofs.Rows.{decoded_eight}
use Rattle.joining.proofs.RowsSet.{row_set, rows_set}
use native.Mathlib.Omega.{arith}
use Rattle.joining.proofs.set_rows.Goals as goal

pub loop-n-init : goal.loop-n-init
loop-n-init c = record { low = omega arith; size = c.requires.0; canonical = c.requires.1; is = refl; eight = (image_decoded c.args.image.now (bytes_of c.args.image.now c.type_inv.image) c.requires.0).head.clock.eight; done = λ m c h. absurd (omega (arith, c.0, h)) }

pub loop-n-preserved : goal.loop-n-preserved
loop-n-preserved c = row_set (decode c.args.image.now) (decode_clock c.args.rows.now) c.loop-n.n c.loop-n.image c.loop-n.invariant (omega arith) c.row_at.result c.row_at.ensures _ (search rules) c.set_row.ensures

pub returns : goal.returns
returns c = rows_set (decode c.args.image.now) (decode_clock c.args.rows.now) c.loop-n.n c.loop-n.image c.loop-n.invariant (omega arith) (decoded_eight c.args.rows.now)
