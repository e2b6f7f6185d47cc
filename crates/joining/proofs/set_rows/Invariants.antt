-- `joining::set_rows` meets its contract. The invariant: the rows below n are set (RowsSet). Assumes nothing.
use Rattle.layout.specs.Clocks.{decode_clock}
use Rattle.layout.specs.Image.{decode}
use Rattle.joining.proofs.RowsSet.{Set}
use Rattle.joining.proofs.set_rows.Given as goal

abbrev pub invariant-loop-n : goal.invariant-loop-n
invariant-loop-n l = Set (decode l.initial.image) (decode_clock l.rows) l.n l.image
