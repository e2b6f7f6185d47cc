-- `arriving::enter_rows` meets its contract. The invariant: the rows below n have taken what arrives (Rows). Assumes nothing.
use mathlib.Core.Path.{◌≡◌}
use lib.ListN.{length}
use Rattle.layout.specs.Clocks.{decode_clock}
use Rattle.layout.specs.Image.{decode}
use Rattle.arriving.specs.Sent.{points_in}
use Rattle.arriving.proofs.Rows.{Entered}
use Rattle.arriving.proofs.enter_rows.Given as goal

abbrev pub invariant-loop-n : goal.invariant-loop-n
invariant-loop-n l = Entered (decode l.image) (decode_clock l.initial.rows) (points_in l.points) l.n (decode_clock l.rows) × (length l.rows ≡ 96)
