-- `tallying::weigh_all` meets its contract. One point after the other (Tally). Assumes nothing.
use lib.ListN.{length}
use Rattle.layout.specs.Clocks.{decode_clock}
use Rattle.layout.specs.Image.{decode}
use Rattle.tallying.proofs.Tally.{Tallying}
use Rattle.tallying.proofs.weigh_all.Given as goal

abbrev pub invariant-loop-i : goal.invariant-loop-i
invariant-loop-i l = Tallying (decode l.image) (decode_clock l.clock) (decode_clock l.rows) l.points (length l.yielded) l.many l.coming l.going l.marks
