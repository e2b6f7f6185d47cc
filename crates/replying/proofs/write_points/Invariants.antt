-- `replying::write_points` meets its contract. The invariant: so many of the points are written, and the rest lie behind the last one (Sending). Assumes nothing.
use Prim.Native.Nat.{◌-◌}
use Rattle.layout.specs.Image.{decode}
use Rattle.layout.specs.Messages.{decode_ask}
use Rattle.replying.proofs.Sending.{Sending}
use Rattle.replying.proofs.write_points.Given as goal

abbrev pub invariant-loop-k : goal.invariant-loop-k
invariant-loop-k l = Sending (decode l.image) (decode_ask l.message) l.initial.out l.last l.sent l.out

abbrev pub decreases-loop-k : goal.decreases-loop-k
decreases-loop-k l = 120 - l.sent
