-- `noting::next_in_point` meets its contract. The invariant: the versions before i were looked at (arriving's Folding). Assumes nothing.
use Prim.Native.Nat.{◌-◌}
use Rattle.block.specs.Fields.{field}
use Rattle.layout.specs.Image.{decode}
use Rattle.record.proofs.Reading.{version_at}
use Rattle.arriving.proofs.Folding.{Folded}
use Rattle.noting.proofs.Looking.{look_at}
use Rattle.noting.proofs.next_in_point.Given as goal

abbrev pub invariant-loop-i : goal.invariant-loop-i
invariant-loop-i l = Folded (look_at (decode l.image) l.k l.last) (field l.b 5 1) (version_at l.b) l.initial.best l.i l.best
