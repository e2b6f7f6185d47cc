-- `merging::put_arriving` meets its contract. The invariant: those from the i-th on that arrive are put (Arriving). Assumes nothing.
use Rattle.record_edits.specs.Written.{point_block}
use Rattle.object.proofs.Counting.{stays}
use Rattle.merging.proofs.Arriving.{Arrived}
use Rattle.merging.proofs.put_arriving.Given as goal

abbrev pub invariant-loop-i : goal.invariant-loop-i
invariant-loop-i l = Arrived (point_block l.initial.b) (stays l.here) l.m l.i l.b
