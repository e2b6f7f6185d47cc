-- `arriving::enter_point` meets its contract. The invariant: the versions before i were tried (Folding). Assumes nothing.
use mathlib.Core.Path.{◌≡◌}
use mathlib.Core.Bool.{true}
use Rattle.block.specs.Fields.{field}
use Rattle.row.specs.Row.{sound}
use Rattle.record.proofs.Reading.{version_at}
use Rattle.arriving.proofs.Folding.{Folded}
use Rattle.arriving.proofs.Arrivals.{try_version}
use Rattle.arriving.proofs.enter_point.Given as goal

abbrev pub invariant-loop-i : goal.invariant-loop-i
invariant-loop-i l = Folded (try_version l.n l.here) (field l.b 5 1) (version_at l.b) l.initial.last l.i l.last × (sound l.last.row ≡ true)
