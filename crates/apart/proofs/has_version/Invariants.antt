-- `apart::has_version` meets its contract. The invariant is `Passing`: the versions before i have other dots (Versions). Assumes nothing.
use Rattle.block.specs.Fields.{field}
use Rattle.block.proofs.Passing.{Passing}
use Rattle.apart.proofs.Versions.{another}
use Rattle.apart.proofs.has_version.Given as goal

abbrev pub invariant-loop-i : goal.invariant-loop-i
invariant-loop-i l = Passing (field l.b 5 1) (another l.b l.d) l.i
