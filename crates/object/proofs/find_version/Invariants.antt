-- `object::find_version` meets its contract. The invariant: the versions before i come before the dot (block Search, from i to the end). Assumes nothing.
use Prim.Native.Nat.{◌-◌}
use Rattle.numbers.specs.Dot.{dot_before}
use Rattle.block.specs.Fields.{field}
use Rattle.block.proofs.Search.{Between}
use Rattle.record.proofs.Reading.{version_at}
use Rattle.object.proofs.find_version.Given as goal

abbrev pub invariant-loop-i : goal.invariant-loop-i
invariant-loop-i l = Between dot_before (field l.b 5 1) (λ j. (version_at l.b j).dot) l.d l.i (field l.b 5 1)
