-- `replying::smallest_after` meets its contract. The invariant: the entries from i on make of `best` what all make of the start (Lacking). Assumes nothing.
use Prim.Native.Nat.{◌-◌}
use Rattle.block.specs.Fields.{field}
use Rattle.layout.specs.Clocks.{decode_clock}
use Rattle.dots.specs.Entries.{entry}
use Rattle.replying.specs.Nearest.{lacks}
use Rattle.replying.proofs.Lacking.{Looked}
use Rattle.replying.proofs.smallest_after.Given as goal

abbrev pub invariant-loop-i : goal.invariant-loop-i
invariant-loop-i l = Looked (lacks l.table l.asker (decode_clock l.rows)) l.last (field l.list 4 2) (entry l.list) l.initial.best l.best l.i
