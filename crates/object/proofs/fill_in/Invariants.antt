-- `object::fill_in` meets its contract. The invariant: the entries of the first controllers are filled (Sweeping). Assumes nothing.
use Prim.Native.Nat.{◌-◌}
use Rattle.layout.specs.PointBlock.{form_1, decode_point}
use Rattle.layout.specs.Clocks.{decode_clock}
use Rattle.record_edits.specs.Written.{point_block}
use Rattle.object.proofs.Entries.{filling}
use Rattle.object.proofs.Sweeping.{Swept}
use Rattle.object.proofs.fill_in.Given as goal

abbrev pub invariant-loop-who : goal.invariant-loop-who
invariant-loop-who l =
    Swept (point_block l.initial.b) (filling l.table (decode_point form_1 l.initial.b).key.job (decode_clock l.rows) (decode_point form_1 l.initial.b).object.context) (l.who - 1) l.b
