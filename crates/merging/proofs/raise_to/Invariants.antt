-- `merging::raise_to` meets its contract. The invariant: the entries of the first controllers are raised (object's Sweeping). Assumes nothing.
use Rattle.numbers.specs.Words.{map}
use Rattle.numbers.specs.Numbers.{counter}
use Rattle.layout.specs.PointBlock.{form_1, decode_point}
use Rattle.record_edits.specs.Written.{point_block}
use Rattle.object.proofs.Sweeping.{Swept}
use Rattle.merging.proofs.Eight.{higher_at}
use Rattle.merging.proofs.raise_to.Given as goal

abbrev pub invariant-loop-i : goal.invariant-loop-i
invariant-loop-i l = Swept (point_block l.initial.b) (higher_at (decode_point form_1 l.initial.b).object.context (map counter l.there)) l.i l.b
