-- `mending::merge_marked` meets its contract. The invariant: the state is the one that the first marks leave (Passing). Assumes nothing.
use mathlib.Core.Path.{◌≡◌}
use lib.ListN.{length}
use Rattle.layout.specs.Clocks.{decode_clock}
use Rattle.layout.specs.Image.{image_length, decode}
use Rattle.image_edits.specs.Edits.{Canonical}
use Rattle.mending.proofs.Passing.{reached}
use Rattle.mending.proofs.merge_marked.Given as goal

abbrev pub invariant-loop-b : goal.invariant-loop-b
invariant-loop-b l = (decode l.image ≡ reached (decode l.initial.image) (decode_clock l.clock) (decode_clock l.rows) l.points l.marks l.which (length l.yielded)) × Canonical l.image × (length l.image ≡ image_length)
