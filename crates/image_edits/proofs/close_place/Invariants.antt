-- `image_edits::close_place` meets its contract. The invariant: which blocks stand one further down (Closing). Assumes nothing.
use Prim.Native.Nat.{◌≤◌}
use lib.ListN.{length}
use Rattle.layout.specs.Image.{decode}
use Rattle.image_edits.proofs.Closing.{Closing}
use Rattle.image_edits.proofs.close_place.Given as goal

abbrev pub invariant-loop-j : goal.invariant-loop-j
invariant-loop-j l = (length (decode l.initial.image).points ≤ 64) × Closing (decode l.initial.image) l.i l.j l.image
