-- `image::open_place` meets its contract. The invariant: which blocks stand one further up (Opening). Assumes nothing.
use Prim.Native.Nat.{◌-◌}
use Rattle.layout.specs.Image.{decode}
use Rattle.image_edits.proofs.Opening.{Opening}
use Rattle.image_edits.proofs.open_place.Given as goal

abbrev pub invariant-loop-to : goal.invariant-loop-to
invariant-loop-to l = Opening (decode l.initial.image) l.i (l.to - 1) l.image
