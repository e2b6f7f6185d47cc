-- `arriving::enter_points` meets its contract. The invariant: the points before j were tried (OfPoints). Assumes nothing.
use Prim.Native.Nat.{◌/◌}
use mathlib.Core.Path.{◌≡◌}
use mathlib.Core.Bool.{true}
use lib.ListN.{length}
use Rattle.block.specs.Block.{block_at}
use Rattle.row.specs.Row.{sound}
use Rattle.layout.specs.PointBlock.{form_1, decode_stored}
use Rattle.layout.specs.Image.{decode}
use Rattle.arriving.proofs.Folding.{Folded}
use Rattle.arriving.proofs.Arrivals.{try_point}
use Rattle.arriving.proofs.enter_points.Given as goal

abbrev pub invariant-loop-j : goal.invariant-loop-j
invariant-loop-j l = Folded (try_point (decode l.image) l.n) (length l.points / 512) (λ i. decode_stored form_1 (block_at l.points i)) l.initial.last l.j l.last × (sound l.last.row ≡ true)
