-- `noting::next_new` meets its contract. The invariant: the points before j were looked into (Looking). Assumes nothing.
use Prim.Native.Nat.{◌-◌, ◌/◌}
use lib.ListN.{length}
use Rattle.block.specs.Block.{block_at}
use Rattle.layout.specs.PointBlock.{form_1, decode_stored}
use Rattle.layout.specs.Image.{decode}
use Rattle.arriving.proofs.Folding.{Folded}
use Rattle.noting.proofs.Looking.{look_into}
use Rattle.noting.proofs.next_new.Given as goal

abbrev pub invariant-loop-j : goal.invariant-loop-j
invariant-loop-j l = Folded (look_into (decode l.image) l.last) (length l.points / 512) (λ i. decode_stored form_1 (block_at l.points i)) l.initial.best l.j l.best
