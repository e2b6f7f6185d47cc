-- `noting::next_new` meets its contract. The invariant: the points before j were looked into (Looking). Assumes nothing.
use Prim.Native.Nat.{◌-◌, ◌/◌}
use mathlib.Core.Path.{◌∙◌}
use lib.ListN.{length}
use Rattle.block.specs.Block.{block_at}
use Rattle.block.proofs.Numbers.{bytes_of}
use Rattle.layout.specs.PointBlock.{form_1, decode_stored}
use Rattle.layout.specs.Image.{decode}
use Rattle.arriving.proofs.Folding.{none_folded, folded_all}
use Rattle.arriving.proofs.OfPoints.{lent_size, lent_few}
use Rattle.noting.proofs.Looking.{look_into, all_looked, lent_crewed, one_looked}
use native.Mathlib.Omega.{arith}
use Rattle.noting.proofs.next_new.Goals as goal
use Rattle.std.specs.Prelude.{None}

pub loop-j-init : goal.loop-j-init
loop-j-init c = none_folded (look_into (decode c.args.image.now) c.args.last) (length c.args.points.now / 512) (λ i. decode_stored form_1 (block_at c.args.points.now i)) None

pub next_in_point-best-requires : goal.next_in_point-best-requires
next_in_point-best-requires c = (c.requires.0, c.requires.1, c.requires.2, c.requires.3, lent_size c.args.points.now (bytes_of c.args.points.now c.type_inv.points) c.loop-j.j (omega arith), lent_few c.args.points.now (bytes_of c.args.points.now c.type_inv.points) c.requires.4 c.loop-j.j (omega arith), lent_crewed c.args.points.now (bytes_of c.args.points.now c.type_inv.points) c.requires.5 c.loop-j.j (omega arith))

pub loop-j-preserved : goal.loop-j-preserved
loop-j-preserved c = one_looked c.args.points.now (bytes_of c.args.points.now c.type_inv.points) (decode c.args.image.now) c.args.last _ c.loop-j.j c.loop-j.best c.loop-j.invariant (omega arith) _ c.next_in_point-best.ensures

pub returns : goal.returns
returns c = folded_all c.loop-j.invariant (omega arith) ∙ all_looked (decode c.args.image.now) c.args.last None _
