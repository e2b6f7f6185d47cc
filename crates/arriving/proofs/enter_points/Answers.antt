-- `arriving::enter_points` meets its contract. The invariant: the points before j were tried (OfPoints). Assumes nothing.
use mathlib.Core.Path.{◌∙◌}
use mathlib.Core.Bool.{false}
use Rattle.block.proofs.Numbers.{bytes_of}
use Rattle.layout.specs.Image.{decode}
use Rattle.store.proofs.Lent.{good_ascends, good_canonical}
use Rattle.arriving.proofs.Folding.{folded_all}
use Rattle.arriving.proofs.Arrivals.{tried_points}
use Rattle.arriving.proofs.OfPoints.{lent_size, lent_few, point_tried}
use native.Mathlib.Omega.{arith}
use Rattle.arriving.proofs.enter_points.Goals as goal

pub local_entry-here-requires : goal.local_entry-here-requires
local_entry-here-requires c = (c.requires.0, good_canonical c.args.image.now c.requires.1, c.requires.2, good_ascends c.args.image.now c.requires.1, c.requires.4)

pub enter_point-last-requires : goal.enter_point-last-requires
enter_point-last-requires c = (lent_size c.args.points.now (bytes_of c.args.points.now c.type_inv.points) c.loop-j.j (omega arith), lent_few c.args.points.now (bytes_of c.args.points.now c.type_inv.points) c.requires.3 c.loop-j.j (omega arith), c.loop-j.invariant.1)

pub loop-j-preserved : goal.loop-j-preserved
loop-j-preserved c = point_tried c.args.points.now (bytes_of c.args.points.now c.type_inv.points) c.requires.3 (decode c.args.image.now) c.args.n _ c.loop-j.j c.loop-j.last c.loop-j.invariant.0 c.loop-j.invariant.1 (omega arith) _ _ _ c.key_of.ensures c.local_entry-here.ensures c.enter_point-last.ensures

pub returns : goal.returns
returns c = folded_all c.loop-j.invariant.0 (omega arith) ∙ tried_points (decode c.args.image.now) c.args.n (record { row = c.args.r; left = false }) _
