-- `arriving::enter_row` meets its contract. The invariant: what the first pass left over is tried again, and the whole stays the same (Trying). Assumes nothing.
use borrow.Author.Rules.{rules}
use Prim.Native.Nat.{◌-◌}
use mathlib.Core.Path.{◌∙◌}
use mathlib.Core.Bool.{true, false}
use Rattle.block.proofs.Numbers.{bytes_of}
use Rattle.row.proofs.Highest.{small_fits, sound_base}
use Rattle.layout.specs.Image.{decode}
use Rattle.arriving.specs.Sent.{points_in, arriving_with}
use Rattle.arriving.proofs.Trying.{first_pass, next_pass, from_first, first_same, all_in, too_far}
use Rattle.arriving.proofs.OfPoints.{run_countable}
use native.Mathlib.Omega.{arith}
use Rattle.arriving.proofs.enter_row.Goals as goal

pub enter_points-t-requires : goal.enter_points-t-requires
enter_points-t-requires c = c.requires

pub loop-t-init : goal.loop-t-init
loop-t-init c = from_first c.args.r (arriving_with (decode c.args.image.now) c.args.n (points_in c.args.points.now)) c.args.r.base c.enter_points-t.result (first_pass (arriving_with (decode c.args.image.now) c.args.n (points_in c.args.points.now)) (run_countable c.args.points.now (bytes_of c.args.points.now c.type_inv.points) c.requires.3 (decode c.args.image.now) c.args.n) c.args.r (small_fits c.args.r (search rules)) c.requires.5 c.enter_points-t.result c.enter_points-t.ensures)

pub returns-then-row-base : goal.returns-then-row-base
returns-then-row-base c = too_far c.enter_points-t.result.row (arriving_with (decode c.args.image.now) c.args.n (points_in c.args.points.now)) c.loop-t.base c.loop-t.t c.loop-t.invariant c.loop-t-test.true c.if-row-base.true ∙ (first_same c.args.r c.enter_points-t.result.row (arriving_with (decode c.args.image.now) c.args.n (points_in c.args.points.now)) (first_pass (arriving_with (decode c.args.image.now) c.args.n (points_in c.args.points.now)) (run_countable c.args.points.now (bytes_of c.args.points.now c.type_inv.points) c.requires.3 (decode c.args.image.now) c.args.n) c.args.r (small_fits c.args.r (search rules)) c.requires.5 c.enter_points-t.result c.enter_points-t.ensures).same)

pub enter_points-t-requires-in-loop-t : goal.enter_points-t-requires-in-loop-t
enter_points-t-requires-in-loop-t c = (c.requires.0, c.requires.1, c.requires.2, c.requires.3, c.requires.4, c.loop-t.invariant.good)

pub loop-t-smaller : goal.loop-t-smaller
loop-t-smaller c = omega (arith, c.if-row-base.false, c.loop-t.invariant.up, sound_base c.loop-t.t.row c.loop-t.invariant.good)

pub loop-t-preserved : goal.loop-t-preserved
loop-t-preserved c = next_pass (arriving_with (decode c.args.image.now) c.args.n (points_in c.args.points.now)) (run_countable c.args.points.now (bytes_of c.args.points.now c.type_inv.points) c.requires.3 (decode c.args.image.now) c.args.n) c.enter_points-t.result.row c.loop-t.base c.loop-t.t c.enter_points-t-in-loop-t.result c.loop-t.invariant c.enter_points-t-in-loop-t.ensures

pub returns : goal.returns
returns c = all_in c.enter_points-t.result.row (arriving_with (decode c.args.image.now) c.args.n (points_in c.args.points.now)) c.loop-t.base c.loop-t.t c.loop-t.invariant c.loop-t-test.false ∙ (first_same c.args.r c.enter_points-t.result.row (arriving_with (decode c.args.image.now) c.args.n (points_in c.args.points.now)) (first_pass (arriving_with (decode c.args.image.now) c.args.n (points_in c.args.points.now)) (run_countable c.args.points.now (bytes_of c.args.points.now c.type_inv.points) c.requires.3 (decode c.args.image.now) c.args.n) c.args.r (small_fits c.args.r (search rules)) c.requires.5 c.enter_points-t.result c.enter_points-t.ensures).same)
