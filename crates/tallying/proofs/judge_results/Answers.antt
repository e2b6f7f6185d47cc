-- `tallying::judge_results` meets its contract (Judged). Assumes nothing.
use mathlib.Core.Path.{sym, ◌∙◌}
use Rattle.numbers.proofs.Orders.{keep_length}
use Rattle.meaning.specs.State.{stored_before}
use Rattle.placing.specs.Placed.{comes, goes_away}
use Rattle.layout.specs.Clocks.{decode_clock}
use Rattle.layout.specs.Image.{decode}
use Rattle.store.proofs.Lent.{good_ascends}
use Rattle.mending.specs.Mended.{results}
use Rattle.image_edits.proofs.Blocks.{image_decoded}
use Rattle.block.proofs.Numbers.{bytes_of}
use Rattle.mending.proofs.Passing.{results_length}
use Rattle.tallying.proofs.Judged.{many_versions, no_place, place_for_all}
use native.Mathlib.Omega.{arith}
use Rattle.tallying.proofs.judge_results.Goals as goal

pub returns-then-many : goal.returns-then-many
returns-then-many c = (many_versions (decode c.args.image.now) (decode_clock c.args.rows.now) (results (decode c.args.image.now) (decode_clock c.args.clock.now) c.args.points.now) c.requires.9 (sym c.weigh_all-w.ensures.0.0 ∙ c.if-many.true), c.weigh_all-w.ensures.0.3, c.weigh_all-w.ensures.1)

pub overflow_add-going : goal.overflow_add-going
overflow_add-going c = omega (arith, c.requires.2, (image_decoded c.args.image.now (bytes_of c.args.image.now c.type_inv.image) c.requires.0).few, c.weigh_all-w.ensures.0.1, c.weigh_all-w.ensures.0.2, keep_length stored_before (comes (decode_clock c.args.rows.now) (decode c.args.image.now).points) (results (decode c.args.image.now) (decode_clock c.args.clock.now) c.args.points.now), keep_length stored_before (goes_away (decode_clock c.args.rows.now) (decode c.args.image.now).points) (results (decode c.args.image.now) (decode_clock c.args.clock.now) c.args.points.now), results_length (decode c.args.image.now) (decode_clock c.args.clock.now) c.args.points.now, c.requires.6, c.requires.7)

pub overflow_add-count : goal.overflow_add-count
overflow_add-count c = omega (arith, c.requires.2, (image_decoded c.args.image.now (bytes_of c.args.image.now c.type_inv.image) c.requires.0).few, c.weigh_all-w.ensures.0.1, c.weigh_all-w.ensures.0.2, keep_length stored_before (comes (decode_clock c.args.rows.now) (decode c.args.image.now).points) (results (decode c.args.image.now) (decode_clock c.args.clock.now) c.args.points.now), keep_length stored_before (goes_away (decode_clock c.args.rows.now) (decode c.args.image.now).points) (results (decode c.args.image.now) (decode_clock c.args.clock.now) c.args.points.now), results_length (decode c.args.image.now) (decode_clock c.args.clock.now) c.args.points.now, c.requires.6, c.requires.7)

pub returns-then-going-count : goal.returns-then-going-count
returns-then-going-count c = (no_place (decode c.args.image.now) (decode_clock c.args.rows.now) (results (decode c.args.image.now) (decode_clock c.args.clock.now) c.args.points.now) c.requires.9 (sym c.weigh_all-w.ensures.0.0 ∙ c.if-many.false) (good_ascends c.args.image.now c.requires.1) c.requires.8 c.args.count c.weigh_all-w.result.coming c.weigh_all-w.result.going c.requires.2 c.weigh_all-w.ensures.0.1 c.weigh_all-w.ensures.0.2 c.if-going-count.true, c.weigh_all-w.ensures.0.3, c.weigh_all-w.ensures.1)

pub returns : goal.returns
returns c = (place_for_all (decode c.args.image.now) (decode_clock c.args.rows.now) (results (decode c.args.image.now) (decode_clock c.args.clock.now) c.args.points.now) c.requires.9 (sym c.weigh_all-w.ensures.0.0 ∙ c.if-many.false) (good_ascends c.args.image.now c.requires.1) c.requires.8 c.args.count c.weigh_all-w.result.coming c.weigh_all-w.result.going c.requires.2 c.weigh_all-w.ensures.0.1 c.weigh_all-w.ensures.0.2 c.if-going-count.false, c.weigh_all-w.ensures.0.3, c.weigh_all-w.ensures.1)
