-- `taking::judge_point` meets its contract (Steps). Assumes nothing.
use mathlib.Core.Path.{sym, ◌∙◌}
use lib.ListN.{length}
use borrow.Author.Tests.{ltb-true, ltb-false, lt-ltb, le-ltb}
use Rattle.meaning.specs.Settle.{put}
use Rattle.layout.specs.Clocks.{decode_clock}
use Rattle.layout.specs.Image.{decode}
use Rattle.store.proofs.Lent.{good_now}
use Rattle.weighing.specs.Weighed.{result_of}
use Rattle.weighing.proofs.Judging.{put_grows}
use Rattle.taking.proofs.Steps.{many_versions, many_points, may_be_put}
use native.Mathlib.Omega.{arith}
use Rattle.taking.proofs.judge_point.Goals as goal

pub returns-then-too_many : goal.returns-then-too_many
returns-then-too_many c = many_versions (decode c.args.image.now) (decode_clock c.args.rows.now) (result_of (decode c.args.image.now) c.args.m.now c.args.there.now) c.requires.5 (sym c.too_many.ensures ∙ c.if-too_many.true)

pub returns-then-count-lt64 : goal.returns-then-count-lt64
returns-then-count-lt64 c = may_be_put (decode c.args.image.now) (decode_clock c.args.rows.now) (result_of (decode c.args.image.now) c.args.m.now c.args.there.now) c.requires.5 (sym c.too_many.ensures ∙ c.if-too_many.false) (le-ltb 64 (length (put (decode_clock c.args.rows.now) (decode c.args.image.now).points (result_of (decode c.args.image.now) c.args.m.now c.args.there.now))) (omega (arith, c.requires.2, c.if-count-lt64.true, put_grows (decode_clock c.args.rows.now) (decode c.args.image.now).points (result_of (decode c.args.image.now) c.args.m.now c.args.there.now))))

pub returns-then-needs_place : goal.returns-then-needs_place
returns-then-needs_place c = many_points (decode c.args.image.now) (decode_clock c.args.rows.now) (result_of (decode c.args.image.now) c.args.m.now c.args.there.now) c.requires.5 (sym c.too_many.ensures ∙ c.if-too_many.false) (lt-ltb 64 (length (put (decode_clock c.args.rows.now) (decode c.args.image.now).points (result_of (decode c.args.image.now) c.args.m.now c.args.there.now))) (omega (arith, c.requires.2, c.if-count-lt64.false, ltb-true (length (decode c.args.image.now).points) (length (put (decode_clock c.args.rows.now) (decode c.args.image.now).points (result_of (decode c.args.image.now) c.args.m.now c.args.there.now))) (sym c.needs_place.ensures ∙ c.if-needs_place.true))))

pub returns : goal.returns
returns c = may_be_put (decode c.args.image.now) (decode_clock c.args.rows.now) (result_of (decode c.args.image.now) c.args.m.now c.args.there.now) c.requires.5 (sym c.too_many.ensures ∙ c.if-too_many.false) (le-ltb 64 (length (put (decode_clock c.args.rows.now) (decode c.args.image.now).points (result_of (decode c.args.image.now) c.args.m.now c.args.there.now))) (omega (arith, (good_now c.args.image.now c.requires.1).points_few, ltb-false (length (decode c.args.image.now).points) (length (put (decode_clock c.args.rows.now) (decode c.args.image.now).points (result_of (decode c.args.image.now) c.args.m.now c.args.there.now))) (sym c.needs_place.ensures ∙ c.if-needs_place.false))))
