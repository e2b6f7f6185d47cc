-- `arriving::enter_rows` meets its contract. The invariant: the rows below n have taken what arrives (Rows). Assumes nothing.
use mathlib.Core.Path.{refl}
use Rattle.numbers.proofs.Tests.{never}
use Rattle.layout.specs.Clocks.{decode_clock}
use Rattle.layout.specs.Image.{decode}
use Rattle.arriving.specs.Sent.{points_in}
use Rattle.arriving.proofs.Rows.{none_entered, next_sound, one_more, not_all, all_fit, all_entered, decoded_eight}
use native.Mathlib.Omega.{arith}
use Rattle.arriving.proofs.enter_rows.Goals as goal

pub loop-n-init : goal.loop-n-init
loop-n-init c = (none_entered (decode c.args.image.now) (decode_clock c.args.rows.now) (points_in c.args.points.now) (decoded_eight c.args.rows.now), c.requires.4)

pub enter_row_at-requires : goal.enter_row_at-requires
enter_row_at-requires c = (c.requires.0, c.requires.1, c.requires.2, c.requires.3, (c.loop-n.invariant.0.low, omega arith), c.loop-n.invariant.1, next_sound (decode c.args.image.now) (decode_clock c.args.rows.now) (points_in c.args.points.now) c.loop-n.n (decode_clock c.loop-n.rows) c.loop-n.invariant.0 (omega arith) c.requires.5)

pub returns-then-not-enter_row_at : goal.returns-then-not-enter_row_at
returns-then-not-enter_row_at c = let no_way = not_all (decode c.args.image.now) (decode_clock c.args.rows.now) (points_in c.args.points.now) c.loop-n.n (decode_clock c.loop-n.rows) c.loop-n.invariant.0 (omega arith) _ c.enter_row_at.ensures.0 c.if-not-enter_row_at.true in (no_way, λ t. absurd (never t refl), c.enter_row_at.ensures.2)

pub loop-n-preserved : goal.loop-n-preserved
loop-n-preserved c = (one_more (decode c.args.image.now) (decode_clock c.args.rows.now) (points_in c.args.points.now) c.loop-n.n (decode_clock c.loop-n.rows) c.loop-n.invariant.0 (omega arith) _ c.enter_row_at.ensures.0 c.if-not-enter_row_at.false _ (c.enter_row_at.ensures.1 c.if-not-enter_row_at.false) (decoded_eight _), c.enter_row_at.ensures.2)

pub returns : goal.returns
returns c = (all_fit (decode c.args.image.now) (decode_clock c.args.rows.now) (points_in c.args.points.now) (decode_clock c.loop-n.rows) c.loop-n.n c.loop-n.invariant.0 (omega arith), λ t. all_entered (decode c.args.image.now) (decode_clock c.args.rows.now) (points_in c.args.points.now) (decode_clock c.loop-n.rows) c.loop-n.n c.loop-n.invariant.0 (omega arith), c.loop-n.invariant.1)
