-- `tallying::weigh_with` meets its contract (OfPoint). Assumes nothing.
use mathlib.Core.Path.{ap, ◌∙◌}
use lib.ListN.{length}
use lib.Dec.{ltb}
use Rattle.meaning.specs.State.{Stored}
use Rattle.meaning.specs.Settle.{put}
use Rattle.layout.specs.Clocks.{decode_clock}
use Rattle.layout.specs.PointBlock.{form_1, decode_stored}
use Rattle.layout.specs.Image.{decode}
use Rattle.store.proofs.Lent.{good_ascends, good_canonical}
use Rattle.mending.specs.Mended.{mend}
use Rattle.tallying.proofs.OfPoint.{may_take, result_mended, comes_is, many_is, goes_is}
use Rattle.tallying.proofs.weigh_with.Goals as goal

pub both_contexts-requires : goal.both_contexts-requires
both_contexts-requires c = (c.requires.0, good_canonical c.args.image.now c.requires.1, c.requires.2, good_ascends c.args.image.now c.requires.1, c.requires.4.0, c.requires.3, c.requires.6, c.requires.7)

pub too_many-many-requires : goal.too_many-many-requires
too_many-many-requires c = (c.requires.0, c.requires.1, c.requires.2, (c.requires.4.0, c.requires.4.1, c.both_contexts.ensures.0, c.both_contexts.ensures.1, c.both_contexts.ensures.2, may_take (decode c.args.image.now) (decode_clock c.args.clock.now) c.args.b.now _ c.both_contexts.ensures.3 c.requires.4))

pub needs_place-comes-requires : goal.needs_place-comes-requires
needs_place-comes-requires c = (c.requires.0, c.requires.1, c.requires.2, (c.requires.4.0, c.requires.4.1, c.both_contexts.ensures.0, c.both_contexts.ensures.1, c.both_contexts.ensures.2, may_take (decode c.args.image.now) (decode_clock c.args.clock.now) c.args.b.now _ c.both_contexts.ensures.3 c.requires.4), c.requires.5)

pub record_goes-goes-requires : goal.record_goes-goes-requires
record_goes-goes-requires c = (c.requires.0, c.requires.1, c.requires.2, (c.requires.4.0, c.requires.4.1, c.both_contexts.ensures.0, c.both_contexts.ensures.1, c.both_contexts.ensures.2, may_take (decode c.args.image.now) (decode_clock c.args.clock.now) c.args.b.now _ c.both_contexts.ensures.3 c.requires.4), c.requires.5)

pub returns : goal.returns
returns c = (c.too_many-many.ensures ∙ many_is _ _ (result_mended (decode c.args.image.now) (decode_clock c.args.clock.now) c.args.b.now _ c.both_contexts.ensures.3), c.needs_place-comes.ensures ∙ ap (λ (r : Stored). ltb (length (decode c.args.image.now).points) (length (put (decode_clock c.args.rows.now) (decode c.args.image.now).points r))) (result_mended (decode c.args.image.now) (decode_clock c.args.clock.now) c.args.b.now _ c.both_contexts.ensures.3) ∙ comes_is (decode_clock c.args.rows.now) (decode c.args.image.now).points (mend (decode c.args.image.now) (decode_clock c.args.clock.now) (decode_stored form_1 c.args.b.now)) (good_ascends c.args.image.now c.requires.1), c.record_goes-goes.ensures ∙ goes_is (decode_clock c.args.rows.now) (decode c.args.image.now).points _ _ (result_mended (decode c.args.image.now) (decode_clock c.args.clock.now) c.args.b.now _ c.both_contexts.ensures.3))
