-- `writing::write_message` meets its contract. Block by block (Message). Assumes nothing.
use mathlib.Core.Path.{sym, subst}
use native.Mathlib.Omega.{arith}
use Rattle.numbers.specs.Words.{map}
use Rattle.numbers.specs.Numbers.{counter, Crew}
use Rattle.layout.specs.PointBlock.{form_1, decode_slot}
use Rattle.layout.specs.Image.{decode}
use Rattle.store.proofs.Lent.{good_now, own_is_crew, good_canonical, good_ascends, counted}
use Rattle.writing.proofs.Keeping.{who_is}
use Rattle.writing.proofs.Message.{filled_lent, filled_crewed, dropped_ascends, dropped_few, message_is, fetched_own, raised_own, version_own}
use Rattle.writing.proofs.write_message.Goals as goal

pub fetch-requires : goal.fetch-requires
fetch-requires c = (c.requires.0, good_canonical c.args.image.now c.requires.1, counted c.args.image.now c.stored_count-count.result c.stored_count-count.ensures, good_ascends c.args.image.now c.requires.1, c.requires.9)

pub drop_covered-requires : goal.drop_covered-requires
drop_covered-requires c = (omega (arith, c.requires.9), c.fill_in.ensures.1, c.requires.7, filled_crewed (decode c.args.image.now) (good_now c.args.image.now c.requires.1) c.args.k c.requires.2 (map counter c.args.context.now) _ _ (fetched_own (decode c.args.image.now) c.args.d c.requires.3 c.args.k _ c.fetch.ensures.0) (filled_lent c.args.image.now c.requires.0 _ _ c.fill_in.ensures.0))

pub put_version-requires : goal.put_version-requires
put_version-requires c = (omega (arith, c.requires.9), c.drop_covered.ensures.1, dropped_ascends (decode c.args.image.now) (good_now c.args.image.now c.requires.1) c.args.k c.requires.2 (map counter c.args.context.now) _ _ (fetched_own (decode c.args.image.now) c.args.d c.requires.3 c.args.k _ c.fetch.ensures.0) (filled_lent c.args.image.now c.requires.0 _ _ c.fill_in.ensures.0) _ c.drop_covered.ensures.0, dropped_few (decode c.args.image.now) (good_now c.args.image.now c.requires.1) c.args.k c.requires.2 (map counter c.args.context.now) _ _ (fetched_own (decode c.args.image.now) c.args.d c.requires.3 c.args.k _ c.fetch.ensures.0) (filled_lent c.args.image.now c.requires.0 _ _ c.fill_in.ensures.0) _ c.drop_covered.ensures.0 c.requires.8, c.requires.4, c.requires.5)

pub set_entry-requires : goal.set_entry-requires
set_entry-requires c = (omega (arith, c.requires.9), subst Crew (sym (who_is (decode c.args.image.now) c.args.d c.requires.3)) (own_is_crew c.args.image.now c.requires.1), c.put_version.ensures.1)

pub returns : goal.returns
returns c = message_is (decode c.args.image.now) (good_now c.args.image.now c.requires.1) c.args.k c.requires.2 (map counter c.args.context.now) _ _ (fetched_own (decode c.args.image.now) c.args.d c.requires.3 c.args.k _ c.fetch.ensures.0) (filled_lent c.args.image.now c.requires.0 _ _ c.fill_in.ensures.0) _ c.drop_covered.ensures.0 (decode_slot form_1 c.args.slot.now) (decode_slot form_1 c.args.slot.now).contents (version_own (decode c.args.image.now) c.args.d c.requires.3 (decode_slot form_1 c.args.slot.now) c.requires.6) _ c.put_version.ensures.0 _ _ (raised_own (decode c.args.image.now) c.args.d c.requires.3 _ _ c.set_entry.ensures) c.seal_block.ensures
