-- `writing::put_down` meets its contract. The message, then the record of it (Down). Assumes nothing.
use native.Mathlib.Omega.{arith}
use Rattle.numbers.specs.Words.{map}
use Rattle.numbers.specs.Numbers.{counter}
use Rattle.meaning.specs.Object.{has_value}
use Rattle.layout.specs.PointBlock.{form_1, decode_slot}
use Rattle.layout.specs.Image.{decode}
use Rattle.store.proofs.Lent.{good_now}
use Rattle.writing.proofs.Accepted.{passed}
use Rattle.writing.proofs.Down.{held_here, message_laid, points_fit, recorded_is}
use Rattle.writing.proofs.put_down.Goals as goal

pub write_message-requires : goal.write_message-requires
write_message-requires c = (c.requires.0, c.requires.1, held_here (decode c.args.image.now) c.args.k c.requires.2, c.requires.3, c.requires.4, c.requires.5, c.requires.6, c.requires.8, (passed (decode c.args.image.now) c.args.k (has_value (decode_slot form_1 c.args.slot.now).contents) (map counter c.args.context.now) c.requires.9).0, c.requires.10)

pub keep_written-requires : goal.keep_written-requires
keep_written-requires c = (c.requires.0, c.requires.1, c.requires.3, (passed (decode c.args.image.now) c.args.k (has_value (decode_slot form_1 c.args.slot.now).contents) (map counter c.args.context.now) c.requires.9).1, omega (arith, c.requires.10), message_laid (decode c.args.image.now) (good_now c.args.image.now c.requires.1) c.args.k (decode_slot form_1 c.args.slot.now).contents (map counter c.args.context.now) c.requires.2 c.requires.9 c.requires.7 _ c.write_message.ensures, points_fit (decode c.args.image.now) (good_now c.args.image.now c.requires.1) c.args.k (decode_slot form_1 c.args.slot.now).contents (map counter c.args.context.now) c.requires.2 c.requires.9 c.requires.7 _ c.write_message.ensures)

pub returns : goal.returns
returns c = (recorded_is (decode c.args.image.now) (good_now c.args.image.now c.requires.1) c.args.k (decode_slot form_1 c.args.slot.now).contents (map counter c.args.context.now) c.requires.2 c.requires.9 c.requires.7 _ _ c.write_message.ensures c.keep_written.ensures, c.write_message.ensures)
