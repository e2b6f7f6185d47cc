-- Bytes from outside: blocks and images that the second program wrote, against the definitions, computed. Assumes nothing.
use Prim.Native.Nat.{ℕ}
use mathlib.Core.Path.{◌≡◌, refl}
use mathlib.Core.Bool.{true}
use mathlib.Core.List.{List, [], ◌∷◌, ◌++◌}
use lib.ListN.{drop}
use Rattle.numbers.specs.declared.Key.{Key}
use Rattle.numbers.specs.Numbers.{controller}
use Rattle.numbers.specs.Key.{key}
use Rattle.refusal.specs.declared.Refusal.TheVariants.{WrongLength, ImageNotGood, WrongCheck, IllFormed}
use Rattle.refusal.specs.Refusal.{Answer, accepted, ◌>>=◌}
use Rattle.block.specs.Fields.{le, number, field, zeros, pad}
use Rattle.block.specs.Check.{seal, sealed}
use Rattle.block.specs.Block.{make_block, block_at, blocks}
use Rattle.meaning.specs.Context.{no_context}
use Rattle.meaning.specs.OwnSteps.{start, read, write, delete}
use Rattle.meaning.specs.Exchange.{take_in, ask, reply, repair}
use Rattle.meaning.proofs.Table.{everything, one_and_two, text, up_to}
use Rattle.layout.specs.PointBlock.{encode_slot, decode_contents, decode_slot, encode_context, decode_context, encode_point, decode_point, encode_stored, decode_stored}
use Rattle.layout.specs.Clocks.{encode_row, decode_row, encode_clock, decode_clock}
use Rattle.layout.specs.Image.{encode_marks, decode_marks, encode_head, decode_head, encode_entry, decode_entry, encode_dots, decode_dots, encode_points, encode, decode, good_image}
use Rattle.layout.specs.Messages.{checks_right, encode_outgoing, encode_reading, decode_outgoing, encode_greeting, encode_ask, decode_ask, encode_reply, decode_reply, laid_out_outgoing, laid_out_ask, laid_out_reply}
use Rattle.layout.specs.Calls.{After, afterwards, whole_reply, on_image, with_message, start_call, read_call, write_call, delete_call, take_in_call, ask_call, over, reply_call, repair_call, strip_pass_call}
use Rattle.layout.specs.Listing.{digits_of, decimal, said, version_line, first_line, listing, refused_line, printed}
use Rattle.std.specs.Prelude.{Err}

-- to unfold this is to compute with every definition
unfoldable bytes : Unit {0}
unfolding everything le number field pad seal sealed make_block block_at blocks encode_slot decode_contents decode_slot encode_context decode_context encode_point decode_point encode_stored decode_stored encode_row decode_row encode_clock decode_clock encode_marks decode_marks encode_head decode_head encode_entry decode_entry encode_dots decode_dots encode_points encode decode good_image checks_right encode_outgoing encode_reading decode_outgoing encode_greeting encode_ask decode_ask encode_reply decode_reply laid_out_outgoing laid_out_ask laid_out_reply afterwards whole_reply on_image with_message start_call read_call write_call delete_call take_in_call ask_call over reply_call repair_call strip_pass_call digits_of decimal said version_line first_line listing refused_line printed
bytes = tt

-- ---- what the second program wrote

abbrev first_message : List ℕ
first_message =
    (0x04 ∷ 0x01 ∷ 0x00 ∷ 0x00 ∷ 0x00 ∷ 0x01 ∷ 0x07 ∷ 0x00 ∷ 0x01 ∷ []) ++
    (zeros 31 ++
    ((0x01 ∷ 0x04 ∷ 0x00 ∷ 0x00 ∷ 0x01 ∷ 0x00 ∷ 0x00 ∷ 0x00 ∷ 0x42 ∷ 0x41 ∷ 0x53 ∷ 0x45 ∷ []) ++
    (zeros 244 ++
    ((0x01 ∷ []) ++
    (zeros 211 ++
    (0xa4 ∷ 0x8c ∷ 0x14 ∷ 0x55 ∷ []))))))

abbrev image_of_two : List ℕ
image_of_two =
    (0x01 ∷ 0x01 ∷ 0x00 ∷ 0x00 ∷ 0x02 ∷ 0x00 ∷ 0x00 ∷ 0x00 ∷ 0x03 ∷ []) ++
    (zeros 11 ++
    ((0x06 ∷ []) ++
    (zeros 487 ++
    ((0x0c ∷ 0x01 ∷ 0x9d ∷ 0x09 ∷ 0x02 ∷ 0x01 ∷ 0x01 ∷ []) ++
    (zeros 505 ++
    ((0x03 ∷ 0x01 ∷ 0xfa ∷ 0x00 ∷ 0x02 ∷ 0x01 ∷ 0x02 ∷ 0x00 ∷ 0x02 ∷ 0x00 ∷ 0x00 ∷ 0x00 ∷ 0x01 ∷ 0x00 ∷ 0x07 ∷ 0x00 ∷ 0x02 ∷ 0x00 ∷ 0x00 ∷ 0x00 ∷ 0x01 ∷ 0x00 ∷ 0x2c ∷ 0x01 ∷ 0x03 ∷ []) ++
    (zeros 487 ++
    ((0x40 ∷ 0x02 ∷ 0x97 ∷ 0x30 ∷ 0x03 ∷ 0x01 ∷ 0x03 ∷ 0x00 ∷ 0x00 ∷ 0x01 ∷ 0x07 ∷ 0x00 ∷ 0x02 ∷ []) ++
    (zeros 31 ++
    ((0x01 ∷ 0xff ∷ 0x00 ∷ 0x00 ∷ 0x02 ∷ []) ++
    (zeros 463 ++
    ((0x13 ∷ 0x01 ∷ 0x67 ∷ 0x22 ∷ 0x03 ∷ 0x01 ∷ 0x04 ∷ 0x00 ∷ 0x00 ∷ 0x01 ∷ 0x2c ∷ 0x01 ∷ 0x03 ∷ []) ++
    (zeros 31 ++
    ((0x01 ∷ 0x00 ∷ 0x00 ∷ 0x00 ∷ 0x03 ∷ []) ++
    (zeros 463 ++
    ((0x3a ∷ 0x03 ∷ 0xa5 ∷ 0x2d ∷ []) ++
    zeros 31744))))))))))))))))

abbrev ask_of_two : List ℕ
ask_of_two =
    (0x05 ∷ 0x01 ∷ 0x00 ∷ 0x00 ∷ 0x02 ∷ 0x01 ∷ []) ++
    (zeros 6 ++
    ((0x06 ∷ []) ++
    (zeros 495 ++
    (0x0d ∷ 0x02 ∷ 0xc0 ∷ 0x06 ∷ []))))

abbrev reply_of_one : List ℕ
reply_of_one =
    (0x06 ∷ 0x01 ∷ 0x00 ∷ 0x00 ∷ 0x01 ∷ 0x02 ∷ 0x01 ∷ 0x00 ∷ 0x03 ∷ []) ++
    (zeros 499 ++
    ((0x0b ∷ 0x03 ∷ 0xdc ∷ 0x00 ∷ 0x03 ∷ 0x01 ∷ 0x01 ∷ 0x00 ∷ 0x00 ∷ 0x00 ∷ 0x07 ∷ []) ++
    (zeros 501 ++
    (0x0b ∷ 0x01 ∷ 0xd5 ∷ 0x08 ∷ []))))

abbrev reading_of_two : List ℕ
reading_of_two =
    (0x07 ∷ 0x01 ∷ 0x00 ∷ 0x00 ∷ 0x00 ∷ 0x01 ∷ 0x2c ∷ 0x01 ∷ 0x03 ∷ []) ++
    (zeros 31 ++
    ((0x01 ∷ 0x00 ∷ 0x00 ∷ 0x00 ∷ 0x03 ∷ []) ++
    (zeros 251 ++
    ((0x02 ∷ []) ++
    (zeros 211 ++
    (0x3c ∷ 0x03 ∷ 0x7d ∷ 0x2e ∷ []))))))

abbrev image_repaired : List ℕ
image_repaired =
    (0x01 ∷ 0x01 ∷ 0x00 ∷ 0x00 ∷ 0x02 ∷ 0x00 ∷ 0x00 ∷ 0x00 ∷ 0x03 ∷ []) ++
    (zeros 7 ++
    ((0x03 ∷ []) ++
    (zeros 95 ++
    ((0x03 ∷ []) ++
    (zeros 31 ++
    ((0x03 ∷ []) ++
    (zeros 363 ++
    ((0x0f ∷ 0x01 ∷ 0x3b ∷ 0x0b ∷ 0x02 ∷ 0x01 ∷ 0x01 ∷ []) ++
    (zeros 505 ++
    ((0x03 ∷ 0x01 ∷ 0xfa ∷ 0x00 ∷ 0x02 ∷ 0x01 ∷ 0x02 ∷ []) ++
    (zeros 505 ++
    ((0x04 ∷ 0x01 ∷ 0xf7 ∷ 0x01 ∷ 0x03 ∷ 0x01 ∷ 0x03 ∷ 0x00 ∷ 0x00 ∷ 0x01 ∷ 0x2c ∷ 0x01 ∷ 0x03 ∷ []) ++
    (zeros 31 ++
    ((0x01 ∷ 0x00 ∷ 0x00 ∷ 0x00 ∷ 0x03 ∷ []) ++
    (zeros 463 ++
    ((0x39 ∷ 0x03 ∷ 0xa8 ∷ 0x2c ∷ []) ++
    zeros 32256))))))))))))))))

-- ---- the same run by the definitions: controller 1 writes point 7, deletes it, and writes an empty value to point 300; controller 2 takes
-- in the deletion and the last write, asks, and repairs

pub record Run : Type 0 where
  pub sent : List ℕ
  pub two : List ℕ
  pub asked : List ℕ
  pub replied : List ℕ
  pub shown : List ℕ
  pub repaired : List ℕ

abbrev p7 : Key
p7 = key 0 7

abbrev p300 : Key
p300 = key 0 300

abbrev run : Answer Run
run = do
  fresh ← start (controller 1) one_and_two
  a ← write fresh p7 text no_context
  b ← delete a.state p7 (up_to 1)
  c ← write b.state p300 [] no_context
  other ← start (controller 2) one_and_two
  other ← take_in other b.message
  other ← take_in other c.message
  q ← ask other (controller 1)
  r ← reply c.state q
  o ← read other p300
  after ← repair other r.message
  accepted
      (record {
        sent = encode_outgoing a.message;
        two = encode other;
        asked = encode_ask q;
        replied = encode_reply r.message;
        shown = encode_reading o;
        repaired = encode after;
      })

same_bytes : run
    ≡ accepted
    (record { sent = first_message; two = image_of_two; asked = ask_of_two; replied = reply_of_one; shown = reading_of_two; repaired = image_repaired })
unfolding bytes
same_bytes = refl

-- the images are good, and mean the same when they are read back
good_images : (good_image image_of_two ≡ true) × (good_image image_repaired ≡ true)
unfolding bytes
good_images = (refl, refl)

-- ---- through the calls on bytes

abbrev no_counters : List ℕ
no_counters = zeros 8

-- a fresh image over any old bytes, and one write on it
abbrev started : After
started = start_call (zeros 34304) 1 one_and_two

abbrev first_write : After
first_write = write_call started.image 0 7 text no_counters (zeros 512)

written_by_call : first_write.out ≡ first_message
unfolding bytes
written_by_call = refl

-- "After one write of 42 41 53 45 on fresh controller 1 it prints exactly": controller 1 records 1 own 1 foreign 0, and 0 7 1.1 42415345
abbrev printed_lines : List ℕ
printed_lines =
    0x63 ∷ 0x6f ∷ 0x6e ∷ 0x74 ∷ 0x72 ∷ 0x6f ∷ 0x6c ∷ 0x6c ∷ 0x65 ∷ 0x72 ∷ 0x20 ∷ 0x31 ∷ 0x20 ∷ 0x72 ∷ 0x65 ∷ 0x63 ∷ 0x6f ∷ 0x72 ∷
    0x64 ∷ 0x73 ∷ 0x20 ∷ 0x31 ∷ 0x20 ∷ 0x6f ∷ 0x77 ∷ 0x6e ∷ 0x20 ∷ 0x31 ∷ 0x20 ∷ 0x66 ∷ 0x6f ∷ 0x72 ∷ 0x65 ∷ 0x69 ∷ 0x67 ∷ 0x6e ∷
    0x20 ∷ 0x30 ∷ 0x0a ∷ 0x30 ∷ 0x20 ∷ 0x37 ∷ 0x20 ∷ 0x31 ∷ 0x2e ∷ 0x31 ∷ 0x20 ∷ 0x34 ∷ 0x32 ∷ 0x34 ∷ 0x31 ∷ 0x35 ∷ 0x33 ∷ 0x34 ∷
    0x35 ∷ 0x0a ∷ []

prints_the_example : printed first_write.image ≡ printed_lines
unfolding bytes
prints_the_example = refl

-- the last two calls of the run above
asked_by_call : (ask_call image_of_two 1 (zeros 512)).out ≡ ask_of_two
unfolding bytes
asked_by_call = refl

repaired_by_call : (repair_call image_of_two reply_of_one).image ≡ image_repaired
unfolding bytes
repaired_by_call = refl

-- ---- the order of refusals 1 to 4

abbrev damaged : List ℕ
damaged = (0x05 ∷ []) ++ drop 1 first_message

-- a short image is refused for its length, though it is not good either; one of zeros for what it is; a message first for its check and
-- then for its form: 512 zero bytes have a right check
refusals_in_order :
    ((read_call (zeros 100) 0 7 (zeros 512)).verdict ≡ Err WrongLength)
    × ((read_call (zeros 34304) 0 7 (zeros 512)).verdict ≡ Err ImageNotGood)
    × ((take_in_call image_of_two damaged).verdict ≡ Err WrongCheck)
    × ((take_in_call image_of_two (zeros 512)).verdict ≡ Err IllFormed)
unfolding bytes
refusals_in_order = (refl, refl, refl, refl)
