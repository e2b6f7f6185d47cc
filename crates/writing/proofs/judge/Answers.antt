-- `writing::judge` meets its contract. By the record that was found, or by none (Judges). Assumes nothing.
use mathlib.Core.Path.{ap, ◌∙◌}
use native.Mathlib.Omega.{arith}
use mathlib.Core.Bool.{true}
use Rattle.numbers.specs.declared.Key.{Key}
use Rattle.numbers.specs.Words.{map}
use Rattle.numbers.specs.Numbers.{counter}
use Rattle.block.proofs.Numbers.{bytes_of}
use Rattle.layout.specs.Image.{decode}
use Rattle.image_edits.proofs.Blocks.{image_decoded}
use Rattle.image_edits.proofs.Fetching.{search_ascends, search_few}
use Rattle.store.proofs.Lent.{counted, good_ascends, good_canonical}
use Rattle.store.proofs.Resulting.{found_is}
use Rattle.refusal.specs.Refusal.{verdict_of}
use Rattle.writing.specs.Judged.{judged}
use Rattle.store.proofs.Record.{record_none, lent_long, lent_few, lent_key, lent_crewed, lent_stored, lent_looked_up}
use Rattle.writing.proofs.judge.Goals as goal
use Rattle.std.specs.Prelude.{Ok, Err}

pub find_point-requires : goal.find_point-requires
find_point-requires c = (c.requires.0, search_few c.args.image.now (bytes_of c.args.image.now c.type_inv.image) c.requires.0 (good_canonical c.args.image.now c.requires.1) c.stored_count-count.result (counted c.args.image.now c.stored_count-count.result c.stored_count-count.ensures), search_ascends c.args.image.now (bytes_of c.args.image.now c.type_inv.image) c.requires.0 (good_canonical c.args.image.now c.requires.1) c.stored_count-count.result (counted c.args.image.now c.stored_count-count.result c.stored_count-count.ensures) (good_ascends c.args.image.now c.requires.1))

pub overflow_add-at : goal.overflow_add-at
overflow_add-at c = omega (arith, c.requires.0, (found_is c.args.image.now (bytes_of c.args.image.now c.type_inv.image) c.requires.0 (good_canonical c.args.image.now c.requires.1) c.stored_count-count.result (counted c.args.image.now c.stored_count-count.result c.stored_count-count.ensures) c.args.k c.find_point.result c.find_point.ensures (Ok c.in-Ok.i) c.in-Ok.is).0, (image_decoded c.args.image.now (bytes_of c.args.image.now c.type_inv.image) c.requires.0).few)

pub overflow_mul-at : goal.overflow_mul-at
overflow_mul-at c = omega (arith, c.requires.0, (found_is c.args.image.now (bytes_of c.args.image.now c.type_inv.image) c.requires.0 (good_canonical c.args.image.now c.requires.1) c.stored_count-count.result (counted c.args.image.now c.stored_count-count.result c.stored_count-count.ensures) c.args.k c.find_point.result c.find_point.ensures (Ok c.in-Ok.i) c.in-Ok.is).0, (image_decoded c.args.image.now (bytes_of c.args.image.now c.type_inv.image) c.requires.0).few)

pub overflow_add-at-in-Ok : goal.overflow_add-at-in-Ok
overflow_add-at-in-Ok c = omega (arith, c.requires.0, (found_is c.args.image.now (bytes_of c.args.image.now c.type_inv.image) c.requires.0 (good_canonical c.args.image.now c.requires.1) c.stored_count-count.result (counted c.args.image.now c.stored_count-count.result c.stored_count-count.ensures) c.args.k c.find_point.result c.find_point.ensures (Ok c.in-Ok.i) c.in-Ok.is).0, (image_decoded c.args.image.now (bytes_of c.args.image.now c.type_inv.image) c.requires.0).few)

pub slice_bounds-judge_record-end : goal.slice_bounds-judge_record-end
slice_bounds-judge_record-end c = omega (arith, c.requires.0, (found_is c.args.image.now (bytes_of c.args.image.now c.type_inv.image) c.requires.0 (good_canonical c.args.image.now c.requires.1) c.stored_count-count.result (counted c.args.image.now c.stored_count-count.result c.stored_count-count.ensures) c.args.k c.find_point.result c.find_point.ensures (Ok c.in-Ok.i) c.in-Ok.is).0, (image_decoded c.args.image.now (bytes_of c.args.image.now c.type_inv.image) c.requires.0).few)

pub judge_record-requires : goal.judge_record-requires
judge_record-requires c = (c.requires.0, c.requires.1, lent_long c.args.image.now (bytes_of c.args.image.now c.type_inv.image) c.requires.0 c.requires.1 c.args.k c.in-Ok.i (found_is c.args.image.now (bytes_of c.args.image.now c.type_inv.image) c.requires.0 (good_canonical c.args.image.now c.requires.1) c.stored_count-count.result (counted c.args.image.now c.stored_count-count.result c.stored_count-count.ensures) c.args.k c.find_point.result c.find_point.ensures (Ok c.in-Ok.i) c.in-Ok.is), lent_few c.args.image.now (bytes_of c.args.image.now c.type_inv.image) c.requires.0 c.requires.1 c.args.k c.in-Ok.i (found_is c.args.image.now (bytes_of c.args.image.now c.type_inv.image) c.requires.0 (good_canonical c.args.image.now c.requires.1) c.stored_count-count.result (counted c.args.image.now c.stored_count-count.result c.stored_count-count.ensures) c.args.k c.find_point.result c.find_point.ensures (Ok c.in-Ok.i) c.in-Ok.is), lent_crewed c.args.image.now (bytes_of c.args.image.now c.type_inv.image) c.requires.0 c.requires.1 c.args.k c.in-Ok.i (found_is c.args.image.now (bytes_of c.args.image.now c.type_inv.image) c.requires.0 (good_canonical c.args.image.now c.requires.1) c.stored_count-count.result (counted c.args.image.now c.stored_count-count.result c.stored_count-count.ensures) c.args.k c.find_point.result c.find_point.ensures (Ok c.in-Ok.i) c.in-Ok.is), c.requires.2, lent_stored c.args.image.now (bytes_of c.args.image.now c.type_inv.image) c.requires.0 c.requires.1 c.args.k c.in-Ok.i (found_is c.args.image.now (bytes_of c.args.image.now c.type_inv.image) c.requires.0 (good_canonical c.args.image.now c.requires.1) c.stored_count-count.result (counted c.args.image.now c.stored_count-count.result c.stored_count-count.ensures) c.args.k c.find_point.result c.find_point.ensures (Ok c.in-Ok.i) c.in-Ok.is), lent_looked_up c.args.image.now (bytes_of c.args.image.now c.type_inv.image) c.requires.0 c.requires.1 c.args.k c.in-Ok.i (found_is c.args.image.now (bytes_of c.args.image.now c.type_inv.image) c.requires.0 (good_canonical c.args.image.now c.requires.1) c.stored_count-count.result (counted c.args.image.now c.stored_count-count.result c.stored_count-count.ensures) c.args.k c.find_point.result c.find_point.ensures (Ok c.in-Ok.i) c.in-Ok.is))

pub judge_new-requires : goal.judge_new-requires
judge_new-requires c = (c.requires.0, c.requires.1, (counted c.args.image.now c.stored_count-count.result c.stored_count-count.ensures), c.requires.2, record_none c.args.k (decode c.args.image.now).points c.in-Err.field-0 (found_is c.args.image.now (bytes_of c.args.image.now c.type_inv.image) c.requires.0 (good_canonical c.args.image.now c.requires.1) c.stored_count-count.result (counted c.args.image.now c.stored_count-count.result c.stored_count-count.ensures) c.args.k c.find_point.result c.find_point.ensures (Err c.in-Err.field-0) c.in-Err.is))

pub returns-in-Ok : goal.returns-in-Ok
returns-in-Ok c = c.judge_record.ensures c.args.valued ∙ ap (λ (x : Key). verdict_of (judged (decode c.args.image.now) x c.args.valued (map counter c.args.context.now) true)) (lent_key c.args.image.now (bytes_of c.args.image.now c.type_inv.image) c.requires.0 c.requires.1 c.args.k c.in-Ok.i (found_is c.args.image.now (bytes_of c.args.image.now c.type_inv.image) c.requires.0 (good_canonical c.args.image.now c.requires.1) c.stored_count-count.result (counted c.args.image.now c.stored_count-count.result c.stored_count-count.ensures) c.args.k c.find_point.result c.find_point.ensures (Ok c.in-Ok.i) c.in-Ok.is))
