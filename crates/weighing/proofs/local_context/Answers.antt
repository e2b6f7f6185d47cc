-- `weighing::local_context` meets its contract. By the record that was found, or by none (Contexts). Assumes nothing.
use Rattle.block.proofs.Numbers.{bytes_of}
use Rattle.layout.specs.Image.{decode}
use Rattle.image_edits.proofs.Blocks.{image_decoded}
use Rattle.image_edits.proofs.Fetching.{search_ascends, search_few}
use Rattle.store.proofs.Resulting.{found_is}
use Rattle.store.proofs.Record.{record_none, no_entries}
use Rattle.weighing.proofs.Contexts.{local_is, found_context}
use native.Mathlib.Omega.{arith}
use Rattle.weighing.proofs.local_context.Goals as goal
use Rattle.std.specs.Prelude.{Ok, Err}

pub find_point-requires : goal.find_point-requires
find_point-requires c = (c.requires.0, search_few c.args.image.now (bytes_of c.args.image.now c.type_inv.image) c.requires.0 c.requires.1 c.args.count c.requires.2, search_ascends c.args.image.now (bytes_of c.args.image.now c.type_inv.image) c.requires.0 c.requires.1 c.args.count c.requires.2 c.requires.3)

pub overflow_add-at : goal.overflow_add-at
overflow_add-at c = omega (arith, c.requires.0, (found_is c.args.image.now (bytes_of c.args.image.now c.type_inv.image) c.requires.0 c.requires.1 c.args.count c.requires.2 c.args.k c.find_point.result c.find_point.ensures (Ok c.in-Ok.i) c.in-Ok.is).0, (image_decoded c.args.image.now (bytes_of c.args.image.now c.type_inv.image) c.requires.0).few)

pub overflow_mul-at : goal.overflow_mul-at
overflow_mul-at c = omega (arith, c.requires.0, (found_is c.args.image.now (bytes_of c.args.image.now c.type_inv.image) c.requires.0 c.requires.1 c.args.count c.requires.2 c.args.k c.find_point.result c.find_point.ensures (Ok c.in-Ok.i) c.in-Ok.is).0, (image_decoded c.args.image.now (bytes_of c.args.image.now c.type_inv.image) c.requires.0).few)

pub overflow_add-at-in-Ok : goal.overflow_add-at-in-Ok
overflow_add-at-in-Ok c = omega (arith, c.requires.0, (found_is c.args.image.now (bytes_of c.args.image.now c.type_inv.image) c.requires.0 c.requires.1 c.args.count c.requires.2 c.args.k c.find_point.result c.find_point.ensures (Ok c.in-Ok.i) c.in-Ok.is).0, (image_decoded c.args.image.now (bytes_of c.args.image.now c.type_inv.image) c.requires.0).few)

pub overflow_add-at-in-Ok-2 : goal.overflow_add-at-in-Ok-2
overflow_add-at-in-Ok-2 c = omega (arith, c.requires.0, (found_is c.args.image.now (bytes_of c.args.image.now c.type_inv.image) c.requires.0 c.requires.1 c.args.count c.requires.2 c.args.k c.find_point.result c.find_point.ensures (Ok c.in-Ok.i) c.in-Ok.is).0, (image_decoded c.args.image.now (bytes_of c.args.image.now c.type_inv.image) c.requires.0).few)

pub slice_bounds-filled_context-end : goal.slice_bounds-filled_context-end
slice_bounds-filled_context-end c = omega (arith, c.requires.0, (found_is c.args.image.now (bytes_of c.args.image.now c.type_inv.image) c.requires.0 c.requires.1 c.args.count c.requires.2 c.args.k c.find_point.result c.find_point.ensures (Ok c.in-Ok.i) c.in-Ok.is).0, (image_decoded c.args.image.now (bytes_of c.args.image.now c.type_inv.image) c.requires.0).few)

pub returns-in-Ok : goal.returns-in-Ok
returns-in-Ok c = (local_is c.args.image.now c.requires.0 c.args.k _ (found_context c.args.image.now (bytes_of c.args.image.now c.type_inv.image) c.requires.0 c.requires.1 c.requires.3 c.args.k c.in-Ok.i (found_is c.args.image.now (bytes_of c.args.image.now c.type_inv.image) c.requires.0 c.requires.1 c.args.count c.requires.2 c.args.k c.find_point.result c.find_point.ensures (Ok c.in-Ok.i) c.in-Ok.is)) _ c.filled_context.ensures.0, c.filled_context.ensures.1)

pub returns-in-Err : goal.returns-in-Err
returns-in-Err c = (local_is c.args.image.now c.requires.0 c.args.k _ (no_entries c.args.image.now c.args.k (record_none c.args.k (decode c.args.image.now).points c.in-Err.field-0 (found_is c.args.image.now (bytes_of c.args.image.now c.type_inv.image) c.requires.0 c.requires.1 c.args.count c.requires.2 c.args.k c.find_point.result c.find_point.ensures (Err c.in-Err.field-0) c.in-Err.is))) _ c.filled_context-in-Err.ensures.0, c.filled_context-in-Err.ensures.1)
