-- `arriving::local_entry` meets its contract. By the record that was found, or by none (Arrivals). Assumes nothing.
use mathlib.Core.Path.{sym}
use Rattle.numbers.specs.Numbers.{counter}
use Rattle.block.proofs.Numbers.{bytes_of}
use Rattle.meaning.specs.Object.{no_object}
use Rattle.meaning.specs.Context.{entry}
use Rattle.layout.specs.Image.{decode}
use Rattle.image_edits.proofs.Blocks.{image_decoded}
use Rattle.image_edits.proofs.Fetching.{search_ascends, search_few}
use Rattle.store.proofs.Resulting.{found_is}
use Rattle.store.proofs.Record.{look_up_none, record_none}
use Rattle.laws.proofs.ContextLaws.{no_entry, same_counter}
use Rattle.arriving.proofs.Arrivals.{entry_is, object_there}
use native.Mathlib.Omega.{arith}
use Rattle.arriving.proofs.local_entry.Goals as goal
use Rattle.std.specs.Prelude.{Ok, Err}

pub find_point-requires : goal.find_point-requires
find_point-requires c = (c.requires.0, search_few c.args.image.now (bytes_of c.args.image.now c.type_inv.image) c.requires.0 c.requires.1 c.args.count c.requires.2, search_ascends c.args.image.now (bytes_of c.args.image.now c.type_inv.image) c.requires.0 c.requires.1 c.args.count c.requires.2 c.requires.3)

pub overflow_add-at : goal.overflow_add-at
overflow_add-at c = omega (arith, c.requires.0, (found_is c.args.image.now (bytes_of c.args.image.now c.type_inv.image) c.requires.0 c.requires.1 c.args.count c.requires.2 c.args.k c.find_point.result c.find_point.ensures (Ok c.in-Ok.i) c.in-Ok.is).0, (image_decoded c.args.image.now (bytes_of c.args.image.now c.type_inv.image) c.requires.0).few)

pub overflow_mul-at : goal.overflow_mul-at
overflow_mul-at c = omega (arith, c.requires.0, (found_is c.args.image.now (bytes_of c.args.image.now c.type_inv.image) c.requires.0 c.requires.1 c.args.count c.requires.2 c.args.k c.find_point.result c.find_point.ensures (Ok c.in-Ok.i) c.in-Ok.is).0, (image_decoded c.args.image.now (bytes_of c.args.image.now c.type_inv.image) c.requires.0).few)

pub overflow_add-at-in-Ok : goal.overflow_add-at-in-Ok
overflow_add-at-in-Ok c = omega (arith, c.requires.0, (found_is c.args.image.now (bytes_of c.args.image.now c.type_inv.image) c.requires.0 c.requires.1 c.args.count c.requires.2 c.args.k c.find_point.result c.find_point.ensures (Ok c.in-Ok.i) c.in-Ok.is).0, (image_decoded c.args.image.now (bytes_of c.args.image.now c.type_inv.image) c.requires.0).few)

pub slice_bounds-context_entry-end : goal.slice_bounds-context_entry-end
slice_bounds-context_entry-end c = omega (arith, c.requires.0, (found_is c.args.image.now (bytes_of c.args.image.now c.type_inv.image) c.requires.0 c.requires.1 c.args.count c.requires.2 c.args.k c.find_point.result c.find_point.ensures (Ok c.in-Ok.i) c.in-Ok.is).0, (image_decoded c.args.image.now (bytes_of c.args.image.now c.type_inv.image) c.requires.0).few)

pub returns-in-Ok : goal.returns-in-Ok
returns-in-Ok c = entry_is c.args.image.now c.requires.0 c.args.k c.args.n c.requires.4 _ (object_there c.args.image.now (bytes_of c.args.image.now c.type_inv.image) c.requires.0 c.requires.1 c.requires.3 c.args.k c.in-Ok.i (found_is c.args.image.now (bytes_of c.args.image.now c.type_inv.image) c.requires.0 c.requires.1 c.args.count c.requires.2 c.args.k c.find_point.result c.find_point.ensures (Ok c.in-Ok.i) c.in-Ok.is)) c.holds-holder.result c.row_at-r.result c.context_entry.result _ c.holds-holder.ensures c.row_at-r.ensures c.context_entry.ensures c.filled_entry.ensures

pub returns-in-Err : goal.returns-in-Err
returns-in-Err c = entry_is c.args.image.now c.requires.0 c.args.k c.args.n c.requires.4 no_object (look_up_none c.args.k (decode c.args.image.now).points (record_none c.args.k (decode c.args.image.now).points c.in-Err.field-0 (found_is c.args.image.now (bytes_of c.args.image.now c.type_inv.image) c.requires.0 c.requires.1 c.args.count c.requires.2 c.args.k c.find_point.result c.find_point.ensures (Err c.in-Err.field-0) c.in-Err.is))) c.holds-holder.result c.row_at-r.result (counter 0) _ c.holds-holder.ensures c.row_at-r.ensures (sym (same_counter (entry no_object.context c.args.n) (counter 0) (no_entry c.args.n c.requires.4))) c.filled_entry-in-Err.ensures
