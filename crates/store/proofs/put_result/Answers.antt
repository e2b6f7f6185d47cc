-- `store::put_result` meets its contract. As the definition puts it (Resulting). Assumes nothing.
use Prim.Native.Nat.{◌-◌}
use mathlib.Core.Path.{ap, sym, ◌∙◌}
use native.Mathlib.Omega.{arith}
use borrow.Author.Tests.{not-true, not-false}
use Rattle.block.proofs.Numbers.{bytes_of}
use Rattle.layout.specs.Clocks.{decode_clock}
use Rattle.layout.specs.PointBlock.{form_1, decode_stored}
use Rattle.layout.specs.Image.{decode}
use Rattle.record_edits.proofs.Edits.{count_is, few_versions}
use Rattle.image_edits.specs.Edits.{with_points}
use Rattle.image_edits.proofs.Fetching.{search_ascends, search_few}
use Rattle.store.proofs.Resulting.{result_found, same_gone, place_left, put_where_stored, put_where_new, put_nothing}
use Rattle.store.proofs.put_result.Goals as goal
use Rattle.std.specs.Prelude.{Ok, Err}

pub find_point-requires : goal.find_point-requires
find_point-requires c = (c.requires.0, search_few c.args.image.now (bytes_of c.args.image.now c.slice_known-1.given) c.requires.0 c.requires.1 c.args.count c.requires.2, search_ascends c.args.image.now (bytes_of c.args.image.now c.slice_known-1.given) c.requires.0 c.requires.1 c.args.count c.requires.2 c.requires.3)

pub put_stored-requires : goal.put_stored-requires
put_stored-requires c = (c.requires.0, c.requires.1, c.requires.2, omega (arith, c.requires.2, (result_found c.args.image.now (bytes_of c.args.image.now c.slice_known-1.given) c.requires.0 c.requires.1 c.args.count c.requires.2 c.key_of.result c.find_point.result c.find_point.ensures c.args.b.now c.key_of.ensures (Ok c.in-Ok.i) c.in-Ok.is).0), c.requires.4, c.requires.5, c.requires.6)

pub goes-requires : goal.goes-requires
goes-requires c = (c.requires.4, omega (arith, count_is c.args.b.now (bytes_of c.args.b.now c.type_inv.b) c.requires.4 c.requires.5, few_versions c.args.b.now (bytes_of c.args.b.now c.type_inv.b) c.requires.4 c.requires.5), c.requires.6)

pub put_new-requires : goal.put_new-requires
put_new-requires c = (c.requires.0, c.requires.1, c.requires.2, omega (arith, c.requires.2, (result_found c.args.image.now (bytes_of c.args.image.now c.slice_known-1.given) c.requires.0 c.requires.1 c.args.count c.requires.2 c.key_of.result c.find_point.result c.find_point.ensures c.args.b.now c.key_of.ensures (Err c.in-Err.i) c.in-Err.is).0), omega (arith, c.requires.2, place_left (decode_clock c.args.rows.now) (decode c.args.image.now).points (decode_stored form_1 c.args.b.now) c.in-Err.i (result_found c.args.image.now (bytes_of c.args.image.now c.slice_known-1.given) c.requires.0 c.requires.1 c.args.count c.requires.2 c.key_of.result c.find_point.result c.find_point.ensures c.args.b.now c.key_of.ensures (Err c.in-Err.i) c.in-Err.is) (sym (same_gone (decode_clock c.args.rows.now) c.args.b.now c.goes.ensures) ∙ not-true _ c.if-not-goes.true-raw) c.requires.7), c.requires.4, c.requires.5, c.requires.6)

pub returns-in-Ok : goal.returns-in-Ok
returns-in-Ok c = (c.put_stored.ensures.0 ∙ ap (with_points (decode c.args.image.now)) (put_where_stored (decode_clock c.args.rows.now) (decode c.args.image.now).points (decode_stored form_1 c.args.b.now) c.in-Ok.i c.requires.3 (result_found c.args.image.now (bytes_of c.args.image.now c.slice_known-1.given) c.requires.0 c.requires.1 c.args.count c.requires.2 c.key_of.result c.find_point.result c.find_point.ensures c.args.b.now c.key_of.ensures (Ok c.in-Ok.i) c.in-Ok.is)), c.put_stored.ensures.1)

pub returns-then-not-goes : goal.returns-then-not-goes
returns-then-not-goes c = (c.put_new.ensures.0 ∙ ap (with_points (decode c.args.image.now)) (put_where_new (decode_clock c.args.rows.now) (decode c.args.image.now).points (decode_stored form_1 c.args.b.now) c.in-Err.i (result_found c.args.image.now (bytes_of c.args.image.now c.slice_known-1.given) c.requires.0 c.requires.1 c.args.count c.requires.2 c.key_of.result c.find_point.result c.find_point.ensures c.args.b.now c.key_of.ensures (Err c.in-Err.i) c.in-Err.is) (sym (same_gone (decode_clock c.args.rows.now) c.args.b.now c.goes.ensures) ∙ not-true _ c.if-not-goes.true-raw)), c.put_new.ensures.1)

pub returns-else-not-goes : goal.returns-else-not-goes
returns-else-not-goes c = (ap (with_points (decode c.args.image.now)) (put_nothing (decode_clock c.args.rows.now) (decode c.args.image.now).points (decode_stored form_1 c.args.b.now) c.in-Err.i (result_found c.args.image.now (bytes_of c.args.image.now c.slice_known-1.given) c.requires.0 c.requires.1 c.args.count c.requires.2 c.key_of.result c.find_point.result c.find_point.ensures c.args.b.now c.key_of.ensures (Err c.in-Err.i) c.in-Err.is) (sym (same_gone (decode_clock c.args.rows.now) c.args.b.now c.goes.ensures) ∙ not-false _ c.if-not-goes.false-raw)), c.requires.1)
