-- `checking::stored_otherwise` meets its contract. By the point's record, or by none (HomeLent). Assumes nothing.
use mathlib.Core.Path.{subst}
use Rattle.numbers.specs.declared.Key.{Key}
use Rattle.block.specs.Fields.{upto}
use Rattle.block.proofs.Numbers.{bytes_of}
use Rattle.layout.specs.PointBlock.{form_1, decode_point}
use Rattle.merging.proofs.Slots.{few_slots}
use Rattle.image.specs.Places.{PointIn}
use Rattle.image.specs.Apart.{point_at}
use Rattle.image.proofs.Counted.{points_few}
use Rattle.image_edits.proofs.Fetching.{search_ascends, search_few}
use Rattle.store.proofs.Lent.{good_ascends, good_canonical}
use Rattle.store.proofs.Stripped.{record_laid, record_size}
use Rattle.store.proofs.Resulting.{found_is}
use Rattle.checking.proofs.HomeLent.{home_ascends, known_clash, new_clash}
use native.Mathlib.Omega.{arith}
use Rattle.checking.proofs.stored_otherwise.Goals as goal
use Rattle.std.specs.Prelude.{Ok, Err}

pub find_point-requires : goal.find_point-requires
find_point-requires c = (c.requires.0, search_few c.args.image.now (bytes_of c.args.image.now c.type_inv.image) c.requires.0 (good_canonical c.args.image.now c.requires.1) c.args.count c.requires.2, search_ascends c.args.image.now (bytes_of c.args.image.now c.type_inv.image) c.requires.0 (good_canonical c.args.image.now c.requires.1) c.args.count c.requires.2 (good_ascends c.args.image.now c.requires.1))

pub overflow_add-at : goal.overflow_add-at
overflow_add-at c = omega (arith, c.requires.0, (found_is c.args.image.now (bytes_of c.args.image.now c.type_inv.image) c.requires.0 (good_canonical c.args.image.now c.requires.1) c.args.count c.requires.2 (decode_point form_1 c.args.b.now).key c.find_point.result (subst (λ (x : Key). PointIn (upto c.args.count (point_at c.args.image.now)) x c.find_point.result) c.key_of.ensures c.find_point.ensures) (Ok c.in-Ok.i) c.in-Ok.is).0, points_few c.args.image.now)

pub overflow_mul-at : goal.overflow_mul-at
overflow_mul-at c = omega (arith, c.requires.0, (found_is c.args.image.now (bytes_of c.args.image.now c.type_inv.image) c.requires.0 (good_canonical c.args.image.now c.requires.1) c.args.count c.requires.2 (decode_point form_1 c.args.b.now).key c.find_point.result (subst (λ (x : Key). PointIn (upto c.args.count (point_at c.args.image.now)) x c.find_point.result) c.key_of.ensures c.find_point.ensures) (Ok c.in-Ok.i) c.in-Ok.is).0, points_few c.args.image.now)

pub overflow_add-at-in-Ok : goal.overflow_add-at-in-Ok
overflow_add-at-in-Ok c = omega (arith, c.requires.0, (found_is c.args.image.now (bytes_of c.args.image.now c.type_inv.image) c.requires.0 (good_canonical c.args.image.now c.requires.1) c.args.count c.requires.2 (decode_point form_1 c.args.b.now).key c.find_point.result (subst (λ (x : Key). PointIn (upto c.args.count (point_at c.args.image.now)) x c.find_point.result) c.key_of.ensures c.find_point.ensures) (Ok c.in-Ok.i) c.in-Ok.is).0, points_few c.args.image.now)

pub slice_bounds-known_otherwise-end : goal.slice_bounds-known_otherwise-end
slice_bounds-known_otherwise-end c = omega (arith, c.requires.0, (found_is c.args.image.now (bytes_of c.args.image.now c.type_inv.image) c.requires.0 (good_canonical c.args.image.now c.requires.1) c.args.count c.requires.2 (decode_point form_1 c.args.b.now).key c.find_point.result (subst (λ (x : Key). PointIn (upto c.args.count (point_at c.args.image.now)) x c.find_point.result) c.key_of.ensures c.find_point.ensures) (Ok c.in-Ok.i) c.in-Ok.is).0, points_few c.args.image.now)

pub known_otherwise-requires : goal.known_otherwise-requires
known_otherwise-requires c = (c.requires.0, c.requires.1, c.requires.2, c.requires.3, c.requires.4, record_size c.args.image.now (bytes_of c.args.image.now c.type_inv.image) c.requires.0 (good_canonical c.args.image.now c.requires.1) c.in-Ok.i (found_is c.args.image.now (bytes_of c.args.image.now c.type_inv.image) c.requires.0 (good_canonical c.args.image.now c.requires.1) c.args.count c.requires.2 (decode_point form_1 c.args.b.now).key c.find_point.result (subst (λ (x : Key). PointIn (upto c.args.count (point_at c.args.image.now)) x c.find_point.result) c.key_of.ensures c.find_point.ensures) (Ok c.in-Ok.i) c.in-Ok.is).0, record_laid c.args.image.now (bytes_of c.args.image.now c.type_inv.image) c.requires.0 (good_canonical c.args.image.now c.requires.1) c.in-Ok.i (found_is c.args.image.now (bytes_of c.args.image.now c.type_inv.image) c.requires.0 (good_canonical c.args.image.now c.requires.1) c.args.count c.requires.2 (decode_point form_1 c.args.b.now).key c.find_point.result (subst (λ (x : Key). PointIn (upto c.args.count (point_at c.args.image.now)) x c.find_point.result) c.key_of.ensures c.find_point.ensures) (Ok c.in-Ok.i) c.in-Ok.is).0, home_ascends c.args.image.now (bytes_of c.args.image.now c.type_inv.image) c.requires.0 c.requires.1 (decode_point form_1 c.args.b.now).key c.in-Ok.i (found_is c.args.image.now (bytes_of c.args.image.now c.type_inv.image) c.requires.0 (good_canonical c.args.image.now c.requires.1) c.args.count c.requires.2 (decode_point form_1 c.args.b.now).key c.find_point.result (subst (λ (x : Key). PointIn (upto c.args.count (point_at c.args.image.now)) x c.find_point.result) c.key_of.ensures c.find_point.ensures) (Ok c.in-Ok.i) c.in-Ok.is))

pub new_otherwise-requires : goal.new_otherwise-requires
new_otherwise-requires c = (c.requires.0, c.requires.1, c.requires.2, c.requires.3, few_slots c.args.b.now (bytes_of c.args.b.now c.type_inv.b) c.requires.3 c.requires.4)

pub returns-in-Ok : goal.returns-in-Ok
returns-in-Ok c = known_clash c.args.image.now (bytes_of c.args.image.now c.type_inv.image) c.requires.0 c.requires.1 (decode_point form_1 c.args.b.now).key c.in-Ok.i (found_is c.args.image.now (bytes_of c.args.image.now c.type_inv.image) c.requires.0 (good_canonical c.args.image.now c.requires.1) c.args.count c.requires.2 (decode_point form_1 c.args.b.now).key c.find_point.result (subst (λ (x : Key). PointIn (upto c.args.count (point_at c.args.image.now)) x c.find_point.result) c.key_of.ensures c.find_point.ensures) (Ok c.in-Ok.i) c.in-Ok.is) (decode_point form_1 c.args.b.now).object.versions c.known_otherwise.result c.known_otherwise.ensures

pub returns-in-Err : goal.returns-in-Err
returns-in-Err c = new_clash c.args.image.now (bytes_of c.args.image.now c.type_inv.image) c.requires.0 c.requires.1 (decode_point form_1 c.args.b.now).key c.in-Err.field-0 (found_is c.args.image.now (bytes_of c.args.image.now c.type_inv.image) c.requires.0 (good_canonical c.args.image.now c.requires.1) c.args.count c.requires.2 (decode_point form_1 c.args.b.now).key c.find_point.result (subst (λ (x : Key). PointIn (upto c.args.count (point_at c.args.image.now)) x c.find_point.result) c.key_of.ensures c.find_point.ensures) (Err c.in-Err.field-0) c.in-Err.is) (decode_point form_1 c.args.b.now).object.versions c.new_otherwise.result c.new_otherwise.ensures
