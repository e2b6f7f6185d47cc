-- `weighing::record_goes` meets its contract. By the record that was found, or by none (Judging). Assumes nothing.
use mathlib.Core.Path.{subst}
use Rattle.numbers.specs.declared.Key.{Key}
use Rattle.block.specs.Fields.{upto}
use Rattle.image.specs.Places.{PointIn}
use Rattle.image.specs.Apart.{point_at}
use Rattle.block.proofs.Numbers.{bytes_of}
use Rattle.layout.specs.Image.{decode}
use Rattle.layout.specs.Clocks.{decode_clock}
use Rattle.image_edits.proofs.Blocks.{image_decoded}
use Rattle.image_edits.proofs.Fetching.{search_ascends, search_few}
use Rattle.store.proofs.Lent.{good_now, good_ascends, good_canonical}
use Rattle.store.proofs.Resulting.{found_is}
use Rattle.store.proofs.Record.{lent_long, lent_few, lent_crewed}
use Rattle.merging.specs.Merging.{theirs}
use Rattle.weighing.specs.Weighed.{key_in}
use Rattle.weighing.proofs.Takings.{ascend, by_crew}
use Rattle.weighing.proofs.Judging.{few_sent, found_ascend, found_agreed, merged_found, none_goes}
use native.Mathlib.Omega.{arith}
use Rattle.weighing.proofs.record_goes.Goals as goal
use Rattle.std.specs.Prelude.{Ok, Err}

pub find_point-requires : goal.find_point-requires
find_point-requires c = (c.requires.0, search_few c.args.image.now (bytes_of c.args.image.now c.type_inv.image) c.requires.0 (good_canonical c.args.image.now c.requires.1) c.args.count c.requires.2, search_ascends c.args.image.now (bytes_of c.args.image.now c.type_inv.image) c.requires.0 (good_canonical c.args.image.now c.requires.1) c.args.count c.requires.2 (good_ascends c.args.image.now c.requires.1))

pub overflow_add-at : goal.overflow_add-at
overflow_add-at c = omega (arith, c.requires.0, ((found_is c.args.image.now (bytes_of c.args.image.now c.type_inv.image) c.requires.0 (good_canonical c.args.image.now c.requires.1) c.args.count c.requires.2 (key_in c.args.m.now) c.find_point.result (subst (λ (x : Key). PointIn (upto c.args.count (point_at c.args.image.now)) x c.find_point.result) c.key_of.ensures c.find_point.ensures) (Ok c.in-Ok.i) c.in-Ok.is)).0, (image_decoded c.args.image.now (bytes_of c.args.image.now c.type_inv.image) c.requires.0).few)

pub overflow_mul-at : goal.overflow_mul-at
overflow_mul-at c = omega (arith, c.requires.0, ((found_is c.args.image.now (bytes_of c.args.image.now c.type_inv.image) c.requires.0 (good_canonical c.args.image.now c.requires.1) c.args.count c.requires.2 (key_in c.args.m.now) c.find_point.result (subst (λ (x : Key). PointIn (upto c.args.count (point_at c.args.image.now)) x c.find_point.result) c.key_of.ensures c.find_point.ensures) (Ok c.in-Ok.i) c.in-Ok.is)).0, (image_decoded c.args.image.now (bytes_of c.args.image.now c.type_inv.image) c.requires.0).few)

pub overflow_add-at-in-Ok : goal.overflow_add-at-in-Ok
overflow_add-at-in-Ok c = omega (arith, c.requires.0, ((found_is c.args.image.now (bytes_of c.args.image.now c.type_inv.image) c.requires.0 (good_canonical c.args.image.now c.requires.1) c.args.count c.requires.2 (key_in c.args.m.now) c.find_point.result (subst (λ (x : Key). PointIn (upto c.args.count (point_at c.args.image.now)) x c.find_point.result) c.key_of.ensures c.find_point.ensures) (Ok c.in-Ok.i) c.in-Ok.is)).0, (image_decoded c.args.image.now (bytes_of c.args.image.now c.type_inv.image) c.requires.0).few)

pub slice_bounds-goes_with-end : goal.slice_bounds-goes_with-end
slice_bounds-goes_with-end c = omega (arith, c.requires.0, ((found_is c.args.image.now (bytes_of c.args.image.now c.type_inv.image) c.requires.0 (good_canonical c.args.image.now c.requires.1) c.args.count c.requires.2 (key_in c.args.m.now) c.find_point.result (subst (λ (x : Key). PointIn (upto c.args.count (point_at c.args.image.now)) x c.find_point.result) c.key_of.ensures c.find_point.ensures) (Ok c.in-Ok.i) c.in-Ok.is)).0, (image_decoded c.args.image.now (bytes_of c.args.image.now c.type_inv.image) c.requires.0).few)

pub goes_with-requires : goal.goes_with-requires
goes_with-requires c = (lent_long c.args.image.now (bytes_of c.args.image.now c.type_inv.image) c.requires.0 c.requires.1 (key_in c.args.m.now) c.in-Ok.i ((found_is c.args.image.now (bytes_of c.args.image.now c.type_inv.image) c.requires.0 (good_canonical c.args.image.now c.requires.1) c.args.count c.requires.2 (key_in c.args.m.now) c.find_point.result (subst (λ (x : Key). PointIn (upto c.args.count (point_at c.args.image.now)) x c.find_point.result) c.key_of.ensures c.find_point.ensures) (Ok c.in-Ok.i) c.in-Ok.is)), lent_few c.args.image.now (bytes_of c.args.image.now c.type_inv.image) c.requires.0 c.requires.1 (key_in c.args.m.now) c.in-Ok.i ((found_is c.args.image.now (bytes_of c.args.image.now c.type_inv.image) c.requires.0 (good_canonical c.args.image.now c.requires.1) c.args.count c.requires.2 (key_in c.args.m.now) c.find_point.result (subst (λ (x : Key). PointIn (upto c.args.count (point_at c.args.image.now)) x c.find_point.result) c.key_of.ensures c.find_point.ensures) (Ok c.in-Ok.i) c.in-Ok.is)), c.requires.3.0, few_sent c.args.m.now (bytes_of c.args.m.now c.type_inv.m) c.requires.3.0 c.requires.3.1, c.requires.3.2, c.requires.3.4, c.requires.4, found_ascend c.args.image.now (bytes_of c.args.image.now c.type_inv.image) c.requires.0 c.requires.1 c.args.m.now c.args.here.now c.args.there.now (bytes_of c.args.m.now c.type_inv.m) c.requires.3 c.in-Ok.i ((found_is c.args.image.now (bytes_of c.args.image.now c.type_inv.image) c.requires.0 (good_canonical c.args.image.now c.requires.1) c.args.count c.requires.2 (key_in c.args.m.now) c.find_point.result (subst (λ (x : Key). PointIn (upto c.args.count (point_at c.args.image.now)) x c.find_point.result) c.key_of.ensures c.find_point.ensures) (Ok c.in-Ok.i) c.in-Ok.is)), lent_crewed c.args.image.now (bytes_of c.args.image.now c.type_inv.image) c.requires.0 c.requires.1 (key_in c.args.m.now) c.in-Ok.i ((found_is c.args.image.now (bytes_of c.args.image.now c.type_inv.image) c.requires.0 (good_canonical c.args.image.now c.requires.1) c.args.count c.requires.2 (key_in c.args.m.now) c.find_point.result (subst (λ (x : Key). PointIn (upto c.args.count (point_at c.args.image.now)) x c.find_point.result) c.key_of.ensures c.find_point.ensures) (Ok c.in-Ok.i) c.in-Ok.is)), ascend (decode c.args.image.now) (good_now c.args.image.now c.requires.1) (key_in c.args.m.now) (theirs c.args.m.now c.args.there.now) c.requires.3.5, by_crew (decode c.args.image.now) (good_now c.args.image.now c.requires.1) (key_in c.args.m.now) (theirs c.args.m.now c.args.there.now) c.requires.3.5, found_agreed c.args.image.now (bytes_of c.args.image.now c.type_inv.image) c.requires.0 c.requires.1 c.args.m.now c.args.here.now c.args.there.now (bytes_of c.args.m.now c.type_inv.m) c.requires.3 c.in-Ok.i ((found_is c.args.image.now (bytes_of c.args.image.now c.type_inv.image) c.requires.0 (good_canonical c.args.image.now c.requires.1) c.args.count c.requires.2 (key_in c.args.m.now) c.find_point.result (subst (λ (x : Key). PointIn (upto c.args.count (point_at c.args.image.now)) x c.find_point.result) c.key_of.ensures c.find_point.ensures) (Ok c.in-Ok.i) c.in-Ok.is)))

pub returns-in-Ok : goal.returns-in-Ok
returns-in-Ok c = merged_found c.args.image.now (bytes_of c.args.image.now c.type_inv.image) c.requires.0 c.requires.1 c.args.m.now c.args.here.now c.args.there.now (bytes_of c.args.m.now c.type_inv.m) c.requires.3 c.in-Ok.i ((found_is c.args.image.now (bytes_of c.args.image.now c.type_inv.image) c.requires.0 (good_canonical c.args.image.now c.requires.1) c.args.count c.requires.2 (key_in c.args.m.now) c.find_point.result (subst (λ (x : Key). PointIn (upto c.args.count (point_at c.args.image.now)) x c.find_point.result) c.key_of.ensures c.find_point.ensures) (Ok c.in-Ok.i) c.in-Ok.is)) (decode_clock c.args.rows.now) _ c.goes_with.ensures

pub returns-in-Err : goal.returns-in-Err
returns-in-Err c = none_goes c.args.image.now (bytes_of c.args.image.now c.type_inv.image) c.requires.0 c.requires.1 c.args.m.now c.args.here.now c.args.there.now (bytes_of c.args.m.now c.type_inv.m) c.requires.3 c.in-Err.field-0 ((found_is c.args.image.now (bytes_of c.args.image.now c.type_inv.image) c.requires.0 (good_canonical c.args.image.now c.requires.1) c.args.count c.requires.2 (key_in c.args.m.now) c.find_point.result (subst (λ (x : Key). PointIn (upto c.args.count (point_at c.args.image.now)) x c.find_point.result) c.key_of.ensures c.find_point.ensures) (Err c.in-Err.field-0) c.in-Err.is)) (decode_clock c.args.rows.now)
