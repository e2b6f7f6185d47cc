-- `joining::put_merged` meets its contract. By the record that was found, or by none (Putting). Assumes nothing.
use mathlib.Core.Path.{ap, subst, ◌∙◌}
use Rattle.numbers.specs.declared.Key.{Key}
use Rattle.numbers.proofs.Tests.{not-true}
use borrow.Author.Tests.{not-false}
use Rattle.block.specs.Fields.{upto}
use Rattle.block.proofs.Numbers.{bytes_of}
use Rattle.layout.specs.Clocks.{decode_clock}
use Rattle.layout.specs.Image.{decode}
use Rattle.image.specs.Places.{PointIn}
use Rattle.image.specs.Apart.{point_at}
use Rattle.image_edits.specs.Edits.{with_points}
use Rattle.image_edits.proofs.Fetching.{search_ascends, search_few}
use Rattle.store.proofs.Resulting.{found_is}
use Rattle.weighing.specs.Weighed.{key_in}
use Rattle.weighing.proofs.Judging.{few_sent}
use Rattle.joining.proofs.Putting.{stored_above, stored_mergeable, put_there, new_mergeable, put_new_there, put_none, room_left}
use native.Mathlib.Omega.{arith}
use Rattle.joining.proofs.put_merged.Goals as goal
use Rattle.std.specs.Prelude.{Ok, Err}

pub find_point-requires : goal.find_point-requires
find_point-requires c = (c.requires.0, search_few c.args.image.now (bytes_of c.args.image.now c.slice_known-1.given) c.requires.0 c.requires.1 c.args.count c.requires.2, search_ascends c.args.image.now (bytes_of c.args.image.now c.slice_known-1.given) c.requires.0 c.requires.1 c.args.count c.requires.2 c.requires.3)

pub merge_stored-requires : goal.merge_stored-requires
merge_stored-requires c = (c.requires.0, c.requires.1, c.requires.2, omega (arith, c.requires.2, (found_is c.args.image.now (bytes_of c.args.image.now c.slice_known-1.given) c.requires.0 c.requires.1 c.args.count c.requires.2 (key_in c.args.m.now) c.find_point.result (subst (λ (x : Key). PointIn (upto c.args.count (point_at c.args.image.now)) x c.find_point.result) c.key_of.ensures c.find_point.ensures) (Ok c.in-Ok.i) c.in-Ok.is).0), c.requires.4, c.requires.5, c.requires.6, c.requires.7, stored_above (decode c.args.image.now) c.args.m.now c.args.here.now c.args.there.now c.requires.9 c.in-Ok.i c.requires.3 (found_is c.args.image.now (bytes_of c.args.image.now c.slice_known-1.given) c.requires.0 c.requires.1 c.args.count c.requires.2 (key_in c.args.m.now) c.find_point.result (subst (λ (x : Key). PointIn (upto c.args.count (point_at c.args.image.now)) x c.find_point.result) c.key_of.ensures c.find_point.ensures) (Ok c.in-Ok.i) c.in-Ok.is), c.requires.8, stored_mergeable (decode c.args.image.now) c.args.m.now c.args.here.now c.args.there.now c.requires.9 c.in-Ok.i c.requires.3 (found_is c.args.image.now (bytes_of c.args.image.now c.slice_known-1.given) c.requires.0 c.requires.1 c.args.count c.requires.2 (key_in c.args.m.now) c.find_point.result (subst (λ (x : Key). PointIn (upto c.args.count (point_at c.args.image.now)) x c.find_point.result) c.key_of.ensures c.find_point.ensures) (Ok c.in-Ok.i) c.in-Ok.is) c.requires.10)

pub goes_alone-requires : goal.goes_alone-requires
goes_alone-requires c = (c.requires.4, few_sent c.args.m.now (bytes_of c.args.m.now c.type_inv.m) c.requires.4 c.requires.5, c.requires.10.3, c.requires.6, c.requires.7, c.requires.8)

pub merge_new-requires : goal.merge_new-requires
merge_new-requires c = (c.requires.0, c.requires.1, c.requires.2, omega (arith, c.requires.2, (found_is c.args.image.now (bytes_of c.args.image.now c.slice_known-1.given) c.requires.0 c.requires.1 c.args.count c.requires.2 (key_in c.args.m.now) c.find_point.result (subst (λ (x : Key). PointIn (upto c.args.count (point_at c.args.image.now)) x c.find_point.result) c.key_of.ensures c.find_point.ensures) (Err c.in-Err.i) c.in-Err.is).0), omega (arith, c.requires.2, room_left (decode c.args.image.now) c.args.m.now c.args.here.now c.args.there.now c.requires.9 c.in-Err.i c.requires.3 (found_is c.args.image.now (bytes_of c.args.image.now c.slice_known-1.given) c.requires.0 c.requires.1 c.args.count c.requires.2 (key_in c.args.m.now) c.find_point.result (subst (λ (x : Key). PointIn (upto c.args.count (point_at c.args.image.now)) x c.find_point.result) c.key_of.ensures c.find_point.ensures) (Err c.in-Err.i) c.in-Err.is) (decode_clock c.args.rows.now) c.goes_alone.result c.goes_alone.ensures (not-true _ c.if-not-goes_alone.true-raw) c.requires.11), c.requires.4, c.requires.5, c.requires.6, c.requires.7, c.requires.8, new_mergeable (decode c.args.image.now) c.args.m.now c.args.here.now c.args.there.now c.requires.9 c.in-Err.i c.requires.3 (found_is c.args.image.now (bytes_of c.args.image.now c.slice_known-1.given) c.requires.0 c.requires.1 c.args.count c.requires.2 (key_in c.args.m.now) c.find_point.result (subst (λ (x : Key). PointIn (upto c.args.count (point_at c.args.image.now)) x c.find_point.result) c.key_of.ensures c.find_point.ensures) (Err c.in-Err.i) c.in-Err.is) c.requires.10)

pub returns-in-Ok : goal.returns-in-Ok
returns-in-Ok c = (c.merge_stored.ensures.0 ∙ ap (with_points (decode c.args.image.now)) (put_there (decode c.args.image.now) c.args.m.now c.args.here.now c.args.there.now c.requires.9 c.in-Ok.i c.requires.3 (found_is c.args.image.now (bytes_of c.args.image.now c.slice_known-1.given) c.requires.0 c.requires.1 c.args.count c.requires.2 (key_in c.args.m.now) c.find_point.result (subst (λ (x : Key). PointIn (upto c.args.count (point_at c.args.image.now)) x c.find_point.result) c.key_of.ensures c.find_point.ensures) (Ok c.in-Ok.i) c.in-Ok.is) (decode_clock c.args.rows.now)), c.merge_stored.ensures.1)

pub returns-then-not-goes_alone : goal.returns-then-not-goes_alone
returns-then-not-goes_alone c = (c.merge_new.ensures.0 ∙ ap (with_points (decode c.args.image.now)) (put_new_there (decode c.args.image.now) c.args.m.now c.args.here.now c.args.there.now c.requires.9 c.in-Err.i c.requires.3 (found_is c.args.image.now (bytes_of c.args.image.now c.slice_known-1.given) c.requires.0 c.requires.1 c.args.count c.requires.2 (key_in c.args.m.now) c.find_point.result (subst (λ (x : Key). PointIn (upto c.args.count (point_at c.args.image.now)) x c.find_point.result) c.key_of.ensures c.find_point.ensures) (Err c.in-Err.i) c.in-Err.is) (decode_clock c.args.rows.now) c.goes_alone.result c.goes_alone.ensures (not-true _ c.if-not-goes_alone.true-raw)), c.merge_new.ensures.1)

pub returns-else-not-goes_alone : goal.returns-else-not-goes_alone
returns-else-not-goes_alone c = (ap (with_points (decode c.args.image.now)) (put_none (decode c.args.image.now) c.args.m.now c.args.here.now c.args.there.now c.requires.9 c.in-Err.i c.requires.3 (found_is c.args.image.now (bytes_of c.args.image.now c.slice_known-1.given) c.requires.0 c.requires.1 c.args.count c.requires.2 (key_in c.args.m.now) c.find_point.result (subst (λ (x : Key). PointIn (upto c.args.count (point_at c.args.image.now)) x c.find_point.result) c.key_of.ensures c.find_point.ensures) (Err c.in-Err.i) c.in-Err.is) (decode_clock c.args.rows.now) c.goes_alone.result c.goes_alone.ensures (not-false _ c.if-not-goes_alone.false-raw)), c.requires.1)
