-- `object::put_version` meets its contract. The place that was found is that of the version (VersionPlaces). Assumes nothing.
use Rattle.block.proofs.Numbers.{bytes_of}
use Rattle.layout.specs.PointBlock.{form_1, decode_slot}
use Rattle.record_edits.proofs.Edits.{count_is}
use Rattle.object.proofs.VersionPlaces.{put_inside, one_less, put_instead, put_between, put_before}
use native.Mathlib.Omega.{arith}
use Rattle.object.proofs.put_version.Goals as goal

pub find_version-requires : goal.find_version-requires
find_version-requires c = let b = c.args.b.now in
    let p = c.requires in
    (p.0, omega (arith, count_is b (bytes_of b c.slice_known-1.given) p.0 p.1, p.3), p.2)

pub remove_version-requires : goal.remove_version-requires
remove_version-requires c = let a = c.args in
    let p = c.requires in
    (p.0, p.1, put_inside a.b.now (decode_slot form_1 a.slot.now) c.slot_dot.ensures c.find_version.result c.find_version.ensures c.in-Ok.i c.in-Ok.is)

pub insert_version-requires : goal.insert_version-requires
insert_version-requires c = let a = c.args in
    let p = c.requires in
    let r = c.remove_version.ensures in
    let n = one_less a.b.now (decode_slot form_1 a.slot.now) c.slot_dot.ensures c.find_version.result c.find_version.ensures c.in-Ok.i c.in-Ok.is _ r.0 in
    let l = put_inside a.b.now (decode_slot form_1 a.slot.now) c.slot_dot.ensures c.find_version.result c.find_version.ensures c.in-Ok.i c.in-Ok.is in
    (omega (arith, p.0), r.1, omega (arith, n, l), omega (arith, n, p.3), p.4, p.5)

pub insert_version-requires-in-Err : goal.insert_version-requires-in-Err
insert_version-requires-in-Err c = let a = c.args in
    let p = c.requires in
    (p.0, p.1, put_between a.b.now (decode_slot form_1 a.slot.now) c.slot_dot.ensures c.find_version.result c.find_version.ensures c.in-Err.i c.in-Err.is, p.3, p.4, p.5)

pub returns-in-Ok : goal.returns-in-Ok
returns-in-Ok c = let a = c.args in
    put_instead a.b.now (decode_slot form_1 a.slot.now) c.slot_dot.ensures c.find_version.result c.find_version.ensures c.in-Ok.i c.in-Ok.is _ c.remove_version.ensures.0 _ c.requires.2 c.insert_version.ensures

pub returns-in-Err : goal.returns-in-Err
returns-in-Err c = let a = c.args in
    put_before a.b.now (decode_slot form_1 a.slot.now) c.slot_dot.ensures c.find_version.result c.find_version.ensures c.in-Err.i c.in-Err.is _ c.insert_version-in-Err.ensures
