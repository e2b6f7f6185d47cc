-- `store::put_new` meets its contract. Opened, written, stripped (Resulting). Assumes nothing.
use Prim.Native.Nat.{◌-◌}
use native.Mathlib.Omega.{arith}
use Rattle.layout.specs.Clocks.{decode_clock}
use Rattle.layout.specs.PointBlock.{form_1, decode_stored}
use Rattle.store.proofs.Resulting.{opened_inside, written_inside, new_put}
use Rattle.store.proofs.put_new.Goals as goal

pub write_record-requires : goal.write_record-requires
write_record-requires c = (omega (arith, c.requires.0), c.open_place.ensures.1, opened_inside c.args.image.now _ c.args.image.now c.args.image.now c.args.i _ (decode_stored form_1 c.args.b.now) (decode_clock c.args.rows.now) (omega (arith, c.requires.2, c.requires.3)) c.open_place.ensures, c.requires.5, c.requires.6)

pub strip_record-requires : goal.strip_record-requires
strip_record-requires c = (omega (arith, c.requires.0), c.write_record.ensures.1, written_inside c.args.image.now _ _ c.args.image.now c.args.i _ (decode_stored form_1 c.args.b.now) (decode_clock c.args.rows.now) (omega (arith, c.requires.2, c.requires.3)) c.open_place.ensures c.write_record.ensures, c.requires.7)

pub returns : goal.returns
returns c = new_put c.args.image.now _ _ _ c.args.i _ (decode_stored form_1 c.args.b.now) (decode_clock c.args.rows.now) (omega (arith, c.requires.2, c.requires.3)) c.open_place.ensures c.write_record.ensures c.strip_record.ensures
