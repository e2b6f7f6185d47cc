-- `store::strip_record` meets its contract. The lent block stripped and sealed (Stripped). Assumes nothing.
use Prim.Native.Nat.{◌-◌}
use mathlib.Core.Path.{refl}
use native.Mathlib.Omega.{arith}
use Rattle.block.proofs.Numbers.{bytes_of}
use Rattle.layout.specs.Clocks.{decode_clock}
use Rattle.image_edits.proofs.Blocks.{image_decoded}
use Rattle.store.proofs.Stripped.{record_laid, record_size, record_stripped}
use Rattle.store.proofs.strip_record.Goals as goal

pub overflow_add-at : goal.overflow_add-at
overflow_add-at c = let img = c.args.image.now in let small = bytes_of c.args.image.now c.type_inv.image in let p = c.requires in omega (arith, p.0, p.2, (image_decoded img small p.0).few)

pub overflow_mul-at : goal.overflow_mul-at
overflow_mul-at c = let img = c.args.image.now in let small = bytes_of c.args.image.now c.type_inv.image in let p = c.requires in omega (arith, p.0, p.2, (image_decoded img small p.0).few)

pub overflow_add-at-2 : goal.overflow_add-at-2
overflow_add-at-2 c = let img = c.args.image.now in let small = bytes_of c.args.image.now c.type_inv.image in let p = c.requires in omega (arith, p.0, p.2, (image_decoded img small p.0).few)

pub slice_bounds-strip_off-end : goal.slice_bounds-strip_off-end
slice_bounds-strip_off-end c = let img = c.args.image.now in let small = bytes_of c.args.image.now c.type_inv.image in let p = c.requires in omega (arith, p.0, p.2, (image_decoded img small p.0).few)

pub strip_off-requires : goal.strip_off-requires
strip_off-requires c = let img = c.args.image.now in let small = bytes_of c.args.image.now c.slice_known-1.given in let p = c.requires in (record_size img small p.0 p.1 c.args.i p.2, record_laid img small p.0 p.1 c.args.i p.2, p.3)

pub overflow_add-at-3 : goal.overflow_add-at-3
overflow_add-at-3 c = let img = c.args.image.now in let small = bytes_of c.args.image.now c.slice_known-1.given in let p = c.requires in omega (arith, p.0, p.2, (image_decoded img small p.0).few)

pub slice_bounds-seal_block-end : goal.slice_bounds-seal_block-end
slice_bounds-seal_block-end c = let img = c.args.image.now in let small = bytes_of c.args.image.now c.slice_known-1.given in let p = c.requires in omega (arith, p.0, p.2, (image_decoded img small p.0).few)

pub returns : goal.returns
returns c = let img = c.args.image.now in let small = bytes_of c.args.image.now c.slice_known-1.given in let p = c.requires in record_stripped img small p.0 p.1 c.args.i p.2 (decode_clock c.args.rows.now) _ _ _ _ (omega arith) c.strip_off.ensures refl c.seal_block.ensures refl
