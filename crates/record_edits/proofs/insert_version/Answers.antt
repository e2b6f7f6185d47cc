-- `record::insert_version` meets its contract. Move, copy, count: the bytes are those of the block with one more version (Edits). Assumes nothing.
use native.Mathlib.Omega.{arith}
use Rattle.block.proofs.Numbers.{bytes_of}
use Rattle.record_edits.proofs.Edits.{count_is, few_versions, version_inserted}
use Rattle.record_edits.proofs.insert_version.Goals as goal

pub overflow_sub-n : goal.overflow_sub-n
overflow_sub-n c = let b = c.args.b.now in let small = bytes_of c.args.b.now c.slice_known-1.given in let p = c.requires in omega (arith, c.version_count-n.ensures, count_is b small p.0 p.1, few_versions b small p.0 p.1)

pub move_up-requires : goal.move_up-requires
move_up-requires c = let b = c.args.b.now in let small = bytes_of c.args.b.now c.slice_known-1.given in let p = c.requires in (omega (arith, c.version_count-n.ensures, count_is b small p.0 p.1, few_versions b small p.0 p.1), omega (arith, c.version_count-n.ensures, count_is b small p.0 p.1, few_versions b small p.0 p.1))

pub overflow_cast-n-2 : goal.overflow_cast-n-2
overflow_cast-n-2 c = let b = c.args.b.now in let small = bytes_of c.args.b.now c.slice_known-1.given in let p = c.requires in omega (arith, c.version_count-n.ensures, count_is b small p.0 p.1, few_versions b small p.0 p.1)

pub returns : goal.returns
returns c = let b = c.args.b.now in let small = bytes_of c.args.b.now c.slice_known-1.given in let p = c.requires in version_inserted b small p.0 p.1 c.args.i c.version_count-n.result c.version_count-n.ensures c.args.slot.now _ _ _ (bytes_of c.args.slot.now c.type_inv.slot) p.4 p.5 p.2 p.3 c.move_up.ensures c.copy_in.ensures c.put_u8.ensures
