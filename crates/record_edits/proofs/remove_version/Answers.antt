-- `record::remove_version` meets its contract. Move, clear, count: the bytes are those of the block with one version less (Edits). Assumes nothing.
use native.Mathlib.Omega.{arith}
use Rattle.block.proofs.Numbers.{bytes_of}
use Rattle.record_edits.proofs.Edits.{count_is, few_versions, version_removed}
use Rattle.record_edits.proofs.remove_version.Goals as goal

pub overflow_mul-at : goal.overflow_mul-at
overflow_mul-at c = let b = c.args.b.now in let small = bytes_of c.args.b.now c.slice_known-1.given in let p = c.requires in omega (arith, c.version_count-n.ensures, count_is b small p.0 p.1, few_versions b small p.0 p.1)

pub overflow_add-at : goal.overflow_add-at
overflow_add-at c = let b = c.args.b.now in let small = bytes_of c.args.b.now c.slice_known-1.given in let p = c.requires in omega (arith, c.version_count-n.ensures, count_is b small p.0 p.1, few_versions b small p.0 p.1)

pub overflow_add-at-2 : goal.overflow_add-at-2
overflow_add-at-2 c = let b = c.args.b.now in let small = bytes_of c.args.b.now c.slice_known-1.given in let p = c.requires in omega (arith, c.version_count-n.ensures, count_is b small p.0 p.1, few_versions b small p.0 p.1)

pub overflow_sub-n : goal.overflow_sub-n
overflow_sub-n c = let b = c.args.b.now in let small = bytes_of c.args.b.now c.slice_known-1.given in let p = c.requires in omega (arith, c.version_count-n.ensures, count_is b small p.0 p.1, few_versions b small p.0 p.1)

pub overflow_sub-n-2 : goal.overflow_sub-n-2
overflow_sub-n-2 c = let b = c.args.b.now in let small = bytes_of c.args.b.now c.slice_known-1.given in let p = c.requires in omega (arith, c.version_count-n.ensures, count_is b small p.0 p.1, few_versions b small p.0 p.1)

pub move_down-requires : goal.move_down-requires
move_down-requires c = let b = c.args.b.now in let small = bytes_of c.args.b.now c.slice_known-1.given in let p = c.requires in (omega (arith, c.version_count-n.ensures, count_is b small p.0 p.1, few_versions b small p.0 p.1), omega (arith, c.version_count-n.ensures, count_is b small p.0 p.1, few_versions b small p.0 p.1))

pub clear-requires : goal.clear-requires
clear-requires c = let b = c.args.b.now in let small = bytes_of c.args.b.now c.slice_known-1.given in let p = c.requires in (omega (arith, c.version_count-n.ensures, count_is b small p.0 p.1, few_versions b small p.0 p.1), omega (arith, c.version_count-n.ensures, count_is b small p.0 p.1, few_versions b small p.0 p.1))

pub overflow_sub-n-3 : goal.overflow_sub-n-3
overflow_sub-n-3 c = let b = c.args.b.now in let small = bytes_of c.args.b.now c.slice_known-1.given in let p = c.requires in omega (arith, c.version_count-n.ensures, count_is b small p.0 p.1, few_versions b small p.0 p.1)

pub returns : goal.returns
returns c = let b = c.args.b.now in let small = bytes_of c.args.b.now c.slice_known-1.given in let p = c.requires in version_removed b small p.0 p.1 c.args.i c.version_count-n.result c.version_count-n.ensures _ _ _ p.2 c.move_down.ensures c.clear.ensures c.put_u8.ensures
