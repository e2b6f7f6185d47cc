-- `record::relabel` meets its contract. The bytes are those of the block under its new label (Edits). Assumes nothing.
use native.Mathlib.Omega.{arith}
use Rattle.block.proofs.Numbers.{bytes_of}
use Rattle.record_edits.proofs.Edits.{relabelled_is}
use borrow.Author.Rules.{rules}
use Rattle.record_edits.proofs.relabel.Goals as goal

pub returns : goal.returns
returns c = let b = c.args.b.now in let small = bytes_of c.args.b.now c.slice_known-1.given in let p = c.requires in relabelled_is b small p.0 p.1 _ _ _ c.args.kind c.args.position c.args.from (omega arith) (omega arith) (search rules) c.put_u8.ensures c.put_u16.ensures c.put_u8-2.ensures
