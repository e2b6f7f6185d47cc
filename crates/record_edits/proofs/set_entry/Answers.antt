-- `record::set_entry` meets its contract. The bytes are those of the block with that entry (Edits). Assumes nothing.
use Rattle.block.proofs.Numbers.{bytes_of}
use Rattle.record_edits.proofs.Edits.{entry_is_put}
use borrow.Author.Rules.{rules}
use Rattle.record_edits.proofs.set_entry.Goals as goal

pub returns : goal.returns
returns c = let b = c.args.b.now in let small = bytes_of c.args.b.now c.slice_known-1.given in let p = c.requires in entry_is_put b small p.0 p.2 _ c.args.n c.args.c p.1 (search rules) c.put_u32.ensures
