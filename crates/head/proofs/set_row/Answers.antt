-- `head::set_row` meets its contract. The bytes of a row put anew are the head with that row (Edits). Assumes nothing.
use Rattle.block.proofs.Numbers.{bytes_of}
use Rattle.head.proofs.Edits.{row_is_put}
use borrow.Author.Rules.{rules}
use borrow.Author.Rules.{rules}
use Rattle.head.proofs.set_row.Goals as goal

pub returns : goal.returns
returns c = let a = c.args in let p = c.requires in row_is_put a.b.now _ (bytes_of a.b.now c.slice_known-1.given) p.0 p.2 a.n p.1 a.r _ (search rules, search rules) c.put_u32.ensures c.put_u64.ensures
