-- `arriving::put_row` meets its contract. Assumes nothing.
use borrow.Author.Rules.{rules}
use Rattle.block.proofs.Numbers.{bytes_of}
use Rattle.arriving.proofs.RowPut.{row_put}
use Rattle.arriving.proofs.put_row.Goals as goal

pub returns : goal.returns
returns c = (row_put c.args.rows.now (bytes_of c.args.rows.now c.slice_known-1.given) c.requires.0 c.args.n c.requires.1 c.args.r (search rules, search rules) _ _ c.put_u32.ensures c.put_u64.ensures, search rules)
