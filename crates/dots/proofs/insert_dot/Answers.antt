-- `dots::insert_dot` meets its contract. Move, write, count: the bytes are those of the longer list (Edits). Assumes nothing.
use native.Mathlib.Omega.{arith}
use Rattle.block.proofs.Numbers.{bytes_of}
use Rattle.dots.proofs.Edits.{count_is, few_dots, dot_inserted}
use borrow.Author.Rules.{rules}
use Rattle.dots.proofs.insert_dot.Goals as goal

pub overflow_sub-n : goal.overflow_sub-n
overflow_sub-n c = let b = c.args.b.now in let small = bytes_of c.args.b.now c.slice_known-1.given in let p = c.requires in omega (arith, c.entry_count-n.ensures, count_is b small p.0 p.1, few_dots b small p.0 p.1)

pub move_up-requires : goal.move_up-requires
move_up-requires c = let b = c.args.b.now in let small = bytes_of c.args.b.now c.slice_known-1.given in let p = c.requires in (omega (arith, c.entry_count-n.ensures, count_is b small p.0 p.1, few_dots b small p.0 p.1), omega (arith, c.entry_count-n.ensures, count_is b small p.0 p.1, few_dots b small p.0 p.1))

pub overflow_cast-n-2 : goal.overflow_cast-n-2
overflow_cast-n-2 c = let b = c.args.b.now in let small = bytes_of c.args.b.now c.slice_known-1.given in let p = c.requires in omega (arith, c.entry_count-n.ensures, count_is b small p.0 p.1, few_dots b small p.0 p.1)

pub returns : goal.returns
returns c = let b = c.args.b.now in let small = bytes_of c.args.b.now c.slice_known-1.given in let p = c.requires in dot_inserted b small p.0 p.1 c.args.i c.entry_count-n.result c.entry_count-n.ensures c.args.d c.args.k _ _ _ p.2 p.3 (record { who = search rules; count = search rules; job = search rules; point = search rules }) c.move_up.ensures c.write_entry.ensures c.put_u16.ensures
