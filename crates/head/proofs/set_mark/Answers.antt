-- `head::set_mark` meets its contract. The bytes of a mark put anew are the head with that mark (Edits). Assumes nothing.
use native.Mathlib.Omega.{arith}
use Rattle.block.proofs.Numbers.{bytes_of}
use Rattle.head.proofs.Edits.{mark_is_put}
use Rattle.head.proofs.set_mark.Goals as goal

pub returns : goal.returns
returns c = let a = c.args in let p = c.requires in mark_is_put a.b.now _ (bytes_of a.b.now c.slice_known-1.given) p.0 p.3 a.n p.2 a.m a.base p.1 (omega arith) c.put_u32.ensures
