-- `dots::write_entry` meets its contract. Four stores side by side are one part (Edits). Assumes nothing.
use Prim.Native.Nat.{◌+◌, ◌*◌}
use native.Mathlib.Omega.{arith}
use Rattle.dots.proofs.Edits.{entry_put}
use Rattle.dots.proofs.write_entry.Goals as goal

pub returns : goal.returns
returns c = let a = c.args in entry_put a.b.now _ _ _ _ (8 + 8 * a.i) a.d a.k (omega arith) c.put_u8.ensures c.put_u8-2.ensures c.put_u16.ensures c.put_u32.ensures
