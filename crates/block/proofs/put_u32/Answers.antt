-- `block::put_u32` meets its contract. Two writes of half the width (Halves). Assumes nothing.
use native.Mathlib.Omega.{arith}
use Rattle.block.proofs.Halves.{put_halves}
use Rattle.block.proofs.put_u32.Goals as goal

pub returns : goal.returns
returns c = let a = c.args in put_halves 2 2 a.b.now a.at a.v (omega arith) c.put_u16.ensures c.put_u16-2.ensures
