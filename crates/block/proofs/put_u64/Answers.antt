-- `block::put_u64` meets its contract. Two writes of half the width (Halves). Assumes nothing.
use native.Mathlib.Omega.{arith}
use Rattle.block.proofs.Halves.{put_halves}
use Rattle.block.proofs.put_u64.Goals as goal

pub returns : goal.returns
returns c = let a = c.args in put_halves 4 4 a.b.now a.at a.v (omega arith) c.put_u32.ensures c.put_u32-2.ensures
