-- `block::u32_at` meets its contract. Two reads of half the width (Halves). Assumes nothing.
use native.Mathlib.Omega.{arith}
use Rattle.block.proofs.Halves.{read_halves}
use Rattle.block.proofs.u32_at.Goals as goal

pub returns : goal.returns
returns c = let a = c.args in read_halves 2 2 a.b.now a.at (omega arith) c.u16_at.ensures c.u16_at-2.ensures
