-- `block::seal_block` meets its contract. Two writes, one behind the other, that end the block. Assumes nothing.
use native.Mathlib.Omega.{arith}
use Rattle.block.proofs.Summing.{sums_small, seal_put}
use Rattle.block.proofs.seal_block.Goals as goal

pub overflow_cast-s : goal.overflow_cast-s
overflow_cast-s c = omega (arith, sums_small c.args.b.now c.sums_of-s.ensures)

pub overflow_cast-s-2 : goal.overflow_cast-s-2
overflow_cast-s-2 c = omega (arith, sums_small c.args.b.now c.sums_of-s.ensures)

pub returns : goal.returns
returns c = seal_put c.args.b.now (omega arith) c.sums_of-s.ensures c.put_u16.ensures c.put_u16-2.ensures
