-- `block::put_u8` meets its contract. A byte is a field of one. Assumes nothing.
use native.Mathlib.Omega.{arith}
use Rattle.block.proofs.Halves.{put_byte}
use Rattle.block.proofs.put_u8.Goals as goal

pub returns : goal.returns
returns c = put_byte c.args.b.now c.args.at c.args.v (omega arith) (omega arith)
