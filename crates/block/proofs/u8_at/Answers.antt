-- `block::u8_at` meets its contract. A byte is a field of one. Assumes nothing.
use Rattle.block.proofs.Halves.{field_byte}
use Rattle.block.proofs.u8_at.Goals as goal

pub returns : goal.returns
returns c = field_byte c.args.b.now c.args.at
