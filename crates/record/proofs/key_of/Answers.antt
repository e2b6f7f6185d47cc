-- `record::key_of` meets its contract. Two fields of the block. Assumes nothing.
use Rattle.numbers.specs.Numbers.{point}
use Rattle.layout.specs.PointBlock.{decode_point}
use Rattle.record.proofs.key_of.Goals as goal

pub returns : goal.returns
unfolding decode_point
returns c = λ i. record { job = c.u8_at.ensures i; point = point (c.u16_at.ensures i) }
