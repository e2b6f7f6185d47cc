-- `object::slot_dot` meets its contract: two fields of the slot. Assumes nothing.
use Rattle.numbers.specs.Dot.{dot}
use Rattle.layout.specs.PointBlock.{decode_slot}
use Rattle.object.proofs.slot_dot.Goals as goal

pub returns : goal.returns
returns c = unfold decode_slot in (λ i. dot (c.u8_at.ensures i) (c.u32_at.ensures i))
