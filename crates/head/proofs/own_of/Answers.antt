-- `head::own_of` meets its contract. The byte at 4. Assumes nothing.
use mathlib.Core.Path.{ap}
use Rattle.numbers.specs.Numbers.{controller}
use Rattle.layout.specs.Image.{decode_head}
use Rattle.head.proofs.own_of.Goals as goal

pub returns : goal.returns
unfolding decode_head
returns c = ap controller c.u8_at.ensures
