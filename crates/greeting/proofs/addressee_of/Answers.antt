-- `greeting::addressee_of` meets its contract. Assumes nothing.
use mathlib.Core.Path.{ap}
use Rattle.numbers.specs.Numbers.{controller}
use Rattle.layout.specs.Messages.{decode_ask}
use Rattle.greeting.proofs.addressee_of.Goals as goal

pub returns : goal.returns
returns c = unfold decode_ask in ap controller c.u8_at.ensures
