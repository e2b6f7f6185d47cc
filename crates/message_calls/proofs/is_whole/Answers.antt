-- `message_calls::is_whole` meets its contract (Repairing). Assumes nothing.
use Rattle.message_calls.proofs.Repairing.{cut_short, empty, by_length}
use mathlib.Core.Path.{refl}
use Rattle.message_calls.proofs.is_whole.Goals as goal

pub returns-then-length-ne0 : goal.returns-then-length-ne0
returns-then-length-ne0 c = cut_short c.args.message.now c.if-length-ne0.true

pub returns-then-length-lt512 : goal.returns-then-length-lt512
returns-then-length-lt512 c = empty c.args.message.now c.if-length-ne0.false c.if-length-lt512.true

pub returns : goal.returns
returns c = by_length c.args.message.now c.if-length-ne0.false c.if-length-lt512.false _ refl
