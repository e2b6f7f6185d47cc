-- `checking::sender_of` meets its contract. By the byte at its place (Judging). Assumes nothing.
use Rattle.checking.proofs.Judging.{sender_is}
use Rattle.checking.proofs.sender_of.Goals as goal

pub returns : goal.returns
returns c = sender_is c.args.message.now c.u8_at.result c.u8_at.ensures
