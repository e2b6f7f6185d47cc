-- `message_calls::reply_lengths` meets its contract. Assumes nothing.
use mathlib.Core.Path.{sym}
use lib.ListN.{length}
use borrow.Author.Tests.{eq-eqb, ne_eqb}
use Rattle.message_calls.proofs.reply_lengths.Goals as goal

pub returns-then-message-eq512 : goal.returns-then-message-eq512
returns-then-message-eq512 c = sym (rw (eq-eqb (length c.args.message.now) 512 c.if-message-eq512.true))

pub returns-else-message-eq512 : goal.returns-else-message-eq512
returns-else-message-eq512 c = sym (rw (ne_eqb (length c.args.message.now) 512 c.if-message-eq512.false))
