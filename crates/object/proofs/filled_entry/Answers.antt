-- `object::filled_entry` meets its contract. Each answer is the higher one, or the entry of no holder (Entries). Assumes nothing.
use Rattle.object.proofs.Entries.{filled_up, filled_already}
use Rattle.object.proofs.filled_entry.Goals as goal

pub returns-then-e-base : goal.returns-then-e-base
returns-then-e-base c = rw c.if-holder.true (filled_up c.args.e c.args.base c.if-e-base.true)

pub returns-else-e-base : goal.returns-else-e-base
returns-else-e-base c = rw c.if-holder.true (filled_already c.args.e c.args.base c.if-e-base.false)
