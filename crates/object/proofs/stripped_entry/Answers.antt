-- `object::stripped_entry` meets its contract (Entries). Assumes nothing.
use Rattle.object.proofs.Entries.{stripped_now, stripped_not}
use Rattle.object.proofs.stripped_entry.Goals as goal

pub returns-then-e-base : goal.returns-then-e-base
returns-then-e-base c = stripped_now c.args.e c.args.base c.if-e-base.true

pub returns : goal.returns
returns c = stripped_not c.args.e c.args.base c.if-e-base.false
