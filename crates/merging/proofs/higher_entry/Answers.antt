-- `merging::higher_entry` meets its contract, as object's `filled_entry` does for a holder (object's Entries). Assumes nothing.
use Rattle.object.proofs.Entries.{filled_up, filled_already}
use Rattle.merging.proofs.higher_entry.Goals as goal

pub returns-then-e-other : goal.returns-then-e-other
returns-then-e-other c = filled_up c.args.e c.args.other c.if-e-other.true

pub returns : goal.returns
returns c = filled_already c.args.e c.args.other c.if-e-other.false
