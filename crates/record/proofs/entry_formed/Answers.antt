-- `record::entry_formed` meets its contract. An entry of 0, or one of a holder. Assumes nothing.
use mathlib.Core.Path.{◌∙◌}
use Rattle.meaning.specs.CrewTable.{holds}
use Rattle.record.proofs.Formed.{entry_none, entry_some}
use Rattle.record.proofs.entry_formed.Goals as goal

pub returns-then-count-eq0 : goal.returns-then-count-eq0
returns-then-count-eq0 c = entry_none (holds c.args.table.now c.args.n c.args.job) c.context_entry-e.ensures c.if-count-eq0.true

pub returns : goal.returns
returns c = c.holds.ensures ∙ entry_some (holds c.args.table.now c.args.n c.args.job) c.context_entry-e.ensures c.if-count-eq0.false
