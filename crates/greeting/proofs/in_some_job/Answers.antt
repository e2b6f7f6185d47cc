-- `greeting::in_some_job` meets its contract. A job that it shares with itself (Formed). Assumes nothing.
use mathlib.Core.Path.{◌∙◌}
use Rattle.greeting.proofs.Formed.{one_job}
use Rattle.greeting.proofs.in_some_job.Goals as goal

pub returns : goal.returns
returns c = c.shares_job.ensures ∙ one_job c.args.table.now c.args.n
