-- `head::shares_job` meets its contract: a chain over the jobs. Assumes nothing.
use Rattle.std.proofs.Common.{rules, tests}
use Rattle.std.proofs.lemmas.Iterator.{YieldsList-from_range}
use Rattle.std.proofs.lemmas.Iterator.Search.{any_from_yields_List}
use mathlib.Core.Path.{refl}
use mathlib.Core.Bool.{◌&&◌}
use Rattle.meaning.specs.CrewTable.{holds, share_job}
use Rattle.head.proofs.shares_job.Goals as goal

pub returns : goal.returns
unfolding share_job
returns c = let a = c.args in any_from_yields_List (λ j. holds a.table.now a.n j && holds a.table.now a.m j) _ _ _ c.any.ensures.ran (YieldsList-from_range 0 8 8 (cc) refl) (λ x b q k. search (rules, tests))
