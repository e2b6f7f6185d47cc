use borrow.Author.Rules.{rules}
use mathlib.Core.Path.{sym}
use Rattle.meaning.specs.CrewTable.{holds}
use Rattle.row.specs.Row.{bit}
use Rattle.parts.proofs.Lookup.{no_job}
use Rattle.parts.proofs.holds.Goals as goal

pub returns-then-job-gt7 : goal.returns-then-job-gt7
returns-then-job-gt7 c = sym (no_job _ _ _ (search rules) (search rules))

pub returns : goal.returns
unfolding holds bit
returns c = search rules
