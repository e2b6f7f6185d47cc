-- `opening::is_ours` meets its contract. The tests of row 5, one by one (Reading). Assumes nothing.
use Prim.Native.Nat.{◌-◌}
use mathlib.Core.Path.{sym, ◌∙◌}
use native.Mathlib.Omega.{arith}
use mathlib.Core.Path.{ap₂, subst}
use Rattle.numbers.specs.declared.Controller.{Controller}
use Rattle.numbers.specs.Numbers.{Crew}
use Rattle.meaning.specs.CrewTable.{CrewTable, holds}
use Rattle.layout.specs.Image.{decode}
use Rattle.store.proofs.Lent.{own_part, table_part}
use Rattle.opening.proofs.Ours.{not_a_job, not_a_point, by_table}
use borrow.Author.Rules.{rules}
use Rattle.opening.proofs.is_ours.Goals as goal

pub returns-then-job-gt7 : goal.returns-then-job-gt7
returns-then-job-gt7 c = not_a_job (decode c.args.image.now) c.args.k c.if-job-gt7.true

pub returns-then-k-lt1 : goal.returns-then-k-lt1
returns-then-k-lt1 c = not_a_point (decode c.args.image.now) c.args.k c.if-job-gt7.false c.if-k-lt1.true

pub holds-requires : goal.holds-requires
holds-requires c = (omega arith, subst Crew (sym (c.own_of.ensures ∙ own_part c.args.image.now c.requires.0)) c.requires.1)

pub returns : goal.returns
returns c = by_table (decode c.args.image.now) c.args.k c.if-job-gt7.false c.if-k-lt1.false (search rules) (c.holds.ensures ∙ ap₂ (λ (t : CrewTable) (n : Controller). holds t n c.args.k.job) (table_part c.args.image.now c.requires.0) (c.own_of.ensures ∙ own_part c.args.image.now c.requires.0))
