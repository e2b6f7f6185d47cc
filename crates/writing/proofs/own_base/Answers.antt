-- `writing::own_base` meets its contract. The row of the own number (Lent). Assumes nothing.
use mathlib.Core.Path.{ap, ap₂, sym, ◌∙◌, subst}
use Rattle.numbers.specs.declared.Controller.{Controller}
use Rattle.numbers.specs.Numbers.{Crew}
use Rattle.row.specs.declared.Row.{Row}
use Rattle.meaning.specs.Clock.{Clock, row}
use Rattle.store.proofs.Lent.{own_part, clock_part, own_is_crew}
use borrow.Author.Rules.{rules}
use Rattle.writing.proofs.own_base.Goals as goal

pub row_at-r-requires : goal.row_at-r-requires
row_at-r-requires c = (search rules, subst Crew (sym (c.own_of-own.ensures ∙ own_part c.args.image.now c.requires.0)) (own_is_crew c.args.image.now c.requires.1))

pub returns : goal.returns
returns c = ap (λ (r : Row). r.base) (c.row_at-r.ensures ∙ ap₂ (λ (k : Clock) (n : Controller). row k n) (clock_part c.args.image.now c.requires.0) (c.own_of-own.ensures ∙ own_part c.args.image.now c.requires.0))
