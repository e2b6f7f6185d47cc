use Rattle.std.specs.Prelude.{if◌then◌else◌}
use mathlib.Core.Path.{ap, sym, ◌∙◌}
use mathlib.Core.Bool.{Bool}
use Rattle.sqimrutta.proofs.sqimrutta_good.Goals as goal

pub returns-then-good : goal.returns-then-good
returns-then-good c = ap (λ (b : Bool). if b then 1 else 0) (sym c.if-good.true ∙ c.good.ensures)

pub returns : goal.returns
returns c = ap (λ (b : Bool). if b then 1 else 0) (sym c.if-good.false ∙ c.good.ensures)
