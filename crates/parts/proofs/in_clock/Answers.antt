use mathlib.Core.Path.{ap, ◌∙◌}
use Rattle.row.specs.declared.Row.{Row}
use Rattle.row.specs.Row.{has}
use Rattle.meaning.specs.Clock.{in_clock}
use Rattle.parts.proofs.in_clock.Goals as goal

pub returns : goal.returns
unfolding in_clock
returns c = c.has.ensures ∙ ap (λ (r : Row). has r c.args.d.count) c.row_at.ensures
