use mathlib.Core.Path.{ap, ◌∙◌}
use Rattle.refusal.specs.Refusal.{answer_number}
use Rattle.sqimrutta.proofs.sqimrutta_start.Goals as goal

pub returns : goal.returns
returns c = (c.answer_number.ensures ∙ ap answer_number c.start.ensures.0, c.start.ensures.1)
