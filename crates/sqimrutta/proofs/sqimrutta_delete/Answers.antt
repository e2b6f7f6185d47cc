-- `sqimrutta::sqimrutta_delete` meets its contract. The same as a number. Assumes nothing.
use mathlib.Core.Path.{ap, ◌∙◌}
use Rattle.refusal.specs.Refusal.{answer_number}
use Rattle.sqimrutta.proofs.sqimrutta_delete.Goals as goal

pub returns : goal.returns
returns c = (c.answer_number.ensures ∙ ap answer_number c.delete.ensures.0, c.delete.ensures.1, c.delete.ensures.2)
