-- `sqimrutta::sqimrutta_take_in` meets its contract. The same as a number. Assumes nothing.
use mathlib.Core.Path.{ap, ◌∙◌}
use Rattle.refusal.specs.Refusal.{answer_number}
use Rattle.sqimrutta.proofs.sqimrutta_take_in.Goals as goal

pub returns : goal.returns
returns c = (c.answer_number.ensures ∙ ap answer_number c.take_in.ensures.0, c.take_in.ensures.1)
