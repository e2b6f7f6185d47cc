-- `sqimrutta::sqimrutta_write` meets its contract. The same as a number. Assumes nothing.
use mathlib.Core.Path.{ap, ◌∙◌}
use Rattle.refusal.specs.Refusal.{answer_number}
use Rattle.sqimrutta.proofs.sqimrutta_write.Goals as goal

pub returns : goal.returns
returns c = (c.answer_number.ensures ∙ ap answer_number c.write.ensures.0, c.write.ensures.1, c.write.ensures.2)
