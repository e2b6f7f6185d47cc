-- `sqimrutta::sqimrutta_ask` meets its contract. The same as a number. Assumes nothing.
use mathlib.Core.Path.{ap, ◌∙◌}
use Rattle.refusal.specs.Refusal.{answer_number}
use Rattle.sqimrutta.proofs.sqimrutta_ask.Goals as goal

pub returns : goal.returns
returns c = (c.answer_number.ensures ∙ ap answer_number c.ask.ensures.0, c.ask.ensures.1)
