-- `sqimrutta::sqimrutta_read` meets its contract: the number of the answer of `read`. Assumes nothing.
use mathlib.Core.Path.{ap, ◌∙◌}
use Rattle.refusal.specs.Refusal.{answer_number}
use Rattle.sqimrutta.proofs.sqimrutta_read.Goals as goal

pub returns : goal.returns
returns c = (c.answer_number.ensures ∙ ap answer_number c.read.ensures.0, c.read.ensures.1)
