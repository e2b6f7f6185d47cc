-- `sqimrutta::sqimrutta_reply` meets its contract: the number of the answer of `reply`, and its count. Assumes nothing.
use mathlib.Core.Path.{ap, ◌∙◌}
use Rattle.refusal.specs.Refusal.{answer_number}
use Rattle.sqimrutta.proofs.sqimrutta_reply.Goals as goal

pub returns : goal.returns
returns c = let e = c.reply.ensures in (c.told.ensures.number ∙ ap answer_number e.0, e.1, c.told.ensures.count ∙ e.2)
