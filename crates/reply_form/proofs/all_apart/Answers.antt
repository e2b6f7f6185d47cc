-- `reply_form::all_apart` meets its contract: of points that ascend, no two share a dot just where all are apart (Loops). Assumes nothing.
use mathlib.Core.Path.{◌∙◌}
use Rattle.reply_form.proofs.Loops.{apart_tests}
use Rattle.reply_form.proofs.all_apart.Goals as goal

pub returns : goal.returns
returns c = c.points_apart.ensures ∙ apart_tests c.args.points.now c.requires.1
