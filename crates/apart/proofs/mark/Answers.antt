-- `apart::mark` meets its contract. Assumes nothing.
use mathlib.Core.Path.{refl}
use Rattle.row.specs.Row.{bit}
use Rattle.apart.specs.Marks.{marked, with_mark}
use Rattle.apart.proofs.Marking.{with_mark_is}
use Rattle.apart.proofs.mark.Goals as goal

pub returns : goal.returns
unfolding marked with_mark bit
returns c = (refl, with_mark_is c.args.marks.now c.args.k)
