-- `tidying::raise_marks` meets its contract. The invariant: the marks for those below n are raised (Raising). Assumes nothing.
use Rattle.layout.specs.Clocks.{decode_clock}
use Rattle.layout.specs.Image.{decode}
use Rattle.tidying.specs.Tidied.{said_by}
use Rattle.tidying.proofs.Raising.{Raised}
use Rattle.tidying.proofs.raise_marks.Given as goal

abbrev pub invariant-loop-n : goal.invariant-loop-n
invariant-loop-n l = Raised (decode l.initial.image) (said_by l.sender (decode_clock l.rows)) l.n l.image
