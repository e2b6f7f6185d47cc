-- `merging::filled_context` meets its contract. The invariant: the counters of the first controllers are filled (Eight). Assumes nothing.
use Rattle.layout.specs.PointBlock.{decode_context}
use Rattle.layout.specs.Clocks.{decode_clock}
use Rattle.merging.proofs.Eight.{Made, filled_at}
use Rattle.merging.proofs.filled_context.Given as goal

abbrev pub invariant-loop-i : goal.invariant-loop-i
invariant-loop-i l = Made (filled_at l.table l.job (decode_clock l.rows) (decode_context l.stored)) l.i l.out
