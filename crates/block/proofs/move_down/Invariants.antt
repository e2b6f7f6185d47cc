-- `block::move_down` meets its contract. The invariant: the run held bytes, and what is moved so far (Moves). Assumes nothing.
use Rattle.block.proofs.Numbers.{Bytes}
use Rattle.block.proofs.Moves.{MovedTo}
use Rattle.block.proofs.move_down.Given as goal

abbrev pub invariant-loop-k : goal.invariant-loop-k
invariant-loop-k l = Bytes l.initial.run × MovedTo l.initial.run l.from l.to l.words l.k l.run
