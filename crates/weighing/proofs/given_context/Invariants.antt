-- `weighing::given_context` meets its contract. Assumes nothing.
use Rattle.merging.proofs.Eight.{Made}
use Rattle.weighing.proofs.Contexts.{given}
use Rattle.weighing.proofs.given_context.Given as goal

abbrev pub invariant-loop-i : goal.invariant-loop-i
invariant-loop-i l = Made (given l.stored) l.i l.out
