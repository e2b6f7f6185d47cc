-- `block::copy_in` meets its contract. The invariant is `Copied` (Copies). Assumes nothing.
use lib.ListN.{length}
use Rattle.block.proofs.Copies.{Copied}
use Rattle.block.proofs.copy_in.Given as goal

abbrev pub invariant-loop-i : goal.invariant-loop-i
invariant-loop-i l = Copied l.initial.out l.at l.src (length l.src) l.i l.out
