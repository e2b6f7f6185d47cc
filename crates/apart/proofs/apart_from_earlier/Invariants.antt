-- `apart::apart_from_earlier` meets its contract. The invariant is `Going`: the dots passed stand in no point before, and their marks are set (Earlier).
-- Assumes nothing.
use Rattle.apart.proofs.Earlier.{Going}
use Rattle.apart.proofs.apart_from_earlier.Given as goal

abbrev pub invariant-loop-i : goal.invariant-loop-i
invariant-loop-i l = Going l.points l.j l.marks l.i
