-- `apart::points_apart` meets its contract. The invariant: each point before j is apart from those before it, and their marks stand. Assumes nothing.
use Rattle.block.proofs.Passing.{Passing}
use Rattle.apart.specs.Apart.{apart_from_earlier}
use Rattle.apart.specs.Marks.{Noted}
use Rattle.apart.proofs.points_apart.Given as goal

abbrev pub invariant-loop-j : goal.invariant-loop-j
invariant-loop-j l = Passing l.n (apart_from_earlier l.points) l.j × Noted l.marks l.points l.j
