-- `arriving::enter_row` meets its contract. The invariant: what the first pass left over is tried again, and the whole stays the same (Trying). Assumes nothing.
use Prim.Native.Nat.{◌-◌}
use Rattle.numbers.specs.Numbers.{last_counter}
use Rattle.layout.specs.Image.{decode}
use Rattle.arriving.specs.Sent.{points_in, arriving_with}
use Rattle.arriving.proofs.Trying.{Passes}
use Rattle.arriving.proofs.enter_row.Given as goal

abbrev pub invariant-loop-t : goal.invariant-loop-t
invariant-loop-t l = Passes l.initial.t.row (arriving_with (decode l.image) l.n (points_in l.points)) l.base l.t

abbrev pub decreases-loop-t : goal.decreases-loop-t
decreases-loop-t l = last_counter - l.base
