-- `image::find_point` meets its contract. The invariant: the points before low come before the key, those from high on after it. Assumes nothing.
use Prim.Native.Nat.{◌-◌}
use Rattle.image.proofs.Finding.{Halves}
use Rattle.image.proofs.find_point.Given as goal

abbrev pub invariant-loop-low : goal.invariant-loop-low
invariant-loop-low l = Halves l.image l.count l.k l.low l.high

abbrev pub decreases-loop-low : goal.decreases-loop-low
decreases-loop-low l = l.high - l.low
