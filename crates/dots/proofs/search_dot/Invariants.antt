-- `dots::search_dot` meets its contract. The invariant: those before low come before the dot, those from high on after it (Search). Assumes nothing.
use Prim.Native.Nat.{◌-◌}
use Rattle.numbers.specs.Dot.{dot_before}
use Rattle.block.specs.Fields.{field}
use Rattle.block.proofs.Search.{Between}
use Rattle.dots.specs.Entries.{entry}
use Rattle.dots.proofs.search_dot.Given as goal

abbrev pub invariant-loop-low : goal.invariant-loop-low
invariant-loop-low l = Between dot_before (field l.b 4 2) (λ j. (entry l.b j).dot) l.d l.low l.high

abbrev pub decreases-loop-low : goal.decreases-loop-low
decreases-loop-low l = l.high - l.low
