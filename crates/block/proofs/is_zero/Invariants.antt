-- `block::is_zero` meets its contract. The invariant: the run is zero where the parts that are left are (Scans). Assumes nothing.
use Prim.Native.Nat.{◌-◌}
use mathlib.Core.Path.{◌≡◌}
use lib.Dec.{eqb}
use Rattle.std.specs.Slice.Iter.{chunks_rest}
use Rattle.numbers.specs.Words.{all?}
use Rattle.block.specs.Fields.{cut}
use Rattle.block.proofs.is_zero.Given as goal

abbrev pub invariant-loop-part : goal.invariant-loop-part
invariant-loop-part l = all? (λ x. eqb x 0) (cut l.b l.from (l.to - l.from)) ≡ all? (λ x. eqb x 0) (chunks_rest l.part-iterator)
