-- `listing::put_points` meets its contract. The invariant: the lines of the points before the one that comes stand. Assumes nothing.
use Prim.Native.Nat.{◌*◌}
use lib.ListN.{length}
use Rattle.numbers.specs.Words.{concat_map}
use Rattle.block.specs.Fields.{upto}
use Rattle.image.specs.Apart.{point_at}
use Rattle.listing.specs.Put.{Put, record_lines, most_line}
use Rattle.listing.proofs.put_points.Given as goal

abbrev pub invariant-loop-b : goal.invariant-loop-b
invariant-loop-b l = Put l.initial.out l.at (concat_map record_lines (upto (length l.yielded) (point_at l.image))) (most_line * 8 * length l.yielded) l.out l.end
