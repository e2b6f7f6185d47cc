-- `listing::put_record_lines` meets its contract. The invariant: the lines of the versions before the i-th stand. Assumes nothing.
use Prim.Native.Nat.{◌*◌}
use Rattle.numbers.specs.Words.{concat_map}
use Rattle.block.specs.Fields.{upto}
use Rattle.layout.specs.PointBlock.{form_1, decode_stored}
use Rattle.layout.specs.Listing.{version_line}
use Rattle.listing.specs.Put.{Put, most_line}
use Rattle.listing.proofs.Texts.{slot}
use Rattle.listing.proofs.put_record_lines.Given as goal

abbrev pub invariant-loop-i : goal.invariant-loop-i
invariant-loop-i l = Put l.initial.out l.at (concat_map (version_line (decode_stored form_1 l.b).key) (upto l.i (slot l.b))) (most_line * l.i) l.out l.end
