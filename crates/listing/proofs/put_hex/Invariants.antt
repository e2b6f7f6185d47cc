-- `listing::put_hex` meets its contract. The invariant: the bytes before the one that comes stand in hex. Assumes nothing.
use Prim.Native.Nat.{◌*◌}
use lib.ListN.{get_or}
use Rattle.numbers.specs.Words.{concat_map}
use Rattle.block.specs.Fields.{upto}
use Rattle.layout.specs.Listing.{hex}
use Rattle.listing.specs.Put.{Put}
use Rattle.listing.proofs.put_hex.Given as goal

abbrev pub invariant-loop-x : goal.invariant-loop-x
invariant-loop-x l = Put l.initial.out l.at (concat_map hex (upto l.x-index (λ k. get_or l.said k 0))) (2 * l.x-index) l.out l.end
