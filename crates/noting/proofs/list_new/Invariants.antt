-- `noting::list_new` meets its contract. The invariant: so many of the new dots are listed, and the rest lie behind the last one (Rounds). Assumes nothing.
use Prim.Native.Nat.{◌-◌}
use Rattle.layout.specs.Image.{decode}
use Rattle.arriving.specs.Sent.{points_in}
use Rattle.noting.proofs.Rounds.{Listing}
use Rattle.noting.proofs.list_new.Given as goal

abbrev pub invariant-loop-listed : goal.invariant-loop-listed
invariant-loop-listed l = Listing (decode l.initial.image) (points_in l.points) l.last l.listed l.image
