-- `listing::put_listing` meets its contract. Assumes nothing.
use Rattle.layout.specs.Listing.{listing}
use Rattle.listing.proofs.Putting.{◌then◌}
use native.Mathlib.Omega.{arith}
use Rattle.listing.proofs.put_listing.Goals as goal

pub put_first_line-end-requires : goal.put_first_line-end-requires
put_first_line-end-requires c = omega arith

pub put_points-requires : goal.put_points-requires
put_points-requires c = omega arith

pub shape_of-out : goal.shape_of-out
shape_of-out c = omega arith

pub returns : goal.returns
unfolding listing
returns c = c.put_first_line-end.ensures then c.put_points.ensures
