-- `listing::put_decimal` meets its contract. Assumes nothing.
use native.Mathlib.Omega.{arith}
use Rattle.layout.specs.Listing.{decimal}
use Rattle.listing.proofs.put_decimal.Goals as goal

pub put_digits-requires : goal.put_digits-requires
put_digits-requires c = omega arith

pub shape_of-out : goal.shape_of-out
shape_of-out c = omega arith

pub returns : goal.returns
unfolding decimal
returns c = c.put_digits.ensures
