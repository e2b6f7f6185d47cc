-- `listing::put_after` meets its contract: a word, then a number. Assumes nothing.
use native.Mathlib.Omega.{arith}
use Rattle.listing.proofs.Putting.{◌then◌}
use Rattle.listing.proofs.put_after.Goals as goal

pub put_word-end-requires : goal.put_word-end-requires
put_word-end-requires c = omega arith

pub put_decimal-requires : goal.put_decimal-requires
put_decimal-requires c = omega arith

pub shape_of-out : goal.shape_of-out
shape_of-out c = omega arith

pub returns : goal.returns
returns c = c.put_word-end.ensures then c.put_decimal.ensures
