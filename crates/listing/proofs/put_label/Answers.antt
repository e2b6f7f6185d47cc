-- `listing::put_label` meets its contract. Assumes nothing.
use Rattle.listing.proofs.Putting.{◌then◌}
use native.Mathlib.Omega.{arith}
use Rattle.listing.proofs.put_label.Goals as goal

pub overflow_cast-k : goal.overflow_cast-k
overflow_cast-k c = omega arith

pub put_decimal-job-requires : goal.put_decimal-job-requires
put_decimal-job-requires c = omega arith

pub overflow_cast-k-2 : goal.overflow_cast-k-2
overflow_cast-k-2 c = omega arith

pub put_after-point-requires : goal.put_after-point-requires
put_after-point-requires c = omega arith

pub overflow_cast-d : goal.overflow_cast-d
overflow_cast-d c = omega arith

pub put_after-who-requires : goal.put_after-who-requires
put_after-who-requires c = omega arith

pub put_after-requires : goal.put_after-requires
put_after-requires c = omega arith

pub shape_of-out : goal.shape_of-out
shape_of-out c = omega arith

pub returns : goal.returns
returns c = c.put_decimal-job.ensures then c.put_after-point.ensures then c.put_after-who.ensures then c.put_after.ensures
