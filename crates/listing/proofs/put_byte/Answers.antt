-- `listing::put_byte` meets its contract. Assumes nothing.
use native.Mathlib.Omega.{arith}
use Rattle.listing.proofs.Putting.{byte_put}
use Rattle.listing.proofs.put_byte.Goals as goal

pub bounds-out-at : goal.bounds-out-at
bounds-out-at c = omega arith

pub overflow_add-result : goal.overflow_add-result
overflow_add-result c = omega arith

pub returns : goal.returns
returns c = byte_put c.args.out.now c.args.at c.args.x (omega arith)
