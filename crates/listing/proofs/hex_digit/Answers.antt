-- `listing::hex_digit` meets its contract. Assumes nothing.
use borrow.Author.Tests.{lt-ltb, le-ltb}
use native.Mathlib.Omega.{arith}
use Rattle.listing.proofs.hex_digit.Goals as goal

pub overflow_add-result : goal.overflow_add-result
overflow_add-result c = omega arith

pub returns-then-n-lt10 : goal.returns-then-n-lt10
returns-then-n-lt10 c = simp (lt-ltb _ _ c.if-n-lt10.true)

pub overflow_add-result-2 : goal.overflow_add-result-2
overflow_add-result-2 c = omega arith

pub returns : goal.returns
returns c = simp (le-ltb _ _ c.if-n-lt10.false)
