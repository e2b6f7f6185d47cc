-- `replying::row_ahead` meets its contract. The three answers are those of RowAhead. Assumes nothing.
use borrow.Author.Rules.{rules}
use Rattle.replying.proofs.RowAhead.{base_above, past_all, by_shift}
use native.Mathlib.Omega.{arith}
use Rattle.replying.proofs.row_ahead.Goals as goal

pub returns-then-base-named : goal.returns-then-base-named
returns-then-base-named c = base_above c.args.r c.args.base c.if-base-named.true

pub returns-then-by-ge64 : goal.returns-then-by-ge64
returns-then-by-ge64 c = past_all c.args.r c.args.base (omega arith) (search rules) c.if-by-ge64.true

pub returns : goal.returns
returns c = by_shift c.args.r c.args.base (omega arith)
