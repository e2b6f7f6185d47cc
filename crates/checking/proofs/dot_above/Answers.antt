-- `checking::dot_above` meets its contract. By the two tests of it (Ahead). Assumes nothing.
use Rattle.std.proofs.Common.{rules}
use Rattle.checking.proofs.Ahead.{of_another, of_ours}
use Rattle.checking.proofs.dot_above.Goals as goal

pub returns-then-ne : goal.returns-then-ne
returns-then-ne c = let a = c.args in of_another a.d a.own a.base (search rules)

pub returns : goal.returns
returns c = let a = c.args in of_ours a.d a.own a.base (search rules)
