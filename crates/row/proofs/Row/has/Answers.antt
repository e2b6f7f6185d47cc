-- `row::Row::has` meets its contract. Assumes nothing.
use mathlib.Core.Path.{sym}
use Rattle.row.proofs.Computing.{has_bit, has_low}
use Rattle.row.proofs.Row.has.Goals as goal

pub returns-then-base-n : goal.returns-then-base-n
returns-then-base-n c = rw c.shifted.ensures (sym (has_bit _ _ c.if-base-n.true))

pub returns : goal.returns
returns c = sym (has_low _ _ c.if-base-n.false)
