-- `row::Row::add` meets its contract. Assumes nothing.
use mathlib.Core.Path.{sym, ap, ◌∙◌}
use native.Mathlib.Omega.{arith}
use Rattle.row.proofs.Computing.{add_up_old, add_up_far, add_up_new, raw_base}
use Rattle.row.proofs.Row.add.Goals as goal
use Rattle.std.specs.Prelude.{Some}

pub returns-then-n-base : goal.returns-then-n-base
returns-then-n-base c = sym (add_up_old _ _ c.if-n-base.true (omega arith))

pub returns-then-j-ge64 : goal.returns-then-j-ge64
returns-then-j-ge64 c = sym (add_up_far _ _ c.requires c.if-n-base.false c.if-j-ge64.true)

pub advanced_row-requires : goal.advanced_row-requires
advanced_row-requires c = raw_base _ _ c.if-n-base.false c.if-j-ge64.false c.requires (omega arith)

pub returns : goal.returns
returns c = ap Some c.advanced_row.ensures
    ∙ sym (add_up_new _ _ c.if-n-base.false c.if-j-ge64.false (omega arith))
