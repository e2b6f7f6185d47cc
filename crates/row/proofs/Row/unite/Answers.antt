-- `row::Row::unite` meets its contract. Assumes nothing.
use mathlib.Core.Path.{sym, ◌∙◌}
use native.Mathlib.Nat.{le_of_lt}
use Rattle.row.proofs.Uniting.{unite_swap}
use Rattle.row.proofs.Computing.{unite_up, unite_up_base}
use Rattle.row.proofs.Row.unite.Goals as goal

pub advanced_row-requires : goal.advanced_row-requires
advanced_row-requires c = unite_up_base _ _ _ c.if-base-other_base.true c.shifted.ensures c.requires.0 c.requires.1

pub returns-then-base-other_base : goal.returns-then-base-other_base
returns-then-base-other_base c = c.advanced_row.ensures ∙ sym (unite_up _ _ _ c.if-base-other_base.true c.shifted.ensures)

pub advanced_row-requires-2 : goal.advanced_row-requires-2
advanced_row-requires-2 c = unite_up_base _ _ _ (le_of_lt c.if-base-other_base.false) c.shifted-2.ensures c.requires.1 c.requires.0

pub returns : goal.returns
returns c = c.advanced_row-2.ensures ∙ sym (unite_up _ _ _ (le_of_lt c.if-base-other_base.false) c.shifted-2.ensures) ∙ unite_swap _ _
