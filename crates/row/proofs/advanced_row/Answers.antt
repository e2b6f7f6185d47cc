-- `row::advanced_row` meets its contract. Assumes nothing.
use mathlib.Core.Path.{sym, ap}
use native.Mathlib.Omega.{arith}
use Rattle.row.specs.declared.Row.{Row}
use Rattle.row.proofs.Computing.{advanced_run}
use Rattle.row.proofs.advanced_row.Goals as goal

pub overflow_add-result : goal.overflow_add-result
overflow_add-result c = record { fits = omega (arith, ap (λ (r : Row). r.base) (advanced_run c.args.base c.args.bits (omega arith))) }

pub returns : goal.returns
returns c = rw c.shifted.ensures (sym (advanced_run c.args.base c.args.bits (omega arith)))
