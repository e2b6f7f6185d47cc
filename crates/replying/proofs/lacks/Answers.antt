-- `replying::lacks` meets its contract (Lacking). Assumes nothing.
use mathlib.Core.Path.{sym, ◌∙◌}
use Rattle.layout.specs.Clocks.{decode_clock}
use Rattle.replying.proofs.Lacking.{has_it, has_it_not}
use Rattle.replying.proofs.lacks.Goals as goal

pub returns-then-in_clock : goal.returns-then-in_clock
returns-then-in_clock c = has_it c.args.table.now c.args.asker (decode_clock c.args.rows.now) (record { dot = c.args.d; key = c.args.k }) (sym c.in_clock.ensures ∙ c.if-in_clock.true)

pub returns : goal.returns
returns c = has_it_not c.args.table.now c.args.asker (decode_clock c.args.rows.now) (record { dot = c.args.d; key = c.args.k }) (sym c.in_clock.ensures ∙ c.if-in_clock.false) c.holds.result c.holds.ensures
