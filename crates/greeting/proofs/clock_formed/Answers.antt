-- `greeting::clock_formed` meets its contract. Test by test (Formed). Assumes nothing.
use mathlib.Core.Path.{ap, sym, ◌∙◌}
use lib.Dec.{eqb}
use borrow.Author.Tests.{not-true, not-false}
use Rattle.numbers.proofs.Lists.{passed, ◌and_also◌}
use Rattle.row.specs.declared.Row.{Row}
use Rattle.greeting.proofs.Formed.{ill_clock, by_bits}
use Rattle.greeting.proofs.clock_formed.Goals as goal

pub returns-then-not-rows_sound : goal.returns-then-not-rows_sound
returns-then-not-rows_sound c = ill_clock c.args.table.now c.args.sender c.args.rows.now 0 (sym c.rows_sound.ensures ∙ not-true _ c.if-not-rows_sound.true-raw)

pub returns-then-not-rows_named : goal.returns-then-not-rows_named
returns-then-not-rows_named c = ill_clock c.args.table.now c.args.sender c.args.rows.now 1 (sym c.rows_named.ensures ∙ not-true _ c.if-not-rows_named.true-raw)

pub returns : goal.returns
returns c = ap (λ (r : Row). eqb r.bits 0) c.row_at-own.ensures ∙ by_bits c.args.table.now c.args.sender c.args.rows.now ((sym c.rows_sound.ensures ∙ not-false _ c.if-not-rows_sound.false-raw) and_also (sym c.rows_named.ensures ∙ not-false _ c.if-not-rows_named.false-raw) and_also passed)
