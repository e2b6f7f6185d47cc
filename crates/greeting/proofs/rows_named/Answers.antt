-- `greeting::rows_named` meets its contract: a chain over the controllers. Assumes nothing.
use Rattle.std.proofs.Common.{rules, tests}
use Rattle.std.proofs.lemmas.Iterator.{YieldsList-from_range}
use Rattle.std.proofs.lemmas.Iterator.Search.{all_from_yields_List}
use Prim.Native.Nat.{ℕ}
use mathlib.Core.Path.{refl}
use mathlib.Core.Bool.{◌||◌}
use Rattle.numbers.specs.Numbers.{controller}
use Rattle.meaning.specs.CrewTable.{in_some_job}
use Rattle.meaning.specs.Clock.{row}
use Rattle.meaning.specs.Message.{is_none}
use Rattle.layout.specs.Clocks.{decode_clock}
use Rattle.greeting.proofs.rows_named.Goals as goal

pub returns : goal.returns
returns c = let a = c.args in all_from_yields_List (λ (n : ℕ). in_some_job a.table.now (controller n) || is_none (row (decode_clock a.rows.now) (controller n))) _ _ _ c.all.ensures.ran (YieldsList-from_range 1 9 8 (cc) refl) (λ x b q k. search (rules, tests))
