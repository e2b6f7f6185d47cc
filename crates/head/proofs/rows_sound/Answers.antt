-- `head::rows_sound` meets its contract: a chain over the controllers. Assumes nothing.
use Rattle.std.proofs.Common.{rules, tests}
use Rattle.std.proofs.lemmas.Iterator.{YieldsList-from_range}
use Rattle.std.proofs.lemmas.Iterator.Search.{all_from_yields_List}
use Prim.Native.Nat.{ℕ}
use mathlib.Core.Path.{refl}
use Rattle.numbers.specs.Numbers.{controller}
use Rattle.meaning.specs.Clock.{row, every_row}
use Rattle.layout.specs.Clocks.{decode_clock}
use Rattle.head.specs.HeadParts.{row_good}
use Rattle.head.proofs.rows_sound.Goals as goal

pub returns : goal.returns
unfolding every_row
returns c = let a = c.args in all_from_yields_List (λ (n : ℕ). row_good (row (decode_clock a.rows.now) (controller n))) _ _ _ c.all.ensures.ran (YieldsList-from_range 1 9 8 (cc) refl) (λ x b q k. search (rules, tests))
