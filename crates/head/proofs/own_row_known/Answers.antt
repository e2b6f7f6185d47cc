-- `head::own_row_known` meets its contract: a chain over the controllers. Assumes nothing.
use Rattle.std.proofs.Common.{rules, tests}
use Rattle.std.proofs.lemmas.Iterator.{YieldsList-from_range}
use Rattle.std.proofs.lemmas.Iterator.Search.{all_from_yields_List}
use Prim.Native.Nat.{ℕ}
use mathlib.Core.Path.{refl}
use lib.Dec.{leb}
use Rattle.numbers.specs.Numbers.{controller}
use Rattle.meaning.specs.Clock.{row}
use Rattle.meaning.specs.State.{mark}
use Rattle.layout.specs.Clocks.{decode_clock}
use Rattle.layout.specs.Image.{decode_marks}
use Rattle.head.specs.HeadParts.{own_row_known}
use Rattle.head.proofs.own_row_known.Goals as goal

pub returns : goal.returns
unfolding own_row_known
returns c = let a = c.args in all_from_yields_List (λ (n : ℕ). leb (mark (decode_marks a.marks.now) a.own (controller n)) (row (decode_clock a.rows.now) (controller n)).base) _ _ _ c.all.ensures.ran (YieldsList-from_range 1 9 8 (cc) refl) (λ x b q k. search (rules, tests))
