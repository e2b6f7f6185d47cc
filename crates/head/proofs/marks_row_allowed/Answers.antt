-- `head::marks_row_allowed` meets its contract: a chain over the controllers. Assumes nothing.
use Rattle.std.proofs.Common.{rules, tests}
use Rattle.std.proofs.lemmas.Iterator.{YieldsList-from_range}
use Rattle.std.proofs.lemmas.Iterator.Search.{all_from_yields_List}
use Prim.Native.Nat.{ℕ}
use mathlib.Core.Path.{refl}
use Rattle.numbers.specs.Numbers.{controller}
use Rattle.layout.specs.Image.{decode_marks}
use Rattle.head.specs.HeadParts.{mark_allowed, marks_row_allowed}
use Rattle.head.proofs.marks_row_allowed.Goals as goal

pub returns : goal.returns
unfolding marks_row_allowed
returns c = let a = c.args in all_from_yields_List (λ (n : ℕ). mark_allowed a.own a.table.now (decode_marks a.marks.now) a.m (controller n)) _ _ _ c.all.ensures.ran (YieldsList-from_range 1 9 8 (cc) refl) (λ x b q k. search (rules, tests))
