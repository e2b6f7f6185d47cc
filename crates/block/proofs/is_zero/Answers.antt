-- `block::is_zero` meets its contract. What `|` makes of a part is 0 where each of its bytes is (Scans). Assumes nothing.
use Rattle.std.proofs.Common.{rules}
use mathlib.Core.Path.{◌∙◌, sym}
use Rattle.std.specs.Slice.Iter.{chunks_rest}
use Rattle.block.proofs.Scans.{zero_on, zero_not}
use Rattle.block.proofs.is_zero.Goals as goal

pub returns-then-fold-ne0 : goal.returns-then-fold-ne0
returns-then-fold-ne0 c =
    let l = c.loop-part in
    zero_not c.fold.result (chunks_rest l.part-iterator) c.in-Some.part.now (chunks_rest c.next.new.self) c.in-Some.ensures.steps.1.0 (search rules) c.if-fold-ne0.true ∙ sym l.invariant

pub loop-part-preserved : goal.loop-part-preserved
loop-part-preserved c =
    let l = c.loop-part in
    l.invariant ∙ zero_on c.fold.result (chunks_rest l.part-iterator) c.in-Some.part.now (chunks_rest c.next.new.self) c.in-Some.ensures.steps.1.0 (search rules) c.if-fold-ne0.false
