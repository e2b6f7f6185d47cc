-- `merging::settled_by` meets its contract: each controller is asked whether its higher entry is not above its base (object's Going). Assumes nothing.
use Rattle.std.proofs.Common.{rules}
use Prim.Native.Nat.{◌+◌, max}
use mathlib.Core.Path.{◌≡◌, refl, ap, ◌∙◌}
use lib.ListN.{get_or}
use lib.Dec.{leb}
use Rattle.numbers.specs.declared.Counter.{Counter}
use Rattle.numbers.specs.Words.{map}
use Rattle.numbers.specs.Numbers.{controller, counter}
use Rattle.meaning.specs.Clock.{row}
use Rattle.meaning.specs.Context.{higher}
use Rattle.layout.specs.Clocks.{decode_clock}
use Rattle.object.proofs.Going.{low, strips_empty}
use Rattle.block.proofs.Asked.{all_asked}
use Rattle.merging.proofs.Judging.{higher_read}
use Rattle.merging.proofs.settled_by.Goals as goal

pub returns : goal.returns
returns c = let here = c.args.here.now in
    let there = c.args.there.now in
    let k = decode_clock c.args.rows.now in
    let h = higher (map counter here) (map counter there) in
    all_asked c.all.result 8 refl (λ x q r t. search rules) (low h k) c.all.ensures.runs (λ x l r t. let base = (row k (controller (x + 1))).base in
    let said : r ≡ leb (max (get_or here x 0) (get_or there x 0)) base = search rules in
    said ∙ ap (λ (e : Counter). leb e.0 base) (higher_read here there x l refl)) ∙ strips_empty h k
