-- `tidying::known_to_all` meets its contract: each of the eight is asked (Known). Assumes nothing.
use Rattle.std.proofs.Common.{rules}
use mathlib.Core.Path.{refl}
use Rattle.numbers.specs.Numbers.{controller}
use Rattle.block.proofs.Asked.{all_said}
use Rattle.layout.specs.Image.{decode_marks}
use Rattle.tidying.specs.Tidied.{known_to, dot_known}
use Rattle.tidying.proofs.Known.{all_asked_of}
use Rattle.tidying.proofs.known_to_all.Goals as goal

pub returns : goal.returns
unfolding dot_known
returns c = let a = c.args in
    let f = known_to a.table.now (decode_marks a.marks.now) a.d in
    all_asked_of f c.all.result (all_said c.all.result 1 9 refl (λ x q r t. search rules) (λ k. f (controller k)) (λ x m l r t. search rules) c.all.ensures.runs)
