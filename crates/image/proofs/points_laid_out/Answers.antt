-- `image::points_laid_out` meets its contract: each block is asked (Loops). Assumes nothing.
use Rattle.std.proofs.Common.{rules}
use mathlib.Core.Path.{refl}
use Prim.Native.Nat.{◌+◌}
use Rattle.block.proofs.Asked.{all_asked}
use Rattle.image.specs.Parts.{stored_laid_out}
use Rattle.image.proofs.Loops.{laid_out_part}
use Rattle.image.proofs.points_laid_out.Goals as goal

pub returns : goal.returns
returns c = let img = c.args.image.now in
    all_asked c.all.result c.args.count refl (λ x q r t. search rules) (λ i. stored_laid_out img (3 + i)) c.all.ensures.runs (λ x l r t. laid_out_part img (3 + x) r (search rules))
