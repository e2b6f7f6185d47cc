-- `image::points_ascend` meets its contract: each point but the first is asked whether it comes after the one before it (Loops). Assumes nothing.
use Rattle.std.proofs.Common.{rules}
use mathlib.Core.Path.{refl}
use Prim.Native.Nat.{◌-◌}
use Rattle.block.proofs.Asked.{all_said}
use Rattle.meaning.specs.State.{stored_before}
use Rattle.image.specs.Apart.{point_at}
use Rattle.image.proofs.Loops.{neighbours, all_ascend}
use Rattle.image.proofs.points_ascend.Goals as goal

pub returns : goal.returns
returns c = let img = c.args.image.now in
    all_ascend img c.args.count c.all.result (all_said c.all.result 1 c.args.count refl (λ x q r t. search rules) (λ i. stored_before (point_at img (i - 1)) (point_at img i)) (λ x m l r t. neighbours img x _ _ r m refl refl (search rules)) c.all.ensures.runs)
