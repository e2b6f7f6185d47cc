-- `image::stored_count` meets its contract: the first block of kind 0 is found, or there is none (Counted). Assumes nothing.
use Rattle.std.proofs.Common.{rules}
use Rattle.std.proofs.lemmas.Iterator.{first_from_Range}
use mathlib.Core.Path.{◌≡◌, ◌∙◌}
use Prim.Native.Nat.{◌+◌, ◌*◌}
use Rattle.block.specs.Fields.{field}
use Rattle.image.proofs.Counted.{counted}
use Rattle.image.proofs.stored_count.Goals as goal

pub returns : goal.returns
returns c = let img = c.args.image.now in
    c.unwrap_or.ensures ∙ counted img c.find.result (first_from_Range _ _ _ c.find.result (λ x. field img (512 * (3 + x)) 1 ≡ 0) (λ x. field img (512 * (3 + x)) 1 ≡ 0 → ⊥) c.find.ensures.ran (λ x q k. search rules) (λ x q k. search rules))
