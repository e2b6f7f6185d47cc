-- `image::versions_listed_for` meets its contract: each version is asked (ListedFor). Assumes nothing.
use Rattle.std.proofs.Common.{rules}
use mathlib.Core.Path.{refl}
use Rattle.block.proofs.Asked.{all_asked}
use Rattle.layout.specs.Image.{decode_dots}
use Rattle.image.proofs.ListedFor.{slot_is, slot_listed, listed_all}
use Rattle.image.proofs.versions_listed_for.Goals as goal

pub returns : goal.returns
returns c = let b = c.args.b.now in
    let ls = decode_dots c.args.list.now in
    let n = c.version_count-count.result in
    listed_all ls b n c.all.result c.requires.4 c.version_count-count.ensures
    (all_asked c.all.result n refl (λ x q r t. search rules) (slot_listed ls b) c.all.ensures.runs (λ x l r t. slot_is ls b x _ _ r refl refl (search rules)))
