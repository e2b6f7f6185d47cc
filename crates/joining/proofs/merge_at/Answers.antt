-- `joining::merge_at` meets its contract (MergedAt). Assumes nothing.
use borrow.Author.Rules.{rules}
use mathlib.Core.Path.{◌≡◌, refl}
use Rattle.numbers.specs.Words.{map}
use Rattle.numbers.specs.Numbers.{counter}
use Rattle.block.proofs.Numbers.{bytes_of}
use Rattle.meaning.specs.Context.{higher}
use Rattle.meaning.specs.Object.{Object, merge}
use Rattle.image_edits.proofs.Blocks.{image_decoded}
use Rattle.store.proofs.Stripped.{record_laid, record_size}
use Rattle.merging.specs.Merging.{theirs}
use Rattle.joining.specs.Joined.{Mergeable}
use Rattle.joining.proofs.MergedAt.{of_block, record_edited}
use native.Mathlib.Omega.{arith}
use Rattle.joining.proofs.merge_at.Goals as goal

pub overflow_add-at : goal.overflow_add-at
overflow_add-at c = omega (arith, c.requires.0, c.requires.2, (image_decoded c.args.image.now (bytes_of c.args.image.now c.type_inv.image) c.requires.0).few)

pub overflow_mul-at : goal.overflow_mul-at
overflow_mul-at c = omega (arith, c.requires.0, c.requires.2, (image_decoded c.args.image.now (bytes_of c.args.image.now c.type_inv.image) c.requires.0).few)

pub overflow_add-at-2 : goal.overflow_add-at-2
overflow_add-at-2 c = omega (arith, c.requires.0, c.requires.2, (image_decoded c.args.image.now (bytes_of c.args.image.now c.type_inv.image) c.requires.0).few)

pub slice_bounds-merge_block-end : goal.slice_bounds-merge_block-end
slice_bounds-merge_block-end c = omega (arith, c.requires.0, c.requires.2, (image_decoded c.args.image.now (bytes_of c.args.image.now c.type_inv.image) c.requires.0).few)

pub merge_block-requires : goal.merge_block-requires
merge_block-requires c = (record_size c.args.image.now (bytes_of c.args.image.now c.slice_known-1.given) c.requires.0 c.requires.1 c.args.i c.requires.2, record_laid c.args.image.now (bytes_of c.args.image.now c.slice_known-1.given) c.requires.0 c.requires.1 c.args.i c.requires.2, c.requires.3, c.requires.4, c.requires.5, c.requires.6, of_block c.args.image.now (bytes_of c.args.image.now c.slice_known-1.given) c.requires.0 c.requires.1 c.args.i c.requires.2 (λ o. higher o.context (map counter c.args.here.now) ≡ map counter c.args.here.now) c.requires.7, of_block c.args.image.now (bytes_of c.args.image.now c.slice_known-1.given) c.requires.0 c.requires.1 c.args.i c.requires.2 (λ o. Mergeable o.versions c.args.m.now c.args.here.now c.args.there.now) c.requires.8)

pub overflow_add-at-3 : goal.overflow_add-at-3
overflow_add-at-3 c = omega (arith, c.requires.0, c.requires.2, (image_decoded c.args.image.now (bytes_of c.args.image.now c.slice_known-1.given) c.requires.0).few)

pub slice_bounds-seal_block-end : goal.slice_bounds-seal_block-end
slice_bounds-seal_block-end c = omega (arith, c.requires.0, c.requires.2, (image_decoded c.args.image.now (bytes_of c.args.image.now c.slice_known-1.given) c.requires.0).few)

pub returns : goal.returns
returns c = record_edited c.args.image.now (bytes_of c.args.image.now c.slice_known-1.given) c.requires.0 c.requires.1 c.args.i c.requires.2 _ _ _ _ (bytes_of _ c.slice_known-2-1.given) (λ (o : Object). merge (record { versions = o.versions; context = map counter c.args.here.now }) (theirs c.args.m.now c.args.there.now)) (search rules) c.merge_block.ensures refl c.seal_block.ensures refl
