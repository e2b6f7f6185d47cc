-- `joining::merge_block` meets its contract (MergedAt). Assumes nothing.
use borrow.Author.Rules.{rules}
use Prim.Native.Nat.{◌+◌, ◌≤◌}
use mathlib.Core.Path.{◌≡◌}
use mathlib.Core.Bool.{true}
use lib.ListN.{length}
use Rattle.numbers.specs.Words.{map, ascends?}
use Rattle.numbers.specs.Numbers.{counter}
use Rattle.meaning.specs.Object.{version_before, survivors}
use Rattle.layout.specs.PointBlock.{form_1, decode_point}
use Rattle.record.specs.Crewed.{crewed}
use Rattle.merging.specs.Merging.{theirs, arriving, agreeing}
use Rattle.joining.proofs.MergedAt.{raised_context, of_raised, block_merged}
use Rattle.joining.proofs.merge_block.Goals as goal

pub merge_in-requires : goal.merge_in-requires
merge_in-requires c = (search rules, c.raise_to.ensures.1, c.requires.2, c.requires.3, c.requires.4, c.requires.5, raised_context c.args.b.now c.args.m.now c.args.here.now c.args.there.now _ c.requires.6 c.raise_to.ensures.0, of_raised c.args.b.now c.args.m.now c.args.here.now c.args.there.now _ c.requires.6 c.raise_to.ensures.0 (λ o. ascends? version_before o.versions ≡ true) c.requires.7.0, of_raised c.args.b.now c.args.m.now c.args.here.now c.args.there.now _ c.requires.6 c.raise_to.ensures.0 (λ o. crewed o.versions ≡ true) c.requires.7.1, c.requires.7.2, c.requires.7.3, of_raised c.args.b.now c.args.m.now c.args.here.now c.args.there.now _ c.requires.6 c.raise_to.ensures.0 (λ o. agreeing o.versions (decode_point form_1 c.args.m.now).object.versions ≡ true) c.requires.7.4, of_raised c.args.b.now c.args.m.now c.args.here.now c.args.there.now _ c.requires.6 c.raise_to.ensures.0 (λ o. length (survivors o (theirs c.args.m.now c.args.there.now)) + length (arriving (map counter c.args.here.now) (decode_point form_1 c.args.m.now).object.versions) ≤ 8) c.requires.7.5)

pub returns : goal.returns
returns c = block_merged c.args.b.now c.args.m.now c.args.here.now c.args.there.now _ c.requires.6 c.raise_to.ensures.0 _ c.merge_in.ensures
