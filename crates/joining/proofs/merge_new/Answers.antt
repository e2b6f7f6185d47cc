-- `joining::merge_new` meets its contract (Putting). Assumes nothing.
use borrow.Author.Rules.{rules}
use mathlib.Core.Path.{◌≡◌, sym, subst}
use Rattle.numbers.specs.Words.{map}
use Rattle.numbers.specs.Numbers.{counter}
use Rattle.meaning.specs.Context.{higher}
use Rattle.meaning.specs.State.{Stored}
use Rattle.layout.specs.Clocks.{decode_clock}
use Rattle.store.proofs.Resulting.{opened_inside, written_inside, new_put}
use Rattle.joining.specs.Joined.{Mergeable, merged_with, empty_record}
use Rattle.joining.proofs.Putting.{none_above, opened_is, empty_opened, merged_opened}
use native.Mathlib.Omega.{arith}
use Rattle.joining.proofs.merge_new.Goals as goal

pub merge_at-requires : goal.merge_at-requires
merge_at-requires c = (search rules, c.open_place.ensures.1, opened_inside c.args.image.now _ c.args.image.now c.args.image.now c.args.i (empty_record c.args.m.now) (empty_record c.args.m.now) (decode_clock c.args.rows.now) (omega (arith, c.requires.2, c.requires.3)) (empty_opened c.args.image.now _ c.args.i c.args.m.now _ c.key_of.ensures c.open_place.ensures), c.requires.5, c.requires.6, c.requires.7, c.requires.8, subst (λ (p : Stored). higher p.object.context (map counter c.args.here.now) ≡ map counter c.args.here.now) (sym (opened_is c.args.image.now _ c.args.i (empty_record c.args.m.now) (omega (arith, c.requires.2, c.requires.3)) (empty_opened c.args.image.now _ c.args.i c.args.m.now _ c.key_of.ensures c.open_place.ensures))) (none_above c.args.here.now c.requires.7), subst (λ (p : Stored). Mergeable p.object.versions c.args.m.now c.args.here.now c.args.there.now) (sym (opened_is c.args.image.now _ c.args.i (empty_record c.args.m.now) (omega (arith, c.requires.2, c.requires.3)) (empty_opened c.args.image.now _ c.args.i c.args.m.now _ c.key_of.ensures c.open_place.ensures))) c.requires.10)

pub strip_record-requires : goal.strip_record-requires
strip_record-requires c = (search rules, c.merge_at.ensures.1, written_inside c.args.image.now _ _ c.args.image.now c.args.i (empty_record c.args.m.now) (merged_with (empty_record c.args.m.now) c.args.m.now c.args.here.now c.args.there.now) (decode_clock c.args.rows.now) (omega (arith, c.requires.2, c.requires.3)) (empty_opened c.args.image.now _ c.args.i c.args.m.now _ c.key_of.ensures c.open_place.ensures) (merged_opened c.args.image.now _ c.args.i c.args.m.now c.args.here.now c.args.there.now (omega (arith, c.requires.2, c.requires.3)) (empty_opened c.args.image.now _ c.args.i c.args.m.now _ c.key_of.ensures c.open_place.ensures) _ c.merge_at.ensures), c.requires.9)

pub returns : goal.returns
returns c = new_put c.args.image.now _ _ _ c.args.i (empty_record c.args.m.now) (merged_with (empty_record c.args.m.now) c.args.m.now c.args.here.now c.args.there.now) (decode_clock c.args.rows.now) (omega (arith, c.requires.2, c.requires.3)) (empty_opened c.args.image.now _ c.args.i c.args.m.now _ c.key_of.ensures c.open_place.ensures) (merged_opened c.args.image.now _ c.args.i c.args.m.now c.args.here.now c.args.there.now (omega (arith, c.requires.2, c.requires.3)) (empty_opened c.args.image.now _ c.args.i c.args.m.now _ c.key_of.ensures c.open_place.ensures) _ c.merge_at.ensures) c.strip_record.ensures
