-- `taking::put_taken` meets its contract (OfOne, Ready). Assumes nothing.
use borrow.Author.Rules.{rules}
use mathlib.Core.Path.{◌≡◌, ap, sym, subst, ◌∙◌}
use mathlib.Core.Bool.{true}
use mathlib.Core.List.{List}
use lib.ListN.{length}
use Rattle.numbers.specs.Words.{ascends?}
use Rattle.block.proofs.Numbers.{bytes_of}
use Rattle.meaning.specs.Object.{Object}
use Rattle.meaning.specs.State.{Stored, stored_before}
use Rattle.layout.specs.Clocks.{decode_clock}
use Rattle.layout.specs.Image.{decode}
use Rattle.store.proofs.Lent.{good_now, good_ascends}
use Rattle.merging.specs.Merging.{theirs}
use Rattle.weighing.specs.Weighed.{key_in}
use Rattle.joining.specs.Joined.{Mergeable}
use Rattle.weighing.proofs.Takings.{by_crew}
use Rattle.weighing.proofs.Judging.{few_sent}
use Rattle.taking.proofs.OfOne.{one_few, one_crewed, local_now, points_now, room_now, taken_in}
use Rattle.taking.proofs.Ready.{mergeable, place_for_it}
use Rattle.taking.proofs.put_taken.Goals as goal

pub list_new-requires : goal.list_new-requires
list_new-requires c = (c.requires.0, c.requires.1, c.requires.2, one_few c.args.m.now c.requires.3.0 (few_sent c.args.m.now (bytes_of c.args.m.now c.type_inv.m) c.requires.3.0 c.requires.3.1), one_crewed c.args.m.now c.requires.3.0 (by_crew (decode c.args.image.now) (good_now c.args.image.now c.requires.1) (key_in c.args.m.now) (theirs c.args.m.now c.args.there.now) c.requires.3.5))

pub put_merged-requires : goal.put_merged-requires
put_merged-requires c = (search rules, c.list_new.ensures.1, c.requires.2 ∙ ap length (sym (points_now (decode c.args.image.now) (good_now c.args.image.now c.requires.1) c.args.m.now c.args.here.now c.args.there.now c.requires.5 c.requires.3 (decode_clock c.args.rows.now) c.requires.6 _ c.args.image.now c.args.image.now c.list_new.ensures)), subst (λ (ps : List Stored). ascends? stored_before ps ≡ true) (sym (points_now (decode c.args.image.now) (good_now c.args.image.now c.requires.1) c.args.m.now c.args.here.now c.args.there.now c.requires.5 c.requires.3 (decode_clock c.args.rows.now) c.requires.6 _ c.args.image.now c.args.image.now c.list_new.ensures)) (good_ascends c.args.image.now c.requires.1), c.requires.3.0, c.requires.3.1, c.requires.3.2, c.requires.3.4, c.requires.4, c.requires.3.3 ∙ ap (λ (o : Object). o.context) (sym (local_now (decode c.args.image.now) (good_now c.args.image.now c.requires.1) c.args.m.now c.args.here.now c.args.there.now c.requires.5 c.requires.3 (decode_clock c.args.rows.now) c.requires.6 _ c.args.image.now c.args.image.now c.list_new.ensures (key_in c.args.m.now))), subst (λ (o : Object). Mergeable o.versions c.args.m.now c.args.here.now c.args.there.now) (sym (local_now (decode c.args.image.now) (good_now c.args.image.now c.requires.1) c.args.m.now c.args.here.now c.args.there.now c.requires.5 c.requires.3 (decode_clock c.args.rows.now) c.requires.6 _ c.args.image.now c.args.image.now c.list_new.ensures (key_in c.args.m.now))) (mergeable (decode c.args.image.now) (good_now c.args.image.now c.requires.1) c.args.m.now c.args.here.now c.args.there.now c.requires.3 (decode_clock c.args.rows.now) c.requires.7), room_now (decode c.args.image.now) (good_now c.args.image.now c.requires.1) c.args.m.now c.args.here.now c.args.there.now c.requires.5 c.requires.3 (decode_clock c.args.rows.now) c.requires.6 _ c.args.image.now c.args.image.now c.list_new.ensures (place_for_it (decode c.args.image.now) (good_now c.args.image.now c.requires.1) c.args.m.now c.args.here.now c.args.there.now c.requires.3 (decode_clock c.args.rows.now) c.requires.7))

pub set_rows-requires : goal.set_rows-requires
set_rows-requires c = (search rules, c.put_merged.ensures.1, c.requires.4)

pub returns : goal.returns
returns c = taken_in (decode c.args.image.now) (good_now c.args.image.now c.requires.1) c.args.m.now c.args.here.now c.args.there.now c.requires.5 c.requires.3 (decode_clock c.args.rows.now) c.requires.6 _ _ _ c.list_new.ensures c.put_merged.ensures c.set_rows.ensures
