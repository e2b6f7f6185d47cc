-- `writing::keep_written` meets its contract. Edit by edit (Keeping). Assumes nothing.
use mathlib.Core.Path.{sym, ◌∙◌, subst}
use native.Mathlib.Omega.{arith}
use Rattle.numbers.specs.Numbers.{Crew}
use Rattle.block.proofs.Numbers.{bytes_of}
use Rattle.layout.specs.PointBlock.{form_1, decode_stored}
use Rattle.layout.specs.Image.{decode}
use Rattle.store.proofs.Lent.{own_is_crew, good_canonical, good_ascends, counted, own_count}
use Rattle.writing.proofs.Keeping.{who_is, same_list, points_ascend, points_few, kept, key_kept, rows_kept}
use mathlib.Core.Path.{ap}
use lib.ListN.{length}
use Rattle.writing.proofs.keep_written.Goals as goal

pub set_row-requires : goal.set_row-requires
set_row-requires c = (c.requires.0, good_canonical c.args.image.now c.requires.1, subst Crew (sym (who_is (decode c.args.image.now) c.args.d c.requires.2)) (own_is_crew c.args.image.now c.requires.1))

pub insert_dot-requires : goal.insert_dot-requires
insert_dot-requires c = (omega (arith, c.requires.0), c.set_row.ensures.1, omega (arith, (c.entry_count-listed.ensures ∙ own_count _ (bytes_of _ c.slice_known-2-1.given) (omega (arith, c.requires.0)) c.set_row.ensures.1)), omega (arith, c.requires.3, ap length (same_list (decode c.args.image.now) c.args.d c.requires.2 _ c.set_row.ensures)))

pub put_result-requires : goal.put_result-requires
put_result-requires c = (omega (arith, c.requires.0), c.insert_dot.ensures.1, counted _ c.stored_count-count.result c.stored_count-count.ensures, points_ascend (decode c.args.image.now) c.args.d c.requires.2 _ c.set_row.ensures _ (c.entry_count-listed.ensures ∙ own_count _ (bytes_of _ c.slice_known-2-1.given) (omega (arith, c.requires.0)) c.set_row.ensures.1) c.key_of.result _ c.insert_dot.ensures (good_ascends c.args.image.now c.requires.1), c.requires.4, c.requires.5, (rows_kept _ _ _ c.insert_dot.ensures.1 c.copy_in.ensures (omega (arith, c.requires.0)) (omega arith)).0, points_few (decode c.args.image.now) c.args.d c.requires.2 _ c.set_row.ensures _ (c.entry_count-listed.ensures ∙ own_count _ (bytes_of _ c.slice_known-2-1.given) (omega (arith, c.requires.0)) c.set_row.ensures.1) c.key_of.result _ c.insert_dot.ensures (decode_stored form_1 c.args.b.now) (key_kept c.args.b.now c.key_of.ensures) _ (rows_kept _ _ _ c.insert_dot.ensures.1 c.copy_in.ensures (omega (arith, c.requires.0)) (omega arith)).1 c.requires.6)

pub returns : goal.returns
returns c = kept (decode c.args.image.now) c.args.d c.requires.2 _ c.set_row.ensures _ (c.entry_count-listed.ensures ∙ own_count _ (bytes_of _ c.slice_known-2-1.given) (omega (arith, c.requires.0)) c.set_row.ensures.1) c.key_of.result _ c.insert_dot.ensures (decode_stored form_1 c.args.b.now) (key_kept c.args.b.now c.key_of.ensures) _ (rows_kept _ _ _ c.insert_dot.ensures.1 c.copy_in.ensures (omega (arith, c.requires.0)) (omega arith)).1 _ c.put_result.ensures
