-- `repairing::put_repaired` meets its contract (Merges, Made). Assumes nothing.
use borrow.Author.Rules.{rules}
use mathlib.Core.Path.{refl}
use Rattle.block.proofs.Numbers.{bytes_of}
use Rattle.layout.specs.Clocks.{decode_clock}
use Rattle.layout.specs.Image.{decode}
use Rattle.block.specs.Fields.{cut}
use Rattle.store.proofs.Lent.{good_now, good_ascends}
use Rattle.arriving.proofs.OfPoints.{block_size}
use Rattle.hearing.specs.Heard.{reply_in}
use Rattle.hearing.proofs.Filled.{crewed_points}
use Rattle.repairing.proofs.Merges.{clock_lent, first_pass, second_pass, both_passes}
use Rattle.repairing.proofs.Made.{own_there, other_there, sender_there, own_dots_there, foreign_dots_there, all_made}
use native.Mathlib.Omega.{arith}
use Rattle.repairing.proofs.put_repaired.Goals as goal

pub list_new-requires : goal.list_new-requires
list_new-requires c = (c.requires.0, c.requires.1, c.requires.2, c.requires.3.1, crewed_points (decode c.args.image.now) (reply_in c.args.head.now c.args.points.now) c.requires.3.4.0 c.args.points.now refl)

pub merge_marked-requires : goal.merge_marked-requires
merge_marked-requires c = let p = first_pass (decode c.args.image.now) (good_now c.args.image.now c.requires.1) (good_ascends c.args.image.now c.requires.1) c.args.head.now c.args.points.now c.args.marks.now c.requires.3 (block_size c.args.points.now (bytes_of c.args.points.now c.type_inv.points)) (decode_clock c.args.rows.now) c.requires.6 c.requires.7 c.requires.8 _ c.list_new.ensures.0 in (search rules, c.list_new.ensures.1, p.0, search rules, c.requires.4, p.1, p.2, omega (arith, c.requires.3.3, c.requires.6), p.3)

pub merge_marked-requires-2 : goal.merge_marked-requires-2
merge_marked-requires-2 c = let p = second_pass (decode c.args.image.now) (good_now c.args.image.now c.requires.1) (good_ascends c.args.image.now c.requires.1) c.args.head.now c.args.points.now c.args.marks.now c.requires.3 (block_size c.args.points.now (bytes_of c.args.points.now c.type_inv.points)) (decode_clock c.args.rows.now) c.requires.6 c.requires.7 c.requires.8 _ _ c.list_new.ensures.0 c.merge_marked.ensures.0 in (search rules, c.merge_marked.ensures.1, p.0, search rules, c.requires.4, p.1, p.2, omega (arith, c.requires.3.3, c.requires.6), p.3)

pub slice_bounds-tidy-end : goal.slice_bounds-tidy-end
slice_bounds-tidy-end c = omega (arith, c.requires.3.0)

pub tidy-requires : goal.tidy-requires
tidy-requires c = (search rules, c.set_rows.ensures.1, sender_there (decode c.args.image.now) (good_now c.args.image.now c.requires.1) (reply_in c.args.head.now c.args.points.now) c.requires.3.4 (decode_clock c.args.rows.now) c.requires.5 c.requires.8 _ _ (both_passes (decode c.args.image.now) (good_now c.args.image.now c.requires.1) (good_ascends c.args.image.now c.requires.1) c.args.head.now c.args.points.now c.args.marks.now c.requires.3 (block_size c.args.points.now (bytes_of c.args.points.now c.type_inv.points)) (decode_clock c.args.rows.now) c.requires.6 c.requires.7 c.requires.8 _ _ c.list_new.ensures.0 c.merge_marked.ensures.0 _ c.merge_marked-2.ensures.0) c.set_rows.ensures.0 _ c.sender_of.ensures, search rules, own_there (decode c.args.image.now) (good_now c.args.image.now c.requires.1) (reply_in c.args.head.now c.args.points.now) c.requires.3.4 (decode_clock c.args.rows.now) c.requires.5 c.requires.8 _ _ (both_passes (decode c.args.image.now) (good_now c.args.image.now c.requires.1) (good_ascends c.args.image.now c.requires.1) c.args.head.now c.args.points.now c.args.marks.now c.requires.3 (block_size c.args.points.now (bytes_of c.args.points.now c.type_inv.points)) (decode_clock c.args.rows.now) c.requires.6 c.requires.7 c.requires.8 _ _ c.list_new.ensures.0 c.merge_marked.ensures.0 _ c.merge_marked-2.ensures.0) c.set_rows.ensures.0, other_there (decode c.args.image.now) (good_now c.args.image.now c.requires.1) (reply_in c.args.head.now c.args.points.now) c.requires.3.4 (decode_clock c.args.rows.now) c.requires.5 c.requires.8 _ _ (both_passes (decode c.args.image.now) (good_now c.args.image.now c.requires.1) (good_ascends c.args.image.now c.requires.1) c.args.head.now c.args.points.now c.args.marks.now c.requires.3 (block_size c.args.points.now (bytes_of c.args.points.now c.type_inv.points)) (decode_clock c.args.rows.now) c.requires.6 c.requires.7 c.requires.8 _ _ c.list_new.ensures.0 c.merge_marked.ensures.0 _ c.merge_marked-2.ensures.0) c.set_rows.ensures.0 _ c.sender_of.ensures, own_dots_there (decode c.args.image.now) (good_now c.args.image.now c.requires.1) (reply_in c.args.head.now c.args.points.now) c.requires.3.4 (decode_clock c.args.rows.now) c.requires.5 c.requires.8 _ _ (both_passes (decode c.args.image.now) (good_now c.args.image.now c.requires.1) (good_ascends c.args.image.now c.requires.1) c.args.head.now c.args.points.now c.args.marks.now c.requires.3 (block_size c.args.points.now (bytes_of c.args.points.now c.type_inv.points)) (decode_clock c.args.rows.now) c.requires.6 c.requires.7 c.requires.8 _ _ c.list_new.ensures.0 c.merge_marked.ensures.0 _ c.merge_marked-2.ensures.0) c.set_rows.ensures.0, foreign_dots_there (decode c.args.image.now) (good_now c.args.image.now c.requires.1) (reply_in c.args.head.now c.args.points.now) c.requires.3.4 (decode_clock c.args.rows.now) c.requires.5 c.requires.8 _ _ (both_passes (decode c.args.image.now) (good_now c.args.image.now c.requires.1) (good_ascends c.args.image.now c.requires.1) c.args.head.now c.args.points.now c.args.marks.now c.requires.3 (block_size c.args.points.now (bytes_of c.args.points.now c.type_inv.points)) (decode_clock c.args.rows.now) c.requires.6 c.requires.7 c.requires.8 _ _ c.list_new.ensures.0 c.merge_marked.ensures.0 _ c.merge_marked-2.ensures.0) c.set_rows.ensures.0)

pub returns : goal.returns
returns c = all_made (decode c.args.image.now) (good_now c.args.image.now c.requires.1) (reply_in c.args.head.now c.args.points.now) c.requires.3.4 (decode_clock c.args.rows.now) c.requires.5 c.requires.8 _ _ (both_passes (decode c.args.image.now) (good_now c.args.image.now c.requires.1) (good_ascends c.args.image.now c.requires.1) c.args.head.now c.args.points.now c.args.marks.now c.requires.3 (block_size c.args.points.now (bytes_of c.args.points.now c.type_inv.points)) (decode_clock c.args.rows.now) c.requires.6 c.requires.7 c.requires.8 _ _ c.list_new.ensures.0 c.merge_marked.ensures.0 _ c.merge_marked-2.ensures.0) c.set_rows.ensures.0 _ _ (decode_clock (cut c.args.head.now 8 96)) c.sender_of.ensures (clock_lent (decode c.args.image.now) (good_now c.args.image.now c.requires.1) (good_ascends c.args.image.now c.requires.1) c.args.head.now c.args.points.now c.args.marks.now c.requires.3 (block_size c.args.points.now (bytes_of c.args.points.now c.type_inv.points))) c.tidy.ensures
