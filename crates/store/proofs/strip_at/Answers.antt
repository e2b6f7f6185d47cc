-- `store::strip_at` meets its contract. Stripped, and closed where it is gone (Stripped). Assumes nothing.
use Prim.Native.Nat.{◌-◌}
use mathlib.Core.Path.{sym, ◌∙◌}
use native.Mathlib.Omega.{arith}
use borrow.Author.Tests.{not-true, not-false}
use Rattle.block.proofs.Numbers.{bytes_of}
use Rattle.layout.specs.Clocks.{decode_clock}
use Rattle.image_edits.proofs.Blocks.{image_decoded}
use Rattle.store.proofs.Stripped.{count_now, lent_long, lent_few, gone_is, stays, goes}
use Rattle.store.proofs.strip_at.Goals as goal

pub overflow_add-at : goal.overflow_add-at
overflow_add-at c = let img = c.args.image.now in let small = bytes_of c.args.image.now c.slice_known-1.given in let p = c.requires in let k = decode_clock c.args.rows.now in omega (arith, p.0, p.2, p.3, (image_decoded img small p.0).few)

pub overflow_mul-at : goal.overflow_mul-at
overflow_mul-at c = let img = c.args.image.now in let small = bytes_of c.args.image.now c.slice_known-1.given in let p = c.requires in let k = decode_clock c.args.rows.now in omega (arith, p.0, p.2, p.3, (image_decoded img small p.0).few)

pub overflow_add-at-2 : goal.overflow_add-at-2
overflow_add-at-2 c = let img = c.args.image.now in let small = bytes_of c.args.image.now c.slice_known-1.given in let p = c.requires in let k = decode_clock c.args.rows.now in omega (arith, p.0, p.2, p.3, (image_decoded img small p.0).few)

pub slice_bounds-is_gone-end : goal.slice_bounds-is_gone-end
slice_bounds-is_gone-end c = let img = c.args.image.now in let small = bytes_of c.args.image.now c.slice_known-1.given in let p = c.requires in let k = decode_clock c.args.rows.now in omega (arith, p.0, p.2, p.3, (image_decoded img small p.0).few)

pub is_gone-requires : goal.is_gone-requires
is_gone-requires c = let img = c.args.image.now in let small = bytes_of c.args.image.now c.slice_known-1.given in let p = c.requires in let k = decode_clock c.args.rows.now in (lent_long img _ small p.0 c.args.i k (omega (arith, p.2, p.3)) (bytes_of _ c.slice_known-2-1.given) (omega (arith, p.0)) c.strip_record.ensures, lent_few img _ small p.0 c.args.i k (omega (arith, p.2, p.3)) (bytes_of _ c.slice_known-2-1.given) (omega (arith, p.0)) c.strip_record.ensures)

pub returns-then-not-is_gone : goal.returns-then-not-is_gone
returns-then-not-is_gone c = let img = c.args.image.now in let small = bytes_of c.args.image.now c.slice_known-1.given in let p = c.requires in let k = decode_clock c.args.rows.now in let g = c.is_gone.result in let t = c.is_gone.ensures in let f = not-true _ c.if-not-is_gone.true-raw in (sym f ∙ gone_is img _ small p.0 c.args.i k (omega (arith, p.2, p.3)) (bytes_of _ c.slice_known-2-1.given) (omega (arith, p.0)) c.strip_record.ensures g t, (stays img _ small p.0 c.args.i k (omega (arith, p.2, p.3)) (bytes_of _ c.slice_known-2-1.given) (omega (arith, p.0)) c.strip_record.ensures g t f).0, (stays img _ small p.0 c.args.i k (omega (arith, p.2, p.3)) (bytes_of _ c.slice_known-2-1.given) (omega (arith, p.0)) c.strip_record.ensures g t f).1)

pub close_place-requires : goal.close_place-requires
close_place-requires c = let img = c.args.image.now in let small = bytes_of c.args.image.now c.slice_known-1.given in let p = c.requires in let k = decode_clock c.args.rows.now in (omega (arith, p.0), c.strip_record.ensures.1, omega (arith, p.2, count_now img _ small p.0 c.args.i k (omega (arith, p.2, p.3)) (bytes_of _ c.slice_known-2-1.given) (omega (arith, p.0)) c.strip_record.ensures), p.3)

pub returns : goal.returns
returns c = let img = c.args.image.now in let small = bytes_of c.args.image.now c.slice_known-1.given in let p = c.requires in let k = decode_clock c.args.rows.now in let g = c.is_gone.result in let t = c.is_gone.ensures in let f = not-false _ c.if-not-is_gone.false-raw in (sym f ∙ gone_is img _ small p.0 c.args.i k (omega (arith, p.2, p.3)) (bytes_of _ c.slice_known-2-1.given) (omega (arith, p.0)) c.strip_record.ensures g t, (goes img _ small p.0 c.args.i k (omega (arith, p.2, p.3)) (bytes_of _ c.slice_known-2-1.given) (omega (arith, p.0)) c.strip_record.ensures g t f _ c.close_place.ensures).0, (goes img _ small p.0 c.args.i k (omega (arith, p.2, p.3)) (bytes_of _ c.slice_known-2-1.given) (omega (arith, p.0)) c.strip_record.ensures g t f _ c.close_place.ensures).1)
