-- `image_edits::close_place` meets its contract. The invariant: which blocks stand one further down (Closing). Assumes nothing.
use Rattle.std.proofs.Common.{rules}
use native.Mathlib.Omega.{arith}
use mathlib.Core.Path.{refl}
use Rattle.block.proofs.Numbers.{bytes_of}
use Rattle.layout.specs.Image.{decode}
use Rattle.image_edits.proofs.Blocks.{image_decoded, canonical_blocks}
use Rattle.image_edits.proofs.Closing.{closing_none, closing_size, closing_laid, closing_more, closed}
use Rattle.image_edits.proofs.close_place.Goals as goal

pub loop-j-init : goal.loop-j-init
loop-j-init c = let img = c.args.image.now in
    let p = c.requires in
    let small = bytes_of img c.type_inv.image in
    let S = image_decoded img small p.0 in
    (S.few, closing_none (decode img) S c.args.i img (omega (arith, p.2)) (canonical_blocks img small p.0 p.1))

pub renumber-requires : goal.renumber-requires
renumber-requires c = let img = c.args.image.now in
    let p = c.requires in
    let l = c.loop-j in
    let S = image_decoded img (bytes_of img (search rules)) p.0 in
    (closing_size (decode img) S c.args.i l.image _ l.image l.j l.invariant.1 (omega (arith, p.2)) c.move_down.ensures, closing_laid (decode img) S c.args.i l.image _ l.image l.j l.invariant.1 (omega (arith, p.2)) c.move_down.ensures)

pub loop-j-preserved : goal.loop-j-preserved
loop-j-preserved c = let img = c.args.image.now in
    let p = c.requires in
    let l = c.loop-j in
    let S = image_decoded img (bytes_of img (search rules)) p.0 in
    (l.invariant.0, closing_more (decode img) S c.args.i l.image _ _ l.j l.invariant.1 (omega (arith, p.2)) c.move_down.ensures _ c.renumber.ensures refl)

pub returns : goal.returns
returns c = let img = c.args.image.now in
    let p = c.requires in
    let l = c.loop-j in
    closed (decode img) (image_decoded img (bytes_of img (search rules)) p.0) c.args.i l.image _ l.j c.args.count p.2 l.invariant.1 (omega (arith, l.invariant.1.high, p.2)) c.clear.ensures
