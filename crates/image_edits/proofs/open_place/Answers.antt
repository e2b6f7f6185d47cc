-- `image_edits::open_place` meets its contract. The invariant: which blocks stand one further up (Opening). Assumes nothing.
use Rattle.std.proofs.Common.{rules}
use Prim.Native.Nat.{ℕ, ◌+◌, ◌-◌}
use native.Mathlib.Omega.{arith}
use mathlib.Core.Path.{◌≡◌, refl, subst}
use Rattle.block.proofs.Numbers.{bytes_of}
use Rattle.layout.specs.Image.{decode}
use Rattle.image_edits.proofs.Blocks.{image_decoded, canonical_blocks}
use Rattle.image_edits.proofs.Opening.{Opening, opening_none, opening_size, opening_laid, opening_more, opened}
use Rattle.image_edits.proofs.open_place.Goals as goal

pub loop-to-init : goal.loop-to-init
loop-to-init c = let img = c.args.image.now in
    let p = c.requires in
    let n = c.args.count in
    let small = bytes_of img c.type_inv.image in
    let back : n ≡ n + 1 - 1 = omega arith in
    subst (λ (k : ℕ). Opening (decode img) c.args.i k img) back (opening_none (decode img) (image_decoded img small p.0) c.args.i img n p.2 p.3 (canonical_blocks img small p.0 p.1))

pub renumber-requires : goal.renumber-requires
renumber-requires c = let img = c.args.image.now in
    let p = c.requires in
    let l = c.loop-to in
    let S = image_decoded img (bytes_of img (search rules)) p.0 in
    (opening_size (decode img) S c.args.i l.image _ l.image (l.to - 1) l.invariant (omega (arith, p.2)) (omega arith) c.move_up.ensures, opening_laid (decode img) S c.args.i l.image _ l.image (l.to - 1) l.invariant (omega (arith, p.2)) (omega arith) c.move_up.ensures)

pub loop-to-preserved : goal.loop-to-preserved
loop-to-preserved c = let img = c.args.image.now in
    let p = c.requires in
    let l = c.loop-to in
    let S = image_decoded img (bytes_of img (search rules)) p.0 in
    opening_more (decode img) S c.args.i l.image _ _ (l.to - 1) l.invariant (omega (arith, p.2)) (omega arith) c.move_up.ensures _ c.renumber.ensures refl

pub returns : goal.returns
returns c = let img = c.args.image.now in
    let p = c.requires in
    let l = c.loop-to in
    opened (decode img) (image_decoded img (bytes_of img (search rules)) p.0) c.args.i l.image _ (l.to - 1) c.args.k _ (search rules) (search rules) (omega (arith, p.2)) l.invariant (omega arith) c.write_empty.ensures refl
