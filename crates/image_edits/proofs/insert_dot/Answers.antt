-- `image_edits::insert_dot` meets its contract. One part edited and sealed is that block put anew (Lifting). Assumes nothing.
use mathlib.Core.Path.{refl, ap, ◌∙◌}
use native.Mathlib.Omega.{arith}
use lib.ListN.{length}
use Prim.Native.Nat.{ℕ}
use Rattle.block.proofs.Numbers.{bytes_of}
use Rattle.layout.specs.Image.{decode}
use Rattle.image_edits.specs.Edits.{list_of}
use Rattle.image_edits.proofs.Lifting.{list_part_laid, list_part_says, insert_done}
use borrow.Author.Rules.{rules}
use Rattle.image_edits.proofs.insert_dot.Goals as goal

pub insert_dot-requires : goal.insert_dot-requires
insert_dot-requires c =
    let img = c.args.image.now in let small = bytes_of c.args.image.now (search rules) in let p = c.requires in let q = c.block-at.ensures in
    let says = list_part_says img small p.0 p.1 c.block-at.result q.1 q.2 ∙ ap (list_of (decode img)) q.0 in
    (omega arith, list_part_laid img small p.0 p.1 c.block-at.result q.1 q.2, omega (arith, ap length says, p.2), omega (arith, ap length says, p.3))

pub returns : goal.returns
returns c =
    let img = c.args.image.now in let small = bytes_of c.args.image.now (search rules) in let p = c.requires in let q = c.block-at.ensures in
    let same = ap (λ (k : ℕ). length (list_of (decode img) k)) q.0 in
    insert_done img small p.0 p.1 c.block-at.result q.1 q.2 _ _ _ _ (omega arith) refl c.seal_block.ensures refl q.0 c.args.i (record { dot = c.args.d; key = c.args.k })
    (record { who = search rules; count = search rules; job = search rules; point = search rules }) (omega (arith, same, p.2)) (omega (arith, same, p.3)) c.insert_dot.ensures
