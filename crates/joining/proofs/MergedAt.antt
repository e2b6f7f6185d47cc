-- A record of the image merged in its place. Assumes nothing.
use Prim.Native.Nat.{ℕ, ◌+◌, ◌-◌, ◌*◌, ◌≤◌, ◌<◌}
use mathlib.Core.Path.{◌≡◌, refl, ap, sym, ◌∙◌, subst}
use mathlib.Core.List.{List, ◌++◌}
use native.Mathlib.Omega.{arith}
use lib.ListN.{length, take, drop, get_or}
use Rattle.numbers.specs.Words.{map}
use Rattle.numbers.specs.Numbers.{counter}
use Rattle.block.specs.Fields.{cut, put_at}
use Rattle.block.specs.Check.{seal}
use Rattle.block.specs.Block.{Laid}
use Rattle.block.proofs.Numbers.{Bytes, bytes_cut}
use Rattle.block.proofs.Parts.{part_back, splice_same}
use Rattle.meaning.specs.Context.{higher}
use Rattle.meaning.specs.Object.{Object, merge}
use Rattle.meaning.specs.State.{Stored}
use Rattle.layout.specs.PointBlock.{form_1, unsent, encode_stored, decode_point, decode_stored}
use Rattle.layout.specs.Image.{image_length, decode}
use Rattle.layout.proofs.ImageBack.{StoredSized, stored_length}
use Rattle.layout.proofs.Decoded.{stored_decoded}
use Rattle.record_edits.specs.Written.{Written, lay_point, point_block, with_object}
use Rattle.image.specs.Places.{no_point}
use Rattle.image_edits.specs.Edits.{Canonical, with_points}
use Rattle.image_edits.proofs.Blocks.{image_decoded}
use Rattle.image_edits.proofs.Moved.{Put}
use Rattle.image_edits.proofs.Lifting.{part_sealed, point_lifted}
use Rattle.store.proofs.Stripped.{says}
use Rattle.merging.specs.Merging.{ours, theirs, with_context}

-- ---- in a block

module _ (b m here there x : List ℕ) (full : higher (decode_point form_1 b).object.context (map counter here) ≡ map counter here)
    (raised : point_block x ≡ with_context (point_block b) (higher (decode_point form_1 b).object.context (map counter here))) where
  now_says : point_block x ≡ with_object (point_block b) (ours b here)
  now_says = raised ∙ ap (with_context (point_block b)) full

  object_now : (decode_point form_1 x).object ≡ ours b here
  object_now = ap (λ (w : Written). w.point.object) now_says

  pub raised_context : (decode_point form_1 x).object.context ≡ map counter here
  raised_context = ap (λ (o : Object). o.context) object_now

  -- what is known of the raised object is known of its block
  pub of_raised : (P : Object → Type 0) → P (ours b here) → P (decode_point form_1 x).object
  of_raised P h = subst P (sym object_now) h

  pub block_merged : (y : List ℕ) → (point_block y ≡ with_object (point_block x) (merge (decode_point form_1 x).object (theirs m there))) × Laid lay_point point_block y
      → (point_block y ≡ with_object (point_block b) (merge (ours b here) (theirs m there))) × Laid lay_point point_block y
  block_merged y e = (e.0 ∙ ap (λ (w : Written). with_object w (merge w.point.object (theirs m there))) now_says, e.1)

-- ---- in the image

module _ (img : List ℕ) (small : Bytes img) (size : length img ≡ image_length) (canonical : Canonical img) (i : ℕ) (inside : i < length (decode img).points) where
  abbrev lent : List ℕ
  lent = take (512 * (3 + i) + 512 - 512 * (3 + i)) (drop (512 * (3 + i)) img)

  abbrev p : Stored
  p = get_or (decode img).points i no_point

  lent_object : (decode_point form_1 lent).object ≡ p.object
  lent_object = ap (λ (w : Written). w.point.object) (says img small size canonical i inside).0

  -- what is known of the record is known of its block
  pub of_block : (P : Object → Type 0) → P (get_or (decode img).points i no_point).object → P (decode_point form_1 (take (512 * (3 + i) + 512 - 512 * (3 + i)) (drop (512 * (3 + i)) img))).object
  of_block P h = subst P (sym lent_object) h

  module _ (x y b c : List ℕ) (later : Bytes x) (o : Object → Object) (ok : length b ≡ 512) (edit : (point_block b ≡ with_object (point_block lent) (o (decode_point form_1 lent).object)) × Laid lay_point point_block b)
      (d : x ≡ take (512 * (3 + i)) img ++ (b ++ drop (512 * (3 + i) + 512 - 512 * (3 + i)) (drop (512 * (3 + i)) img)))
      (e : c ≡ seal (take 508 (take (512 * (3 + i) + 512 - 512 * (3 + i)) (drop (512 * (3 + i)) x))))
      (f : y ≡ take (512 * (3 + i)) x ++ (c ++ drop (512 * (3 + i) + 512 - 512 * (3 + i)) (drop (512 * (3 + i)) x))) where
    abbrev q : Stored
    q = record { key = (get_or (decode img).points i no_point).key; object = o (get_or (decode img).points i no_point).object }

    room : 512 * (3 + i) + 512 ≤ length img
    room = omega (arith, size, inside, (image_decoded img small size).few)

    there : point_block b ≡ record { kind = 3; position = 3 + i; point = unsent q }
    there = edit.0 ∙ ap (λ (w : Written). with_object w (o w.point.object)) (says img small size canonical i inside).0

    block_small : Bytes b
    block_small =
        subst Bytes (ap (λ (z : List ℕ). cut z (512 * (3 + i)) 512) (d ∙ part_back img (512 * (3 + i)) 512 b) ∙ splice_same img (512 * (3 + i)) 512 b room ok) (bytes_cut x (512 * (3 + i)) 512 later)

    is : decode_stored form_1 b ≡ q
    unfolding decode_stored
    is = ap (λ (w : Written). record { key = w.point.key; object = w.point.object }) there

    sized : StoredSized q
    sized = subst StoredSized is (stored_decoded b block_small ok)

    as_stored : lay_point (record { kind = 3; position = 3 + i; point = unsent q }) ≡ encode_stored form_1 (3 + i) q
    as_stored = unfold encode_stored in refl

    pub record_edited : (decode y ≡ with_points (decode img) (put_at (decode img).points i (record { key = (get_or (decode img).points i no_point).key; object = o (get_or (decode img).points i no_point).object }))) × Canonical y
    record_edited =
        point_lifted img small size canonical y i q inside sized
        (subst (Put img y (3 + i)) as_stored
        (part_sealed lay_point point_block img x y (3 + i) b c (record { kind = 3; position = 3 + i; point = unsent q }) room ok (ap length as_stored ∙ stored_length (3 + i) q sized) (there, edit.1) d e f))
