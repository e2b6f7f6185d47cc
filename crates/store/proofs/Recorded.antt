-- A block copied to a record's place and renumbered is that record. Assumes nothing.
use Prim.Native.Nat.{ℕ, ◌+◌, ◌*◌, ◌-◌, ◌≤◌, ◌<◌}
use mathlib.Core.Path.{◌≡◌, ap, ap₂, ◌∙◌}
use mathlib.Core.List.{List, ◌++◌}
use native.Mathlib.Omega.{arith}
use lib.ListN.{length, take, drop}
use Rattle.block.specs.Fields.{cut, splice, put_at}
use Rattle.block.proofs.Numbers.{Bytes}
use Rattle.block.proofs.Parts.{part_is, part_back, splice_same, splice_again}
use Rattle.meaning.specs.State.{Stored}
use Rattle.layout.specs.PointBlock.{form_1, encode_stored, decode_stored}
use Rattle.layout.specs.Image.{image_length, decode}
use Rattle.layout.proofs.Decoded.{stored_decoded}
use Rattle.layout.proofs.ImageBack.{StoredSized, stored_length}
use Rattle.image_edits.specs.Edits.{Canonical, with_points}
use Rattle.image_edits.proofs.Blocks.{image_decoded}
use Rattle.image_edits.proofs.Moved.{put}
use Rattle.image_edits.proofs.Lifting.{point_lifted}

module _ (img : List ℕ) (bytes : Bytes img) (size : length img ≡ image_length) (i : ℕ) (inside : i < length (decode img).points) (b : List ℕ) (small : Bytes b) (long : length b ≡ 512)
    (x : List ℕ) (copied : x ≡ splice img (512 * (3 + i)) (length b) b) where
  fits : 512 * (3 + i) + 512 ≤ length img
  fits = omega (arith, size, inside, (image_decoded img bytes size).few)

  there : x ≡ splice img (512 * (3 + i)) 512 b
  there = copied ∙ ap (λ (n : ℕ). splice img (512 * (3 + i)) n b) long

  pub copied_part : take (512 * (3 + i) + 512 - 512 * (3 + i)) (drop (512 * (3 + i)) x) ≡ b
  copied_part = part_is x (512 * (3 + i)) 512 ∙ ap (λ (u : List ℕ). cut u (512 * (3 + i)) 512) there ∙ splice_same img (512 * (3 + i)) 512 b fits long

  pub record_written : Canonical img → (y c : List ℕ) → c ≡ encode_stored form_1 (3 + i) (decode_stored form_1 (take (512 * (3 + i) + 512 - 512 * (3 + i)) (drop (512 * (3 + i)) x)))
      → y ≡ take (512 * (3 + i)) x ++ (c ++ drop (512 * (3 + i) + 512 - 512 * (3 + i)) (drop (512 * (3 + i)) x))
      → (decode y ≡ with_points (decode img) (put_at (decode img).points i (decode_stored form_1 b))) × Canonical y
  record_written canonical y c e f =
      point_lifted img bytes size canonical y i p inside S
      (put img y (3 + i) (encode_stored form_1 (3 + i) p) fits (stored_length (3 + i) p S)
      (f ∙ part_back x (512 * (3 + i)) 512 c ∙ ap₂ (λ (u v : List ℕ). splice u (512 * (3 + i)) 512 v) there is ∙ splice_again img (512 * (3 + i)) 512 b fits long (encode_stored form_1 (3 + i) p)))
    where
      p : Stored
      p = decode_stored form_1 b

      S : StoredSized (decode_stored form_1 b)
      S = stored_decoded b small long

      is : c ≡ encode_stored form_1 (3 + i) (decode_stored form_1 b)
      is = e ∙ ap (λ (u : List ℕ). encode_stored form_1 (3 + i) (decode_stored form_1 u)) copied_part
