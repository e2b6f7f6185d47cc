-- A record put in another block, and renumbered there. Assumes nothing.
use Prim.Native.Nat.{ℕ, ◌+◌, ◌*◌, ◌-◌, ◌≤◌, ◌<◌}
use mathlib.Core.Path.{◌≡◌, ap, ◌∙◌}
use mathlib.Core.List.{List, ◌++◌}
use native.Mathlib.Omega.{arith}
use lib.ListN.{length, take, drop}
use Rattle.block.specs.Fields.{cut, splice}
use Rattle.block.specs.Block.{block_at, Laid}
use Rattle.block.proofs.Parts.{length_cut, splice_length, part_is, part_back}
use Rattle.meaning.specs.State.{Stored}
use Rattle.layout.specs.PointBlock.{form_1, encode_stored, decode_stored}
use Rattle.layout.specs.Image.{image_length}
use Rattle.layout.proofs.ImageBack.{StoredSized, stored_length, stored_back}
use Rattle.record_edits.specs.Written.{lay_point, point_block}
use Rattle.record_edits.proofs.Edits.{stored_laid}
use Rattle.image_edits.proofs.Blocks.{this_block, other_block}

-- the block of the k-th point holds p, and the others are as they were
pub record Put (img x : List ℕ) (k : ℕ) (b : List ℕ) : Type 0 where
  pub size : length x ≡ length img
  pub there : block_at x k ≡ b
  pub others : (j : ℕ) → (j ≡ k → ⊥) → block_at x j ≡ block_at img j

pub put : (img x : List ℕ) (k : ℕ) (b : List ℕ) → 512 * k + 512 ≤ length img → length b ≡ 512 → x ≡ splice img (512 * k) 512 b → Put img x k b
put img x k b h size e = record {
  size = ap length e ∙ splice_length img (512 * k) 512 b h size;
  there = ap (λ (z : List ℕ). block_at z k) e ∙ this_block img k b h size;
  others = λ j l. ap (λ (z : List ℕ). block_at z j) e ∙ other_block img k b h size j l;
}

-- moved from block f to block t, and then renumbered
module _ (img x y : List ℕ) (f t : ℕ) (p : Stored) (S : StoredSized p) (size : length img ≡ image_length) (hf : f < 67) (ht : t < 67) (was : block_at img f ≡ encode_stored form_1 f p)
    (moved : x ≡ splice img (512 * t) 512 (cut img (512 * f) 512)) where
  cut_size : length (cut img (512 * f) 512) ≡ 512
  cut_size = length_cut img (512 * f) 512 (omega arith)

  first : Put img x t (block_at img f)
  unfolding block_at
  first = put img x t (cut img (512 * f) 512) (omega arith) cut_size moved

  part : take (512 * t + 512 - 512 * t) (drop (512 * t) x) ≡ encode_stored form_1 f p
  part = part_is x (512 * t) 512 ∙ there ∙ was
    where
      there : cut x (512 * t) 512 ≡ block_at img f
      there = unfold block_at in first.there

  pub part_laid : Laid lay_point point_block (take (512 * t + 512 - 512 * t) (drop (512 * t) x))
  part_laid = stored_laid f p (take (512 * t + 512 - 512 * t) (drop (512 * t) x)) (omega arith) S (ap length part ∙ stored_length f p S) part

  pub part_size : length (take (512 * t + 512 - 512 * t) (drop (512 * t) x)) ≡ 512
  part_size = ap length part ∙ stored_length f p S

  pub renumbered_put : (b : List ℕ) → b ≡ encode_stored form_1 t (decode_stored form_1 (take (512 * t + 512 - 512 * t) (drop (512 * t) x))) → y ≡ take (512 * t) x ++ (b ++ drop (512 * t + 512 - 512 * t) (drop (512 * t) x))
      → Put img y t (encode_stored form_1 t p)
  renumbered_put b e d = record {
    size = second.size ∙ first.size;
    there = second.there;
    others = λ j l. second.others j l ∙ first.others j l;
  }
    where
      is : b ≡ encode_stored form_1 t p
      is = e ∙ ap (λ (z : List ℕ). encode_stored form_1 t (decode_stored form_1 z)) part ∙ ap (encode_stored form_1 t) (stored_back f p S)

      second : Put x y t (encode_stored form_1 t p)
      second = put x y t (encode_stored form_1 t p) (omega (arith, first.size)) (stored_length t p S) (d ∙ part_back x (512 * t) 512 b ∙ ap (splice x (512 * t) 512) is)
