-- What is read of a made block: its kind, and the parts of its content. Assumes nothing.
use Prim.Native.Nat.{ℕ, zero, suc, ◌+◌, ◌*◌, ◌-◌, ◌≤◌, ◌<◌}
use mathlib.Core.Path.{◌≡◌, refl, ap, ap₂, sym, ◌∙◌}
use mathlib.Core.Bool.{true}
use mathlib.Core.List.{List, [], ◌∷◌, ◌++◌}
use native.Mathlib.Omega.{arith}
use lib.ListN.{length, take, drop, length-append, length-drop}
use Rattle.block.specs.Fields.{le, number, cut, field, pad}
use Rattle.block.specs.Check.{sums, seal, sealed}
use Rattle.block.specs.Block.{body, make_block, block_at}
use Rattle.block.proofs.Numbers.{le_length, number_le}
use Rattle.block.proofs.Parts.{cut_past, cut_within, cut_first, pad_length, cut_pad}
use Rattle.block.proofs.Checked.{seal_length, seal_sealed}

module _ (kind format position : ℕ) (content : List ℕ) (short : length content ≤ 504) where
  abbrev here : List ℕ
  here = body kind format position content

  pub body_length : length (body kind format position content) ≡ 508
  body_length = simp (length-append, le_length, pad_length 504 content short) (omega arith)

  pub make_block_length : length (make_block kind format position content) ≡ 512
  unfolding make_block
  make_block_length = seal_length here body_length

  pub make_block_sealed : sealed (make_block kind format position content) ≡ true
  unfolding make_block
  make_block_sealed = seal_sealed here body_length

  -- a part before the check
  cut_body : (o n : ℕ) → o + n ≤ 508 → cut (make_block kind format position content) o n ≡ cut here o n
  unfolding make_block seal
  cut_body o n h = cut_within here (le 2 (sums here).s1 ++ le 2 (sums here).s2) o n (omega (arith, body_length))

  -- a part of the content, which starts at 4
  pub cut_content : (o n : ℕ) → 4 ≤ o → o - 4 + n ≤ length content → cut (make_block kind format position content) o n ≡ cut content (o - 4) n
  cut_content o n l h =
      cut_body o n (omega arith)
      ∙ cut_past (le 1 kind) (le 1 format ++ (le 2 position ++ pad 504 content)) 1 o n (le_length 1 kind) (omega arith)
      ∙ cut_past (le 1 format) (le 2 position ++ pad 504 content) 1 (o - 1) n (le_length 1 format) (omega arith)
      ∙ cut_past (le 2 position) (pad 504 content) 2 (o - 1 - 1) n (le_length 2 position) (omega arith)
      ∙ ap (λ (i : ℕ). cut (pad 504 content) i n) there
      ∙ cut_pad 504 content (o - 4) n h
    where
      there : o - 1 - 1 - 2 ≡ o - 4
      there = omega arith

  pub kind_of : kind < 256 → field (make_block kind format position content) 0 1 ≡ kind
  unfolding field
  kind_of h =
      ap number (cut_body 0 1 (omega arith) ∙ cut_first (le 1 kind) (le 1 format ++ (le 2 position ++ pad 504 content)) 1 (le_length 1 kind))
      ∙ number_le 1 kind (omega arith)

  pub format_of : format < 256 → field (make_block kind format position content) 1 1 ≡ format
  unfolding field
  format_of h =
      ap number
      (cut_body 1 1 (omega arith)
      ∙ cut_past (le 1 kind) (le 1 format ++ (le 2 position ++ pad 504 content)) 1 1 1 (le_length 1 kind) (omega arith)
      ∙ cut_first (le 1 format) (le 2 position ++ pad 504 content) 1 (le_length 1 format))
      ∙ number_le 1 format (omega arith)

  pub position_of : position < 65536 → field (make_block kind format position content) 2 2 ≡ position
  unfolding field
  position_of h =
      ap number
      (cut_body 2 2 (omega arith)
      ∙ cut_past (le 1 kind) (le 1 format ++ (le 2 position ++ pad 504 content)) 1 2 2 (le_length 1 kind) (omega arith)
      ∙ cut_past (le 1 format) (le 2 position ++ pad 504 content) 1 1 2 (le_length 1 format) (omega arith)
      ∙ cut_first (le 2 position) (pad 504 content) 2 (le_length 2 position))
      ∙ number_le 2 position (omega arith)

-- ---- blocks one after the other

pub block_first : (b rest : List ℕ) → length b ≡ 512 → block_at (b ++ rest) 0 ≡ b
unfolding block_at
block_first b rest e = cut_first b rest 512 e

pub block_next : (b rest : List ℕ) (k : ℕ) → length b ≡ 512 → block_at (b ++ rest) (suc k) ≡ block_at rest k
unfolding block_at
block_next b rest k e =
    let there : 512 * suc k - 512 ≡ 512 * k = omega arith in
    cut_past b rest 512 (512 * suc k) 512 e (omega arith) ∙ ap (λ (o : ℕ). cut rest o 512) there

pub block_length : (run : List ℕ) (k : ℕ) → 512 * k + 512 ≤ length run → length (block_at run k) ≡ 512
unfolding block_at
block_length run k h = Rattle.block.proofs.Parts.length_cut run (512 * k) 512 h

-- two runs of n blocks whose blocks are the same are the same
pub same_blocks : (n : ℕ) (a b : List ℕ) → length a ≡ 512 * n → length b ≡ 512 * n → ((k : ℕ) → k < n → block_at a k ≡ block_at b k) → a ≡ b
unfolding block_at
same_blocks zero a b p q h = none a (omega arith) ∙ sym (none b (omega arith))
  where
    none : (l : List ℕ) → length l ≡ 0 → l ≡ []
    none [] e = refl
    none (x ∷ xs) e = absurd (omega arith)
same_blocks (suc n) a b p q h =
    let first : take 512 a ≡ take 512 b = h 0 (omega arith) in
    let rest : drop 512 a ≡ drop 512 b =
    same_blocks n (drop 512 a) (drop 512 b) (length-drop 512 a ∙ omega arith) (length-drop 512 b ∙ omega arith) (λ k l. later a k ∙ h (suc k) (omega arith) ∙ sym (later b k)) in
    sym (lib.ListN.take-append-drop 512 a) ∙ ap₂ ◌++◌ first rest ∙ lib.ListN.take-append-drop 512 b
  where
    later : (l : List ℕ) (k : ℕ) → take 512 (drop (512 * k) (drop 512 l)) ≡ take 512 (drop (512 * suc k) l)
    later l k = ap (take 512) (lib.Seq.drop-drop (512 * k) 512 l ∙ ap (λ (i : ℕ). drop i l) there)
      where
        there : 512 + 512 * k ≡ 512 * suc k
        there = omega arith
