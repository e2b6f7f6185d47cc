-- An image is what a state encodes to just where each of its blocks is. Assumes nothing.
use Prim.Native.Nat.{ℕ, zero, suc, ◌+◌, ◌*◌, ◌-◌, ◌^◌, ◌≤◌, ◌<◌}
use mathlib.Core.Path.{◌≡◌, refl, ap, sym, ◌∙◌, subst}
use mathlib.Core.List.{List, [], ◌∷◌, ◌++◌, append_assoc}
use native.Mathlib.Nat.{le_of_suc-le-suc}
use native.Mathlib.Omega.{arith}
use lib.ListN.{length, take, get_or, length-replicate, replicate-append-replicate}
use lib.Seq.{drop_at, take_at}
use lib.Dec.{ltb, eqb}
use borrow.Author.Tests.{ltb-true, ltb-false, eqb-true}
use Rattle.numbers.specs.declared.Counter.{Counter}
use Rattle.numbers.proofs.Tests.{by_test, ◌∈◌, here, there}
use Rattle.numbers.proofs.Lists.{all_in}
use Rattle.block.specs.Fields.{cut, splice, zeros, upto}
use Rattle.block.specs.Block.{block_at}
use Rattle.block.proofs.Numbers.{Bytes}
use Rattle.block.proofs.Arrays.{in_upto}
use Rattle.block.proofs.Parts.{splice_same, splice_before, splice_after}
use Rattle.block.proofs.Content.{block_first, block_next, block_length, same_blocks}
use Rattle.block.proofs.Runs.{block_bytes}
use Rattle.meaning.specs.Object.{no_object}
use Rattle.meaning.specs.State.{Stored, State}
use Rattle.meaning.specs.Settle.{most_points}
use Rattle.layout.specs.PointBlock.{form_1, encode_stored, decode_stored}
use Rattle.layout.specs.Image.{image_length, head_of, encode_head, encode_dots, encode_points, encode, decode}
use Rattle.layout.proofs.ImageBack.{StoredSized, AllSized, stored_length, points_length, Sized, image_size, block_0, block_1, block_2, block_3, decode_encode}
use Rattle.layout.proofs.Decoded.{head_decoded, dots_decoded, stored_decoded}
use Rattle.image.specs.Places.{no_point}
use Rattle.image.proofs.Counted.{points_are, stored_few, points_few}

-- ---- blocks of zeros

zeros_cut : (n o m : ℕ) → o + m ≤ n → cut (zeros n) o m ≡ zeros m
zeros_cut n o m h =
    ap (λ (k : ℕ). cut (zeros k) o m) all
    ∙ ap (λ (l : List ℕ). cut l o m) (sym (replicate-append-replicate {A = ℕ} o (m + (n - o - m)) 0))
    ∙ ap (take m) (drop_at (zeros o) (zeros (m + (n - o - m))) o (length-replicate {A = ℕ} o 0) ∙ sym (replicate-append-replicate {A = ℕ} m (n - o - m) 0))
    ∙ take_at (zeros m) (zeros (n - o - m)) m (length-replicate {A = ℕ} m 0)
  where
    all : n ≡ o + (m + (n - o - m))
    all = omega arith

-- ---- the points one after the other, and zeros

stored_block : (p m : ℕ) (ps : List Stored) (rest : List ℕ) (j : ℕ) → AllSized ps → j < length ps → block_at (encode_points p ps ++ rest) j ≡ encode_stored form_1 (p + j) (get_or ps j no_point)
unfolding encode_points
stored_block p m [] rest j S l = absurd (omega arith)
stored_block p m (x ∷ ps) rest zero S l =
    ap (λ (z : List ℕ). block_at z 0) (append_assoc (encode_stored form_1 p x) (encode_points (p + 1) ps) rest)
    ∙ block_first (encode_stored form_1 p x) (encode_points (p + 1) ps ++ rest) (stored_length p x (S x (here refl)))
    ∙ ap (λ (n : ℕ). encode_stored form_1 n x) same
  where
    same : p ≡ p + 0
    same = omega arith
stored_block p m (x ∷ ps) rest (suc j) S l =
    ap (λ (z : List ℕ). block_at z (suc j)) (append_assoc (encode_stored form_1 p x) (encode_points (p + 1) ps) rest)
    ∙ block_next (encode_stored form_1 p x) (encode_points (p + 1) ps ++ rest) j (stored_length p x (S x (here refl)))
    ∙ stored_block (p + 1) m ps rest j (λ y h. S y (there h)) (le_of_suc-le-suc l)
    ∙ ap (λ (n : ℕ). encode_stored form_1 n (get_or ps j no_point)) same
  where
    same : p + 1 + j ≡ p + suc j
    same = omega arith

free_block : (p m : ℕ) (ps : List Stored) (j : ℕ) → AllSized ps → length ps ≤ j → j < m → block_at (encode_points p ps ++ zeros (512 * (m - length ps))) j ≡ zeros 512
unfolding block_at
free_block p m ps j S h l =
    Rattle.block.proofs.Parts.cut_past (encode_points p ps) (zeros (512 * (m - length ps))) (512 * length ps) (512 * j) 512 (points_length p ps S) (omega arith)
    ∙ zeros_cut (512 * (m - length ps)) (512 * j - 512 * length ps) 512 (omega arith)

-- ---- the image

pub record Blocks (s : State) (img : List ℕ) : Type 0 where
  pub size : length img ≡ image_length
  pub head : block_at img 0 ≡ encode_head (head_of s)
  pub own : block_at img 1 ≡ encode_dots 1 s.own_dots
  pub foreign : block_at img 2 ≡ encode_dots 2 s.foreign_dots
  pub stored : (j : ℕ) → j < length s.points → block_at img (3 + j) ≡ encode_stored form_1 (3 + j) (get_or s.points j no_point)
  pub free : (j : ℕ) → length s.points ≤ j → j < most_points → block_at img (3 + j) ≡ zeros 512

pub blocks_of : (s : State) → Sized s → Blocks s (encode s)
blocks_of s S = record {
  size = image_size s S;
  head = block_0 s S;
  own = block_1 s S;
  foreign = block_2 s S;
  stored = λ j l. block_3 s S j ∙ stored_block 3 most_points s.points (zeros (512 * (most_points - length s.points))) j S.points l;
  free = λ j h l. block_3 s S j ∙ free_block 3 most_points s.points j S.points h l;
}

-- two images with the blocks of one state are the same
pub blocks_same : (s : State) (a b : List ℕ) → Blocks s a → Blocks s b → a ≡ b
blocks_same s a b A B = same_blocks 67 a b A.size B.size each
  where
    each : (k : ℕ) → k < 67 → block_at a k ≡ block_at b k
    each zero l = A.head ∙ sym B.head
    each (suc zero) l = A.own ∙ sym B.own
    each (suc (suc zero)) l = A.foreign ∙ sym B.foreign
    each (suc (suc (suc j))) l =
        by_test (ltb j (length s.points))
        (λ t. ap (block_at a) there ∙ A.stored j (ltb-true j (length s.points) t) ∙ sym (B.stored j (ltb-true j (length s.points) t)) ∙ ap (block_at b) (sym there))
        (λ t. ap (block_at a) there ∙ A.free j (ltb-false j (length s.points) t) (omega arith) ∙ sym (B.free j (ltb-false j (length s.points) t) (omega arith)) ∙ ap (block_at b) (sym there))
      where
        there : suc (suc (suc j)) ≡ 3 + j
        there = omega arith

-- ---- an image of bytes

module _ (img : List ℕ) (small : Bytes img) (size : length img ≡ image_length) where
  block_ok : (k : ℕ) → k < 67 → length (block_at img k) ≡ 512
  block_ok k l = block_length img k (omega arith)

  pub image_decoded : Sized (decode img)
  image_decoded = record {
    head = unfold decode in head_decoded (block_at img 0) (block_bytes img small 0) (block_ok 0 (omega arith));
    own = unfold decode in dots_decoded (block_at img 1) (block_bytes img small 1) (block_ok 1 (omega arith));
    foreign = unfold decode in dots_decoded (block_at img 2) (block_bytes img small 2) (block_ok 2 (omega arith));
    few = points_few img;
    points = subst AllSized (sym (points_are img)) each;
  }
    where
      each : AllSized (upto (Rattle.image.specs.Parts.stored_count img) (λ i. decode_stored form_1 (block_at img (3 + i))))
      each p m =
          let q = in_upto (Rattle.image.specs.Parts.stored_count img) (λ i. decode_stored form_1 (block_at img (3 + i))) m in
          subst StoredSized (sym q.2) (stored_decoded (block_at img (3 + q.0)) (block_bytes img small (3 + q.0)) (block_ok (3 + q.0) (omega (arith, q.1, stored_few img))))

  pub canonical_blocks : encode (decode img) ≡ img → Blocks (decode img) img
  canonical_blocks e = subst (Blocks (decode img)) e (blocks_of (decode img) image_decoded)

-- an image that has the blocks of a state says that state, and is laid out as it should be
pub says : (s : State) (x : List ℕ) → Sized s → Blocks s x → (decode x ≡ s) × (encode (decode x) ≡ x)
says s x S B =
    let is : x ≡ encode s = blocks_same s x (encode s) B (blocks_of s S) in
    let back : decode x ≡ s = ap decode is ∙ decode_encode s S in
    (back, ap encode back ∙ sym is)

-- ---- one block put anew

module _ (img : List ℕ) (k : ℕ) (b : List ℕ) (fits : 512 * k + 512 ≤ length img) (size : length b ≡ 512) where
  pub this_block : block_at (splice img (512 * k) 512 b) k ≡ b
  unfolding block_at
  this_block = splice_same img (512 * k) 512 b fits size

  pub other_block : (j : ℕ) → (j ≡ k → ⊥) → block_at (splice img (512 * k) 512 b) j ≡ block_at img j
  unfolding block_at
  other_block j h =
      by_test (ltb j k) (λ t. splice_before img (512 * k) 512 b fits size (512 * j) 512 (omega (arith, ltb-true j k t)))
      (λ t. by_test (ltb k j) (λ u. splice_after img (512 * k) 512 b fits size (512 * j) 512 (omega (arith, ltb-true k j u)))
      (λ u. absurd (h (omega (arith, ltb-false j k t, ltb-false k j u)))))

-- an empty context's counters are small
pub no_context_small : (e : Counter) → e ∈ no_object.context → e.0 < 256 ^ 4
no_context_small e m =
    let z : (x : Counter) → x ∈ no_object.context → x.0 ≡ 0 = all_nought in
    omega (arith, z e m)
  where
    all_nought : (x : Counter) → x ∈ no_object.context → x.0 ≡ 0
    all_nought x m = eqb-true x.0 0 (all_in (λ y. eqb y.0 0) no_object.context refl m)
