-- The stored blocks of an image: how many there are, and what they say. Assumes nothing.
use Prim.Native.Nat.{ℕ, zero, suc, ◌+◌, ◌*◌, ◌≤◌, ◌<◌}
use mathlib.Core.Path.{◌≡◌, refl, ap, sym, ◌∙◌, subst}
use mathlib.Core.Logic.{◌⊎◌, inl, inr, ⊎_elim}
use mathlib.Core.Bool.{Bool, true, false, ◌&&◌}
use mathlib.Core.List.{List, ◌∷◌}
use native.Mathlib.Omega.{arith}
use native.Mathlib.Nat.{le_of_suc-le-suc, add-zero}
use lib.ListN.{length}
use lib.Dec.{eqb, ltb}
use borrow.Author.Tests.{eq-eqb, ne_eqb, lt-ltb}
use Rattle.std.specs.declared.option.Option.{Option}
use Rattle.std.specs.declared.option.Option.TheVariants.{None, Some}
use Rattle.std.specs.Option.{MatchOption, unwrap_or}
use Rattle.numbers.specs.Words.{all?, map}
use Rattle.numbers.proofs.Tests.{by_test, and_both}
use Rattle.numbers.proofs.Lists.{in_all}
use Rattle.block.specs.Fields.{field, upto}
use Rattle.block.specs.Block.{block_at}
use Rattle.block.proofs.Numbers.{Bytes}
use Rattle.block.proofs.Arrays.{upto_length, map_upto}
use Rattle.block.proofs.Content.{block_length}
use Rattle.block.proofs.Runs.{block_bytes}
use Rattle.parts.proofs.Lookup.{field_of_cut}
use Rattle.meaning.specs.CrewTable.{is_table}
use Rattle.meaning.specs.State.{Stored}
use Rattle.meaning.specs.Settle.{most_points}
use Rattle.layout.specs.PointBlock.{form_1, decode_stored}
use Rattle.layout.specs.Image.{image_length, decode_head, until_zero, decode, encode, good_image}
use Rattle.layout.proofs.Decoded.{head_decoded, dots_decoded}
use Rattle.image.specs.Parts.{stored_count, parts_laid_out, parts_good}
use Rattle.image.proofs.GoodParts.{Shape, good_by_parts}
use Rattle.image.proofs.LaidOut.{laid_out_by_parts}

-- ---- the blocks up to the first of kind 0

-- n of them have a kind, and then they end or one has none
pub until_is : (m : ℕ) (f : ℕ → List ℕ) (n : ℕ) → n ≤ m → ((i : ℕ) → i < n → field (f i) 0 1 ≡ 0 → ⊥) → (n ≡ m) ⊎ (field (f n) 0 1 ≡ 0) → until_zero (upto m f) ≡ upto n f
until_is zero f zero l h z = refl
until_is zero f (suc n) l h z = absurd (omega arith)
until_is (suc m) f zero l h z = ⊎_elim (λ e. absurd (omega arith)) (λ e. rw e) z
until_is (suc m) f (suc n) l h z =
    let rest = until_is m (λ i. f (suc i)) n (le_of_suc-le-suc l) (λ i k. h (suc i) (omega arith)) (mathlib.Core.Logic.⊎_map (λ e. omega arith) (λ e. e) z) in
    let first : eqb (field (f 0) 0 1) 0 ≡ false = ne_eqb (field (f 0) 0 1) 0 (h 0 (omega arith)) in
    goes_on (f 0) (upto m (λ i. f (suc i))) first ∙ ap (λ (bs : List (List ℕ)). f 0 ∷ bs) rest
  where
    goes_on : (x : List ℕ) (bs : List (List ℕ)) → eqb (field x 0 1) 0 ≡ false → until_zero (x ∷ bs) ≡ x ∷ until_zero bs
    goes_on x bs e = rw e

pub count_is : (img : List ℕ) (n : ℕ) → n ≤ most_points → ((i : ℕ) → i < n → field (block_at img (3 + i)) 0 1 ≡ 0 → ⊥) → (n ≡ most_points) ⊎ (field (block_at img (3 + n)) 0 1 ≡ 0) → stored_count img ≡ n
unfolding stored_count
count_is img n l h z = ap length (until_is most_points (λ i. block_at img (3 + i)) n l h z) ∙ upto_length n (λ i. block_at img (3 + i))

-- a block's kind is read in the image
pub kind_at : (img : List ℕ) (k : ℕ) → field (block_at img k) 0 1 ≡ field img (512 * k) 1
unfolding block_at
kind_at img k = field_of_cut img (512 * k) 512 0 1 (omega arith) ∙ ap (λ (o : ℕ). field img o 1) (add-zero (512 * k))

-- r is where the first block of kind 0 was found
pub counted : (img : List ℕ) (r : Option ℕ)
    → MatchOption r ((k : ℕ) → 0 ≤ k → k < most_points → field img (512 * (3 + k)) 1 ≡ 0 → ⊥)
    (λ n. (0 ≤ n) × (n < most_points) × (field img (512 * (3 + n)) 1 ≡ 0) × ((k : ℕ) → 0 ≤ k → k < n → field img (512 * (3 + k)) 1 ≡ 0 → ⊥))
    → unwrap_or r most_points ≡ stored_count img
counted img None h = sym (count_is img most_points (omega arith) (λ i l z. h i (omega arith) l (sym (kind_at img (3 + i)) ∙ z)) (inl refl))
counted img (Some n) h = sym (count_is img n (omega (arith, h.1)) (λ i l z. h.3 i (omega arith) l (sym (kind_at img (3 + i)) ∙ z)) (inr (kind_at img (3 + n) ∙ h.2)))

-- the other way round: those before the count have a kind
until_prefix : (m : ℕ) (f : ℕ → List ℕ) → until_zero (upto m f) ≡ upto (length (until_zero (upto m f))) f
until_prefix zero f = refl
until_prefix (suc m) f =
    let rest = until_prefix m (λ i. f (suc i)) in
    by_test (eqb (field (f 0) 0 1) 0) (λ t. stop t) (λ t. go t rest)
  where
    stop : eqb (field (f 0) 0 1) 0 ≡ true → until_zero (upto (suc m) f) ≡ upto (length (until_zero (upto (suc m) f))) f
    stop t = rw t

    go : eqb (field (f 0) 0 1) 0 ≡ false → until_zero (upto m (λ i. f (suc i))) ≡ upto (length (until_zero (upto m (λ i. f (suc i))))) (λ i. f (suc i)) → until_zero (upto (suc m) f) ≡ upto (length (until_zero (upto (suc m) f))) f
    go t rest = rw t (λ k. f 0 ∷ rest k)

count_most : (m : ℕ) (f : ℕ → List ℕ) → length (until_zero (upto m f)) ≤ m
count_most zero f = omega arith
count_most (suc m) f = let rest = count_most m (λ i. f (suc i)) in by_test (eqb (field (f 0) 0 1) 0) (λ t. rw t (omega arith)) (λ t. rw t (omega arith))

pub stored_few : (img : List ℕ) → stored_count img ≤ most_points
unfolding stored_count
stored_few img = count_most most_points (λ i. block_at img (3 + i))

-- the points of an image are its stored blocks, each decoded
pub points_are : (img : List ℕ) → (decode img).points ≡ upto (stored_count img) (λ i. decode_stored form_1 (block_at img (3 + i)))
unfolding decode stored_count
points_are img =
    ap (map (decode_stored form_1)) (until_prefix most_points (λ i. block_at img (3 + i)))
    ∙ map_upto (decode_stored form_1) (length (until_zero (upto most_points (λ i. block_at img (3 + i))))) (λ i. block_at img (3 + i))

pub points_few : (img : List ℕ) → length (decode img).points ≤ most_points
points_few img =
    subst (λ (ps : List Stored). length ps ≤ most_points) (sym (points_are img)) (omega (arith, stored_few img, upto_length (stored_count img) (λ i. decode_stored form_1 (block_at img (3 + i)))))

-- ---- what every image of bytes has

module _ (img : List ℕ) (h : Bytes img) (e : length img ≡ image_length) where
  block_ok : (k : ℕ) → k < 67 → length (block_at img k) ≡ 512
  block_ok k l = block_length img k (omega arith)

  shape : Shape (decode img)
  unfolding decode
  shape =
      let H = head_decoded (block_at img 0) (block_bytes img h 0) (block_ok 0 (omega arith)) in
      record {
        table_good = unfold is_table in
            (and_both (eqb (length (decode_head (block_at img 0)).table) 8) (all? (λ b. ltb b 256) (decode_head (block_at img 0)).table)
            (eq-eqb (length (decode_head (block_at img 0)).table) 8 H.table_eight)
            (in_all (λ b. ltb b 256) (decode_head (block_at img 0)).table (λ b m. lt-ltb b 256 (H.table_bytes b m))));
        clock_eight = H.clock.eight;
        marks_eight = H.marks.eight;
        marks_rows = in_all (λ r. eqb (length r) 8) (decode_head (block_at img 0)).watermark (λ r m. eq-eqb (length r) 8 (H.marks.rows r m));
        own_few = (dots_decoded (block_at img 1) (block_bytes img h 1) (block_ok 1 (omega arith))).few;
        foreign_few = (dots_decoded (block_at img 2) (block_bytes img h 2) (block_ok 2 (omega arith))).few;
        points_few = points_few img;
      }

  -- an image is good just where its blocks are laid out and its parts are good
  pub good_image_by_parts : good_image img ≡ (parts_laid_out img && parts_good (decode img))
  unfolding good_image
  good_image_by_parts =
      ap (λ (b : Bool). (b && Rattle.numbers.specs.Words.same_list (encode (decode img)) img) && Rattle.meaning.specs.Good.good_state (decode img)) (eq-eqb (length img) image_length e)
      ∙ mathlib.Core.Path.ap₂ ◌&&◌ (laid_out_by_parts img h e) (good_by_parts (decode img) shape)
