-- An image is laid out as it should be just where its blocks are. Assumes nothing.
use Prim.Native.Nat.{ℕ, zero, suc, ◌+◌, ◌*◌, ◌-◌, ◌≤◌, ◌<◌}
use mathlib.Core.Path.{◌≡◌, ap, ap₂, sym, ◌∙◌, subst}
use mathlib.Core.Bool.{Bool, true, false, ◌&&◌}
use mathlib.Core.Logic.{⊎_elim}
use mathlib.Core.List.Memᴰ
use mathlib.Core.List.{List, [], ◌∷◌, ◌++◌, append_assoc}
use native.Mathlib.Omega.{arith}
use lib.ListN.{length, drop, length-append, length-drop, length-replicate}
use lib.Seq.{drop-drop}
use lib.Dec.{eqb}
use Rattle.numbers.specs.Words.{every, all?, map, same_list}
use Rattle.numbers.proofs.Tests.{by_test, and_group, and_one, ◌∈◌, here, there}
use Rattle.numbers.proofs.Lists.{in_map, map_length}
use Rattle.block.specs.Fields.{field, zeros, upto}
use Rattle.block.specs.Block.{block_at}
use Rattle.block.proofs.Numbers.{Bytes, bytes_drop}
use Rattle.block.proofs.Arrays.{upto_same, upto_length, in_upto}
use Rattle.block.proofs.Content.{block_length}
use Rattle.block.proofs.Runs.{block_bytes, block_zero, block_of_drop, block_later}
use Rattle.block.proofs.Same.{same_parts, same_zeros}
use Rattle.meaning.specs.State.{Stored}
use Rattle.meaning.specs.Settle.{most_points}
use Rattle.layout.specs.PointBlock.{form_1, encode_stored, decode_stored}
use Rattle.layout.specs.Image.{image_length, encode_head, decode_head, encode_dots, decode_dots, encode_points, encode, until_zero, decode}
use Rattle.layout.proofs.ImageBack.{head_length, dots_length, stored_length, points_length, StoredSized, AllSized}
use Rattle.layout.proofs.Decoded.{stored_decoded, dots_decoded, head_decoded}
use Rattle.image.specs.Parts.{stored_count, stored_laid_out, parts_laid_out}

-- ---- the points

-- the stored blocks among m blocks
abbrev used : ℕ → List ℕ → List (List ℕ)
used m r = until_zero (upto m (block_at r))

test : List ℕ → ℕ → Bool
test b k = same_list (encode_stored form_1 k (decode_stored form_1 b)) b

until_in : (bs : List (List ℕ)) {b : List ℕ} → b ∈ until_zero bs → b ∈ bs
until_in [] m = m
until_in (x ∷ xs) {b} m =
    by_test (eqb (field x 0 1) 0) (λ t. absurd (Memᴰ.not-nil (rw t at m)))
    (λ t. ⊎_elim here (λ k. there (until_in xs k)) (Memᴰ.cases_cons (rw t at m)))

used_sized : (m : ℕ) (r : List ℕ) → Bytes r → length r ≡ 512 * m → AllSized (map (decode_stored form_1) (used m r))
used_sized m r h e p k =
    let q = in_map (decode_stored form_1) (used m r) k in
    let b = in_upto m (block_at r) (until_in (upto m (block_at r)) q.1) in
    subst (λ (x : Stored). StoredSized x) (sym q.2)
    (stored_decoded q.0 (subst (λ (x : List ℕ). Bytes x) (sym b.2) (block_bytes r h b.0)) (subst (λ (x : List ℕ). length x ≡ 512) (sym b.2) (block_length r b.0 (omega (arith, b.1)))))

until_few : (bs : List (List ℕ)) → length (until_zero bs) ≤ length bs
until_few [] = omega arith
until_few (b ∷ bs) = let rest = until_few bs in by_test (eqb (field b 0 1) 0) (λ t. rw t (omega arith)) (λ t. rw t (omega arith))

used_few : (m : ℕ) (r : List ℕ) → length (used m r) ≤ m
used_few m r = omega (arith, until_few (upto m (block_at r)), upto_length m (block_at r))

points_same : (m position : ℕ) (r : List ℕ) → Bytes r → length r ≡ 512 * m
    → same_list (encode_points position (map (decode_stored form_1) (used m r)) ++ zeros (512 * (m - length (used m r)))) r
    ≡ (every (upto (length (used m r)) (λ i. test (block_at r i) (position + i))) && all? (λ x. eqb x 0) (drop (512 * length (used m r)) r))
unfolding encode_points test
points_same zero position r h e = same_zeros 0 r (omega arith)
points_same (suc m) position r h e = by_test (eqb (field (block_at r 0) 0 1) 0) none (λ t. some t (points_same m (position + 1) (drop 512 r) (bytes_drop 512 r h) (length-drop 512 r ∙ omega arith)))
  where
    later : upto m (λ i. block_at r (suc i)) ≡ upto m (block_at (drop 512 r))
    later = upto_same m (λ i. block_at r (suc i)) (block_at (drop 512 r)) (λ i l. sym (block_later r i))

    none_used : eqb (field (block_at r 0) 0 1) 0 ≡ true → used (suc m) r ≡ []
    none_used t = rw t

    some_used : eqb (field (block_at r 0) 0 1) 0 ≡ false → used (suc m) r ≡ block_at r 0 ∷ used m (drop 512 r)
    some_used t = ap (λ (bs : List (List ℕ)). until_zero (block_at r 0 ∷ bs)) later ∙ rw t

    Goal : List (List ℕ) → Type 0
    Goal bs =
        same_list (encode_points position (map (decode_stored form_1) bs) ++ zeros (512 * (suc m - length bs))) r
        ≡ (every (upto (length bs) (λ i. test (block_at r i) (position + i))) && all? (λ x. eqb x 0) (drop (512 * length bs) r))

    none : eqb (field (block_at r 0) 0 1) 0 ≡ true → Goal (used (suc m) r)
    none t = subst Goal (sym (none_used t)) (same_zeros (512 * (suc m - 0)) r (omega arith))

    some : eqb (field (block_at r 0) 0 1) 0 ≡ false
        → (same_list (encode_points (position + 1) (map (decode_stored form_1) (used m (drop 512 r))) ++ zeros (512 * (m - length (used m (drop 512 r))))) (drop 512 r)
        ≡ (every (upto (length (used m (drop 512 r))) (λ i. test (block_at (drop 512 r) i) (position + 1 + i))) && all? (λ x. eqb x 0) (drop (512 * length (used m (drop 512 r))) (drop 512 r))))
        → Goal (used (suc m) r)
    some t rest = subst Goal (sym (some_used t)) (first_and rest)
      where
        d_length : length (drop 512 r) ≡ 512 * m
        d_length = length-drop 512 r ∙ omega arith

        e0_length : length (encode_stored form_1 position (decode_stored form_1 (block_at r 0))) ≡ 512
        e0_length = stored_length position (decode_stored form_1 (block_at r 0)) (stored_decoded (block_at r 0) (block_bytes r h 0) (block_length r 0 (omega arith)))

        more_length : length (encode_points (position + 1) (map (decode_stored form_1) (used m (drop 512 r)))) ≡ 512 * length (used m (drop 512 r))
        more_length =
            points_length (position + 1) (map (decode_stored form_1) (used m (drop 512 r))) (used_sized m (drop 512 r) (bytes_drop 512 r h) d_length)
            ∙ ap (λ (n : ℕ). 512 * n) (map_length (decode_stored form_1) (used m (drop 512 r)))

        fewer : 512 * (suc m - suc (length (used m (drop 512 r)))) ≡ 512 * (m - length (used m (drop 512 r)))
        fewer = omega arith

        past : (n : ℕ) → drop (512 * suc n) r ≡ drop (512 * n) (drop 512 r)
        past n = sym (drop-drop (512 * n) 512 r ∙ ap (λ (o : ℕ). drop o r) there)
          where
            there : 512 + 512 * n ≡ 512 * suc n
            there = omega arith

        here_zero : position ≡ position + 0
        here_zero = omega arith

        next : (i : ℕ) → position + 1 + i ≡ position + suc i
        next i = omega arith

        tests_on : every (upto (length (used m (drop 512 r))) (λ i. test (block_at (drop 512 r) i) (position + 1 + i))) ≡ every (upto (length (used m (drop 512 r))) (λ i. test (block_at r (suc i)) (position + suc i)))
        tests_on =
            ap every
            (upto_same (length (used m (drop 512 r))) (λ i. test (block_at (drop 512 r) i) (position + 1 + i)) (λ i. test (block_at r (suc i)) (position + suc i))
            (λ i l. ap₂ test (block_later r i) (next i)))

        first_and : (same_list (encode_points (position + 1) (map (decode_stored form_1) (used m (drop 512 r))) ++ zeros (512 * (m - length (used m (drop 512 r))))) (drop 512 r)
            ≡ (every (upto (length (used m (drop 512 r))) (λ i. test (block_at (drop 512 r) i) (position + 1 + i))) && all? (λ x. eqb x 0) (drop (512 * length (used m (drop 512 r))) (drop 512 r))))
            → Goal (block_at r 0 ∷ used m (drop 512 r))
        first_and ih =
            ap (λ (l : List ℕ). same_list l r)
            (append_assoc (encode_stored form_1 position (decode_stored form_1 (block_at r 0))) (encode_points (position + 1) (map (decode_stored form_1) (used m (drop 512 r)))) (zeros (512 * (suc m - suc (length (used m (drop 512 r))))))
            ∙ ap (λ (n : ℕ). encode_stored form_1 position (decode_stored form_1 (block_at r 0)) ++ (encode_points (position + 1) (map (decode_stored form_1) (used m (drop 512 r))) ++ zeros n)) fewer)
            ∙ same_parts (encode_stored form_1 position (decode_stored form_1 (block_at r 0))) (encode_points (position + 1) (map (decode_stored form_1) (used m (drop 512 r))) ++ zeros (512 * (m - length (used m (drop 512 r))))) r 512 e0_length
            (e ∙ simp (length-append, length-replicate, more_length) (omega (arith, used_few m (drop 512 r))))
            ∙ ap₂ ◌&&◌ (ap (same_list (encode_stored form_1 position (decode_stored form_1 (block_at r 0)))) (block_zero r) ∙ ap (test (block_at r 0)) here_zero) (ih ∙ ap₂ ◌&&◌ tests_on (ap (all? (λ x. eqb x 0)) (sym (past (length (used m (drop 512 r)))))))
            ∙ and_group (test (block_at r 0) (position + 0)) (every (upto (length (used m (drop 512 r))) (λ i. test (block_at r (suc i)) (position + suc i)))) (all? (λ x. eqb x 0) (drop (512 * suc (length (used m (drop 512 r)))) r))

-- ---- the image

module _ (img : List ℕ) (h : Bytes img) (e : length img ≡ image_length) where
  rest_blocks : upto most_points (block_at (drop 1536 img)) ≡ upto most_points (λ i. block_at img (3 + i))
  rest_blocks = upto_same most_points (block_at (drop 1536 img)) (λ i. block_at img (3 + i)) (λ i l. block_of_drop img 3 i)

  same_count : length (used most_points (drop 1536 img)) ≡ stored_count img
  unfolding stored_count
  same_count = ap (λ (bs : List (List ℕ)). length (until_zero bs)) rest_blocks

  block_ok : (k : ℕ) → k < 67 → length (block_at img k) ≡ 512
  block_ok k l = block_length img k (omega arith)

  abbrev head_part : List ℕ
  head_part = encode_head (decode_head (block_at img 0))

  abbrev own_part : List ℕ
  own_part = encode_dots 1 (decode_dots (block_at img 1))

  abbrev foreign_part : List ℕ
  foreign_part = encode_dots 2 (decode_dots (block_at img 2))

  abbrev points_part : List ℕ
  points_part = encode_points 3 (map (decode_stored form_1) (used most_points (drop 1536 img))) ++ zeros (512 * (most_points - length (used most_points (drop 1536 img))))

  head_size : length head_part ≡ 512
  head_size = head_length (decode_head (block_at img 0)) (head_decoded (block_at img 0) (block_bytes img h 0) (block_ok 0 (omega arith)))

  own_size : length own_part ≡ 512
  own_size = dots_length 1 (decode_dots (block_at img 1)) (dots_decoded (block_at img 1) (block_bytes img h 1) (block_ok 1 (omega arith)))

  foreign_size : length foreign_part ≡ 512
  foreign_size = dots_length 2 (decode_dots (block_at img 2)) (dots_decoded (block_at img 2) (block_bytes img h 2) (block_ok 2 (omega arith)))

  rest_size : length (drop 1536 img) ≡ 512 * most_points
  rest_size = length-drop 1536 img ∙ omega arith

  points_size : length points_part ≡ 32768
  points_size =
      length-append (encode_points 3 (map (decode_stored form_1) (used most_points (drop 1536 img)))) (zeros (512 * (most_points - length (used most_points (drop 1536 img)))))
      ∙ omega (
        arith,
        points_length 3 (map (decode_stored form_1) (used most_points (drop 1536 img))) (used_sized most_points (drop 1536 img) (bytes_drop 1536 img h) rest_size),
        map_length (decode_stored form_1) (used most_points (drop 1536 img)),
        length-replicate {A = ℕ} (512 * (most_points - length (used most_points (drop 1536 img)))) 0,
        used_few most_points (drop 1536 img),
      )

  encoded : encode (decode img) ≡ head_part ++ (own_part ++ (foreign_part ++ points_part))
  unfolding encode decode
  encoded =
      ap (λ (bs : List (List ℕ)). head_part ++ (own_part ++ (foreign_part ++ (encode_points 3 (map (decode_stored form_1) (until_zero bs)) ++ zeros (512 * (most_points - length (map (decode_stored form_1) (until_zero bs)))))))) (sym rest_blocks)
      ∙ ap (λ (n : ℕ). head_part ++ (own_part ++ (foreign_part ++ (encode_points 3 (map (decode_stored form_1) (used most_points (drop 1536 img))) ++ zeros (512 * (most_points - n)))))) (map_length (decode_stored form_1) (used most_points (drop 1536 img)))

  pub laid_out_by_parts : same_list (encode (decode img)) img ≡ parts_laid_out img
  unfolding parts_laid_out stored_laid_out test
  laid_out_by_parts =
      ap (λ (l : List ℕ). same_list l img) encoded
      ∙ same_parts head_part (own_part ++ (foreign_part ++ points_part)) img 512 head_size (omega (arith, e, length-append own_part (foreign_part ++ points_part), length-append foreign_part points_part, own_size, foreign_size, points_size))
      ∙ ap₂ ◌&&◌ (ap (same_list head_part) (block_zero img))
      (same_parts own_part (foreign_part ++ points_part) (drop 512 img) 512 own_size (omega (arith, e, length-drop 512 img, length-append foreign_part points_part, foreign_size, points_size))
      ∙ ap₂ ◌&&◌ (ap (same_list own_part) (block_zero (drop 512 img) ∙ block_of_drop img 1 0))
      (ap (same_list (foreign_part ++ points_part)) (drop-drop 512 512 img)
      ∙ same_parts foreign_part points_part (drop 1024 img) 512 foreign_size (length-drop 1024 img ∙ omega (arith, points_size))
      ∙ ap₂ ◌&&◌ (ap (same_list foreign_part) (block_zero (drop 1024 img) ∙ block_of_drop img 2 0))
      (ap (same_list points_part) (drop-drop 512 1024 img)
      ∙ points_same most_points 3 (drop 1536 img) (bytes_drop 1536 img h) rest_size
      ∙ ap₂ ◌&&◌ points_tests
      (zeros_test ∙ sym (and_one (all? (λ x. eqb x 0) (drop (512 * (3 + stored_count img)) img)))))))
    where
      points_tests : every (upto (length (used most_points (drop 1536 img))) (λ i. same_list (encode_stored form_1 (3 + i) (decode_stored form_1 (block_at (drop 1536 img) i))) (block_at (drop 1536 img) i)))
          ≡ every (upto (stored_count img) (λ i. same_list (encode_stored form_1 (3 + i) (decode_stored form_1 (block_at img (3 + i)))) (block_at img (3 + i))))
      points_tests =
          ap every
          (upto_same (length (used most_points (drop 1536 img))) (λ i. same_list (encode_stored form_1 (3 + i) (decode_stored form_1 (block_at (drop 1536 img) i))) (block_at (drop 1536 img) i))
          (λ i. same_list (encode_stored form_1 (3 + i) (decode_stored form_1 (block_at img (3 + i)))) (block_at img (3 + i)))
          (λ i l. ap (λ (b : List ℕ). same_list (encode_stored form_1 (3 + i) (decode_stored form_1 b)) b) (block_of_drop img 3 i))
          ∙ ap (λ (n : ℕ). upto n (λ i. same_list (encode_stored form_1 (3 + i) (decode_stored form_1 (block_at img (3 + i)))) (block_at img (3 + i)))) same_count)

      zeros_test : all? (λ x. eqb x 0) (drop (512 * length (used most_points (drop 1536 img))) (drop 1536 img)) ≡ all? (λ x. eqb x 0) (drop (512 * (3 + stored_count img)) img)
      zeros_test =
          ap (all? (λ x. eqb x 0))
          (drop-drop (512 * length (used most_points (drop 1536 img))) 1536 img
          ∙ ap (λ (n : ℕ). drop n img) (ap (λ (k : ℕ). 1536 + 512 * k) same_count ∙ there (stored_count img)))
        where
          there : (k : ℕ) → 1536 + 512 * k ≡ 512 * (3 + k)
          there k = omega arith
