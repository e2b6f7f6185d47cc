-- The head with one row or one mark put anew in its bytes is the head that says so. Assumes nothing.
use Prim.Native.Nat.{ℕ, ◌+◌, ◌*◌, ◌-◌, ◌^◌, ◌≤◌, ◌<◌}
use mathlib.Core.Path.{◌≡◌, refl, ap, sym, ◌∙◌, subst}
use mathlib.Core.List.{List, [], ◌∷◌, ◌++◌, append-nil}
use native.Mathlib.Omega.{arith}
use lib.ListN.{length, get_or}
use Rattle.numbers.specs.declared.Controller.{Controller}
use Rattle.numbers.specs.Words.{concat_map}
use Rattle.numbers.specs.Numbers.{controller, Crew}
use Rattle.numbers.proofs.Tests.{◌∈◌}
use Rattle.block.specs.Fields.{le, splice, put_at, field}
use Rattle.block.specs.Block.{body, make_block, resealed, Laid}
use Rattle.block.proofs.Numbers.{Bytes, le_length}
use Rattle.block.proofs.Parts.{splice_length, splice_past, splice_append}
use Rattle.block.proofs.Arrays.{get_or_in, EachOf, array_length, all_of_splice, only}
use Rattle.block.proofs.Content.{body_length}
use Rattle.block.proofs.Edits.{array_put, sub_splice, content_put}
use Rattle.block.proofs.Resealed.{Body, cut_resealed, field_resealed, body_of, body_put, body_resealed, sealed_body, edited}
use Rattle.row.specs.declared.Row.{Row}
use Rattle.layout.specs.Clocks.{encode_row, encode_clock, decode_clock}
use Rattle.layout.specs.Image.{encode_marks, decode_marks, Head, encode_head, decode_head}
use Rattle.layout.proofs.ImageBack.{RowSized, row_length, clock_length, HeadSized, table_length, head_content_length, head_short, head_length, head_back}
use Rattle.layout.proofs.Decoded.{head_decoded}
use Rattle.head.specs.HeadEdits.{put_row, put_mark}

-- what is read of a head does not look at its check
head_resealed : (b : List ℕ) → length b ≡ 512 → decode_head b ≡ decode_head (resealed b)
unfolding decode_head
head_resealed b e = λ i.
    record {
      own = controller (same 4 (omega arith) i);
      table = same 8 (omega arith) i ∷ same 9 (omega arith) i ∷ same 10 (omega arith) i ∷ same 11 (omega arith) i ∷ same 12 (omega arith) i ∷ same 13 (omega arith) i ∷ same 14 (omega arith) i ∷ same 15 (omega arith) i ∷ [];
      clock = decode_clock (sym (cut_resealed b e 16 96 (omega arith)) i);
      watermark = decode_marks (sym (cut_resealed b e 112 256 (omega arith)) i);
    }
  where
    same : (o : ℕ) → o + 1 ≤ 508 → field b o 1 ≡ field (resealed b) o 1
    same o h = sym (field_resealed b e o 1 h)

abbrev table_part : Head → List ℕ
table_part h = concat_map (le 1) h.table

abbrev tail : Head → List ℕ
tail h = encode_clock h.clock ++ encode_marks h.watermark

-- the bytes of a head before its check, by what stands from the rows on
abbrev with_tail : Head → List ℕ → List ℕ
with_tail h l = body 1 1 0 (le 1 h.own.0 ++ (le 3 0 ++ (table_part h ++ l)))

module _ (h : Head) (S : HeadSized h) where
  from_rows : (o n : ℕ) (y : List ℕ) → o + n ≤ 352 → length y ≡ n → splice (with_tail h (tail h)) (16 + o) n y ≡ with_tail h (splice (tail h) o n y)
  from_rows o n y l e =
      ap (λ (k : ℕ). splice (with_tail h (tail h)) k n y) there
      ∙ content_put 1 1 0 (le 1 h.own.0 ++ (le 3 0 ++ (table_part h ++ tail h))) (1 + (3 + (8 + o))) n y (omega (arith, head_content_length h S)) e
      ∙ ap (body 1 1 0)
      (splice_past (le 1 h.own.0) (le 3 0 ++ (table_part h ++ tail h)) 1 (3 + (8 + o)) n y (le_length 1 h.own.0)
      ∙ ap (λ (z : List ℕ). le 1 h.own.0 ++ z)
      (splice_past (le 3 0) (table_part h ++ tail h) 3 (8 + o) n y (le_length 3 0)
      ∙ ap (λ (z : List ℕ). le 3 0 ++ z) (splice_past (table_part h) (tail h) 8 o n y (table_length h S))))
    where
      there : 16 + o ≡ 4 + (1 + (3 + (8 + o)))
      there = omega arith

  row_put : (i : ℕ) (r : Row) → i < 8 → splice (with_tail h (tail h)) (16 + 12 * i) 12 (encode_row r) ≡ with_tail h (encode_clock (put_at h.clock i r) ++ encode_marks h.watermark)
  row_put i r l = from_rows (12 * i) 12 (encode_row r) (omega arith) (row_length r) ∙ ap (with_tail h) rows
    where
      rows : splice (tail h) (12 * i) 12 (encode_row r) ≡ encode_clock (put_at h.clock i r) ++ encode_marks h.watermark
      rows = unfold encode_clock in array_put 12 encode_row h.clock (λ x m. row_length x) r i (encode_marks h.watermark) (omega (arith, S.clock.eight))

  -- the row of marks that stands at the i-th place
  abbrev line : ℕ → List ℕ
  line i = get_or h.watermark i []

  line_length : (r : List ℕ) → length r ≡ 8 → length (concat_map (le 4) r) ≡ 32
  line_length r e = array_length 4 (le 4) r (λ x m. le_length 4 x) ∙ omega arith

  each_line : EachOf 32 (concat_map (le 4)) h.watermark
  each_line r m = line_length r (S.marks.rows r m)

  line_in : (i : ℕ) → i < 8 → line i ∈ h.watermark
  line_in i l = get_or_in h.watermark i [] (omega (arith, S.marks.eight))

  line_eight : (i : ℕ) → i < 8 → length (line i) ≡ 8
  line_eight i l = S.marks.rows (line i) (line_in i l)

  mark_put : (i j base : ℕ) → i < 8 → j < 8 → splice (with_tail h (tail h)) (112 + 32 * i + 4 * j) 4 (le 4 base) ≡ with_tail h (encode_clock h.clock ++ encode_marks (put_at h.watermark i (put_at (line i) j base)))
  mark_put i j base l k =
      ap (λ (o : ℕ). splice (with_tail h (tail h)) o 4 (le 4 base)) there
      ∙ from_rows (96 + (32 * i + 4 * j)) 4 (le 4 base) (omega arith) (le_length 4 base)
      ∙ ap (with_tail h) (splice_past (encode_clock h.clock) (encode_marks h.watermark) 96 (32 * i + 4 * j) 4 (le 4 base) (clock_length h.clock S.clock.eight) ∙ ap (λ (z : List ℕ). encode_clock h.clock ++ z) marks)
    where
      there : 112 + 32 * i + 4 * j ≡ 16 + (96 + (32 * i + 4 * j))
      there = omega arith

      -- within the row's 32 bytes
      one : splice (concat_map (le 4) (line i)) (4 * j) 4 (le 4 base) ≡ concat_map (le 4) (put_at (line i) j base)
      one =
          ap (λ (z : List ℕ). splice z (4 * j) 4 (le 4 base)) (sym (append-nil (concat_map (le 4) (line i))))
          ∙ array_put 4 (le 4) (line i) (λ x m. le_length 4 x) base j [] (omega (arith, line_eight i l)) ∙ append-nil (concat_map (le 4) (put_at (line i) j base))

      marks : splice (encode_marks h.watermark) (32 * i + 4 * j) 4 (le 4 base) ≡ encode_marks (put_at h.watermark i (put_at (line i) j base))
      marks = unfold encode_marks in
          (sub_splice 32 (concat_map (le 4)) h.watermark each_line i (4 * j) 4 (le 4 base) [] (omega (arith, S.marks.eight)) (omega arith) (le_length 4 base)
          ∙ ap (splice (concat_map (concat_map (le 4)) h.watermark) (32 * i) 32) one
          ∙ ap (λ (z : List ℕ). splice z (32 * i) 32 (concat_map (le 4) (put_at (line i) j base))) (sym (append-nil (concat_map (concat_map (le 4)) h.watermark)))
          ∙ array_put 32 (concat_map (le 4)) h.watermark each_line (put_at (line i) j base) i [] (omega (arith, S.marks.eight))
          ∙ append-nil (concat_map (concat_map (le 4)) (put_at h.watermark i (put_at (line i) j base))))

-- ---- a head with a row or a mark put anew is within its sizes still

module _ (h : Head) (S : HeadSized h) where
  pub put_row_sized : (n : Controller) → Crew n → (r : Row) → RowSized r → HeadSized (put_row h n r)
  put_row_sized n crew r fits = record {
    own = S.own;
    table_eight = S.table_eight;
    table_bytes = S.table_bytes;
    clock = record {
      eight = splice_length h.clock (n.0 - 1) 1 (r ∷ []) (omega (arith, crew.0, crew.1, S.clock.eight)) refl ∙ S.clock.eight;
      rows = all_of_splice RowSized h.clock (n.0 - 1) 1 (r ∷ []) S.clock.rows (only RowSized r fits);
    };
    marks = S.marks;
  }

  pub put_mark_sized : (m n : Controller) → Crew m → Crew n → (base : ℕ) → base < 256 ^ 4 → HeadSized (put_mark h m n base)
  put_mark_sized m n of crew base fits = record {
    own = S.own;
    table_eight = S.table_eight;
    table_bytes = S.table_bytes;
    clock = S.clock;
    marks = record {
      eight = splice_length h.watermark (m.0 - 1) 1 (put_at row (n.0 - 1) base ∷ []) (omega (arith, of.0, of.1, S.marks.eight)) refl ∙ S.marks.eight;
      rows = all_of_splice (λ (r : List ℕ). length r ≡ 8) h.watermark (m.0 - 1) 1 (put_at row (n.0 - 1) base ∷ []) S.marks.rows (only (λ (r : List ℕ). length r ≡ 8) (put_at row (n.0 - 1) base) eight);
      small = λ r y k. all_of_splice (λ (l : List ℕ). (v : ℕ) → v ∈ l → v < 256 ^ 4) h.watermark (m.0 - 1) 1 (put_at row (n.0 - 1) base ∷ []) (λ l q v p. S.marks.small l v q p)
          (only (λ (l : List ℕ). (v : ℕ) → v ∈ l → v < 256 ^ 4) (put_at row (n.0 - 1) base) all_small) r k y;
    };
  }
    where
      row : List ℕ
      row = get_or h.watermark (m.0 - 1) []

      inside : row ∈ h.watermark
      inside = line_in h S (m.0 - 1) (omega (arith, of.0, of.1))

      eight : length (put_at row (n.0 - 1) base) ≡ 8
      eight = splice_length row (n.0 - 1) 1 (base ∷ []) (omega (arith, crew.0, crew.1, S.marks.rows row inside)) refl ∙ S.marks.rows row inside

      all_small : (v : ℕ) → v ∈ put_at row (n.0 - 1) base → v < 256 ^ 4
      all_small = all_of_splice (λ (v : ℕ). v < 256 ^ 4) row (n.0 - 1) 1 (base ∷ []) (λ v p. S.marks.small row v inside p) (only (λ (v : ℕ). v < 256 ^ 4) base fits)

-- a head that is laid out, its check too, is so but for its check
pub head_laid : (h : Head) → HeadSized h → (b : List ℕ) → b ≡ encode_head h → Laid encode_head decode_head b
head_laid h S b e =
    (edited encode_head decode_head h b (head_resealed b size) (head_back h S)
    (body_resealed (sealed_body (with_tail h (tail h)) b size (body_length 1 1 0 (le 1 h.own.0 ++ (le 3 0 ++ (table_part h ++ tail h))) (head_short h S)) (e ∙ (unfold encode_head make_block in refl))) ∙ (unfold encode_head make_block in refl))).1
  where
    size : length b ≡ 512
    size = ap length e ∙ head_length h S

module _ (b x : List ℕ) (small : Bytes b) (size : length b ≡ 512) (laid : Laid encode_head decode_head b) where
  abbrev h : Head
  h = decode_head b

  S : HeadSized (decode_head b)
  S = head_decoded b small size

  was : Body b (with_tail (decode_head b) (tail (decode_head b)))
  was = body_of b size (with_tail h (tail h)) (body_length 1 1 0 (le 1 h.own.0 ++ (le 3 0 ++ (table_part h ++ tail h))) (head_short h S)) (laid ∙ (unfold encode_head make_block in refl))

  -- the bytes are laid out as another head
  becomes : (g : Head) → HeadSized g → Body x (with_tail g (tail g)) → (decode_head x ≡ g) × Laid encode_head decode_head x
  becomes g G B = edited encode_head decode_head g x (head_resealed x B.size) (head_back g G) (body_resealed B ∙ (unfold encode_head make_block in refl))

  module _ (n : Controller) (crew : Crew n) where
    pub row_is_put : (r : Row) (y : List ℕ) → RowSized r → y ≡ splice b (16 + 12 * (n.0 - 1)) 4 (le 4 r.base) → x ≡ splice y (16 + 12 * (n.0 - 1) + 4) 8 (le 8 r.bits)
        → (decode_head x ≡ put_row (decode_head b) n r) × Laid encode_head decode_head x
    row_is_put r y fits d e =
        becomes (put_row h n r) (put_row_sized h S n crew r fits)
        (subst (Body x) (row_put h S (n.0 - 1) r (omega (arith, crew.0, crew.1))) (body_put (16 + 12 * (n.0 - 1)) 12 (encode_row r) was (omega (arith, crew.0, crew.1)) (row_length r) (e ∙ both)))
      where
        both : splice y (16 + 12 * (n.0 - 1) + 4) 8 (le 8 r.bits) ≡ splice b (16 + 12 * (n.0 - 1)) 12 (encode_row r)
        both = unfold encode_row in
            (ap (λ (z : List ℕ). splice z (16 + 12 * (n.0 - 1) + 4) 8 (le 8 r.bits)) d
            ∙ splice_append b (16 + 12 * (n.0 - 1)) 4 8 (le 4 r.base) (le 8 r.bits) (omega (arith, crew.0, crew.1)) (le_length 4 r.base) (le_length 8 r.bits))

    pub mark_is_put : (m : Controller) (base : ℕ) → Crew m → base < 256 ^ 4 → x ≡ splice b (112 + 32 * (m.0 - 1) + 4 * (n.0 - 1)) 4 (le 4 base)
        → (decode_head x ≡ put_mark (decode_head b) m n base) × Laid encode_head decode_head x
    mark_is_put m base of fits e =
        becomes (put_mark h m n base) (put_mark_sized h S m n of crew base fits)
        (subst (Body x) (mark_put h S (m.0 - 1) (n.0 - 1) base (omega (arith, of.0, of.1)) (omega (arith, crew.0, crew.1)))
        (body_put (112 + 32 * (m.0 - 1) + 4 * (n.0 - 1)) 4 (le 4 base) was (omega (arith, crew.0, crew.1, of.0, of.1)) (le_length 4 base) e))
