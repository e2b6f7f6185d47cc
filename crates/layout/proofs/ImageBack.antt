-- An image is read back as it was written: `decode (encode s) ≡ s` for every state within its sizes. Assumes nothing.
use Prim.Native.Nat.{ℕ, zero, suc, ◌+◌, ◌*◌, ◌-◌, ◌^◌, ◌≤◌, ◌<◌}
use mathlib.Core.Path.{◌≡◌, refl, ap, ap₂, sym, ◌∙◌, subst}
use mathlib.Core.Bool.{true, false}
use mathlib.Core.List.{List, [], ◌∷◌, ◌++◌, append-nil, append_assoc}
use native.Mathlib.Omega.{arith}
use native.Mathlib.Nat.{le_of_suc-le-suc}
use lib.ListN.{length, take, length-append, length-replicate}
use lib.Dec.{eqb}
use borrow.Author.Tests.{ne_eqb}
use Rattle.numbers.specs.Words.{map, concat_map}
use Rattle.numbers.specs.Numbers.{controller}
use Rattle.numbers.specs.Dot.{dot}
use Rattle.numbers.specs.Key.{key}
use Rattle.numbers.proofs.Tests.{◌∈◌, here, there}
use Rattle.block.specs.Fields.{le, number, cut, field, zeros, upto}
use Rattle.block.specs.Check.{sealed}
use Rattle.block.specs.Block.{block_at}
use Rattle.block.proofs.Parts.{cut_past, cut_within, cut_first, cut_whole}
use Rattle.block.proofs.Numbers.{le_length, number_le}
use Rattle.block.proofs.Arrays.{upto_same, take_upto, EachOf, array_length, array_back}
use Rattle.block.proofs.Content.{make_block_length, cut_content, block_first, block_next}
use Rattle.row.specs.declared.Row.{Row}
use Rattle.meaning.specs.Clock.{Clock}
use Rattle.meaning.specs.State.{Stored, Listed, Watermark, State}
use Rattle.meaning.specs.Settle.{most_points, most_listed}
use Rattle.layout.specs.PointBlock.{form_1, unsent, encode_stored, decode_stored}
use Rattle.layout.specs.Clocks.{encode_row, decode_row, encode_clock, decode_clock}
use Rattle.layout.specs.Image.{image_length, encode_marks, decode_marks, Head, head_of, encode_head, decode_head, encode_entry, decode_entry, encode_dots, decode_dots, encode_points, encode, until_zero, decode}
use Rattle.layout.proofs.PointBack.{field_is, PointSized, point_block_length, point_block_sealed, point_block_kind, point_back}

-- ---- arrays that fill their part

-- an array of n things, read back from a part that holds just them
pub whole_array : {A : Type 0} (w n : ℕ) (enc : A → List ℕ) (dec : List ℕ → A) (xs : List A) → EachOf w enc xs → ((x : A) → x ∈ xs → dec (enc x) ≡ x) → length xs ≡ n
    → upto n (λ i. dec (cut (concat_map enc xs) (w * i) w)) ≡ xs
whole_array {A} w n enc dec xs size back e =
    subst (λ (m : ℕ). upto m (λ i. dec (cut (concat_map enc xs) (w * i) w)) ≡ xs) e
    (subst (λ (l : List ℕ). upto (length xs) (λ i. dec (cut l (w * i) w)) ≡ xs) (append-nil (concat_map enc xs)) (array_back w enc dec xs [] size back))

-- ---- rows

abbrev pub RowSized : Row → Type 0
RowSized r = (r.base < 256 ^ 4) × (r.bits < 256 ^ 8)

pub row_length : (r : Row) → length (encode_row r) ≡ 12
unfolding encode_row
row_length r = simp (length-append, le_length) (omega arith)

pub row_back : (r : Row) → RowSized r → decode_row (encode_row r) ≡ r
unfolding decode_row encode_row
row_back r S = λ i.
    record {
      base = field_is (le 4 r.base ++ le 8 r.bits) 0 4 r.base (cut_first (le 4 r.base) (le 8 r.bits) 4 (le_length 4 r.base)) S.0 i;
      bits = field_is (le 4 r.base ++ le 8 r.bits) 4 8 r.bits
          (cut_past (le 4 r.base) (le 8 r.bits) 4 4 8 (le_length 4 r.base) (omega arith) ∙ cut_whole (le 8 r.bits) 8 (le_length 8 r.bits)) S.1 i;
    }

pub record ClockSized (k : Clock) : Type 0 where
  pub eight : length k ≡ 8
  pub rows : (r : Row) → r ∈ k → RowSized r

pub clock_length : (k : Clock) → length k ≡ 8 → length (encode_clock k) ≡ 96
unfolding encode_clock
clock_length k e = array_length 12 encode_row k (λ r m. row_length r) ∙ omega arith

pub clock_back : (k : Clock) → ClockSized k → decode_clock (encode_clock k) ≡ k
unfolding decode_clock encode_clock
clock_back k S = whole_array 12 8 encode_row decode_row k (λ r m. row_length r) (λ r m. row_back r (S.rows r m)) S.eight

-- ---- the watermark

pub record MarksSized (w : Watermark) : Type 0 where
  pub eight : length w ≡ 8
  pub rows : (r : List ℕ) → r ∈ w → length r ≡ 8
  pub small : (r : List ℕ) (x : ℕ) → r ∈ w → x ∈ r → x < 256 ^ 4

marks_row_length : (r : List ℕ) → length r ≡ 8 → length (concat_map (le 4) r) ≡ 32
marks_row_length r e = array_length 4 (le 4) r (λ x m. le_length 4 x) ∙ omega arith

pub marks_length : (w : Watermark) → MarksSized w → length (encode_marks w) ≡ 256
unfolding encode_marks
marks_length w S = array_length 32 (concat_map (le 4)) w (λ r m. marks_row_length r (S.rows r m)) ∙ omega (arith, S.eight)

pub marks_back : (w : Watermark) → MarksSized w → decode_marks (encode_marks w) ≡ w
unfolding decode_marks encode_marks field
marks_back w S =
    whole_array 32 8 (concat_map (le 4)) (λ b. upto 8 (λ n. number (cut b (4 * n) 4))) w (λ r m. marks_row_length r (S.rows r m))
    (λ r m. whole_array 4 8 (le 4) number r (λ x h. le_length 4 x) (λ x h. number_le 4 x (S.small r x m h)) (S.rows r m)) S.eight

-- ---- listed dots

pub record EntrySized (l : Listed) : Type 0 where
  pub who : l.dot.who.0 < 256
  pub count : l.dot.count.0 < 256 ^ 4
  pub job : l.key.job < 256
  pub point : l.key.point.0 < 256 ^ 2

pub entry_length : (l : Listed) → length (encode_entry l) ≡ 8
unfolding encode_entry
entry_length l = simp (length-append, le_length) (omega arith)

module _ (l : Listed) (S : EntrySized l) where
  abbrev a : List ℕ
  a = le 1 l.dot.who.0

  abbrev j : List ℕ
  j = le 1 l.key.job

  abbrev p : List ℕ
  p = le 2 l.key.point.0

  abbrev c : List ℕ
  c = le 4 l.dot.count.0

  pub entry_back : decode_entry (encode_entry l) ≡ l
  unfolding decode_entry encode_entry
  entry_back = λ i. record { dot = dot (who i) (count i); key = key (job i) (point i) }
    where
      past : (o n : ℕ) → 1 ≤ o → cut (a ++ (j ++ (p ++ c))) o n ≡ cut (j ++ (p ++ c)) (o - 1) n
      past o n h = cut_past a (j ++ (p ++ c)) 1 o n (le_length 1 l.dot.who.0) h

      past_job : (o n : ℕ) → 1 ≤ o → cut (j ++ (p ++ c)) o n ≡ cut (p ++ c) (o - 1) n
      past_job o n h = cut_past j (p ++ c) 1 o n (le_length 1 l.key.job) h

      who : field (a ++ (j ++ (p ++ c))) 0 1 ≡ l.dot.who.0
      who = field_is _ 0 1 l.dot.who.0 (cut_first a (j ++ (p ++ c)) 1 (le_length 1 l.dot.who.0)) S.who

      job : field (a ++ (j ++ (p ++ c))) 1 1 ≡ l.key.job
      job = field_is _ 1 1 l.key.job (past 1 1 (omega arith) ∙ cut_first j (p ++ c) 1 (le_length 1 l.key.job)) S.job

      point : field (a ++ (j ++ (p ++ c))) 2 2 ≡ l.key.point.0
      point = field_is _ 2 2 l.key.point.0 (past 2 2 (omega arith) ∙ past_job 1 2 (omega arith) ∙ cut_first p c 2 (le_length 2 l.key.point.0)) S.point

      count : field (a ++ (j ++ (p ++ c))) 4 4 ≡ l.dot.count.0
      count =
          field_is _ 4 4 l.dot.count.0
          (past 4 4 (omega arith) ∙ past_job 3 4 (omega arith) ∙ cut_past p c 2 2 4 (le_length 2 l.key.point.0) (omega arith) ∙ cut_whole c 4 (le_length 4 l.dot.count.0)) S.count

pub record DotsSized (ls : List Listed) : Type 0 where
  pub few : length ls ≤ most_listed
  pub each : (l : Listed) → l ∈ ls → EntrySized l

module _ (position : ℕ) (ls : List Listed) (S : DotsSized ls) where
  abbrev entries : List ℕ
  entries = concat_map encode_entry ls

  pub entries_length : length entries ≡ 8 * length ls
  entries_length = array_length 8 encode_entry ls (λ l m. entry_length l)

  abbrev dots_content : List ℕ
  dots_content = le 2 (length ls) ++ (le 2 0 ++ entries)

  pub dots_content_length : length dots_content ≡ 4 + 8 * length ls
  dots_content_length = simp (length-append, le_length) (omega (arith, entries_length))

  pub dots_short : length dots_content ≤ 504
  dots_short = omega (arith, dots_content_length, S.few)

  pub dots_length : length (encode_dots position ls) ≡ 512
  unfolding encode_dots
  dots_length = make_block_length 2 1 position dots_content dots_short

  pub dots_number : field (encode_dots position ls) 4 2 ≡ length ls
  unfolding encode_dots
  dots_number =
      field_is _ 4 2 (length ls) (cut_content 2 1 position dots_content dots_short 4 2 (omega arith) (omega (arith, dots_content_length)) ∙ cut_first (le 2 (length ls)) (le 2 0 ++ entries) 2 (le_length 2 (length ls)))
      (omega (arith, S.few))

  entry_at : (i : ℕ) → i < length ls → cut (encode_dots position ls) (8 + 8 * i) 8 ≡ cut (entries ++ []) (8 * i) 8
  unfolding encode_dots
  entry_at i h =
      cut_content 2 1 position dots_content dots_short (8 + 8 * i) 8 (omega arith) (omega (arith, dots_content_length))
      ∙ cut_past (le 2 (length ls)) (le 2 0 ++ entries) 2 (8 + 8 * i - 4) 8 (le_length 2 (length ls)) (omega arith)
      ∙ cut_past (le 2 0) entries 2 (8 + 8 * i - 4 - 2) 8 (le_length 2 0) (omega arith)
      ∙ ap₂ (λ (x : List ℕ) (o : ℕ). cut x o 8) (sym (append-nil entries)) back
    where
      back : 8 + 8 * i - 4 - 2 - 2 ≡ 8 * i
      back = omega arith

  pub dots_back : decode_dots (encode_dots position ls) ≡ ls
  unfolding decode_dots
  dots_back =
      ap (λ (n : ℕ). take n (upto most_listed (λ i. decode_entry (cut (encode_dots position ls) (8 + 8 * i) 8)))) dots_number
      ∙ take_upto (length ls) most_listed (λ i. decode_entry (cut (encode_dots position ls) (8 + 8 * i) 8)) S.few
      ∙ upto_same (length ls) (λ i. decode_entry (cut (encode_dots position ls) (8 + 8 * i) 8)) (λ i. decode_entry (cut (entries ++ []) (8 * i) 8)) (λ i h. ap decode_entry (entry_at i h))
      ∙ array_back 8 encode_entry decode_entry ls [] (λ l m. entry_length l) (λ l m. entry_back l (S.each l m))

-- ---- the head

pub record HeadSized (h : Head) : Type 0 where
  pub own : h.own.0 < 256
  pub table_eight : length h.table ≡ 8
  pub table_bytes : (b : ℕ) → b ∈ h.table → b < 256
  pub clock : ClockSized h.clock
  pub marks : MarksSized h.watermark

module _ (h : Head) (S : HeadSized h) where
  abbrev table_part : List ℕ
  table_part = concat_map (le 1) h.table

  abbrev from_clock : List ℕ
  from_clock = encode_clock h.clock ++ encode_marks h.watermark

  abbrev head_content : List ℕ
  head_content = le 1 h.own.0 ++ (le 3 0 ++ (table_part ++ from_clock))

  pub table_length : length table_part ≡ 8
  table_length = array_length 1 (le 1) h.table (λ x m. le_length 1 x) ∙ omega (arith, S.table_eight)

  pub head_content_length : length head_content ≡ 364
  head_content_length =
      simp (length-append, le_length, table_length, clock_length h.clock S.clock.eight, marks_length h.watermark S.marks) (omega arith)

  pub head_short : length head_content ≤ 504
  head_short = omega (arith, head_content_length)

  pub head_length : length (encode_head h) ≡ 512
  unfolding encode_head
  head_length = make_block_length 1 1 0 head_content head_short

  in_head : (o n : ℕ) → 4 ≤ o → o + n ≤ 368 → cut (encode_head h) o n ≡ cut head_content (o - 4) n
  unfolding encode_head
  in_head o n g l = cut_content 1 1 0 head_content head_short o n g (omega (arith, head_content_length))

  from_8 : (o n : ℕ) → 8 ≤ o → o + n ≤ 368 → cut (encode_head h) o n ≡ cut (table_part ++ from_clock) (o - 8) n
  from_8 o n g l =
      in_head o n (omega arith) l
      ∙ cut_past (le 1 h.own.0) (le 3 0 ++ (table_part ++ from_clock)) 1 (o - 4) n (le_length 1 h.own.0) (omega arith)
      ∙ cut_past (le 3 0) (table_part ++ from_clock) 3 (o - 4 - 1) n (le_length 3 0) (omega arith)
      ∙ ap (λ (i : ℕ). cut (table_part ++ from_clock) i n) there
    where
      there : o - 4 - 1 - 3 ≡ o - 8
      there = omega arith

  own_at : field (encode_head h) 4 1 ≡ h.own.0
  own_at =
      field_is (encode_head h) 4 1 h.own.0 (in_head 4 1 (omega arith) (omega arith) ∙ cut_first (le 1 h.own.0) (le 3 0 ++ (table_part ++ from_clock)) 1 (le_length 1 h.own.0)) S.own

  table_at : upto 8 (λ i. field (encode_head h) (8 + i) 1) ≡ h.table
  table_at =
      upto_same 8 (λ i. field (encode_head h) (8 + i) 1) (λ i. number (cut table_part (1 * i) 1)) one
      ∙ whole_array 1 8 (le 1) number h.table (λ x m. le_length 1 x) (λ x m. number_le 1 x (S.table_bytes x m)) S.table_eight
    where
      one : (i : ℕ) → i < 8 → field (encode_head h) (8 + i) 1 ≡ number (cut table_part (1 * i) 1)
      one i g =
          unfold field in
          (ap number
          (from_8 (8 + i) 1 (omega arith) (omega arith)
          ∙ ap (λ (o : ℕ). cut (table_part ++ from_clock) o 1) there
          ∙ cut_within table_part from_clock (1 * i) 1 (omega (arith, table_length))))
        where
          there : 8 + i - 8 ≡ 1 * i
          there = omega arith

  clock_at : cut (encode_head h) 16 96 ≡ encode_clock h.clock
  clock_at =
      from_8 16 96 (omega arith) (omega arith)
      ∙ cut_past table_part from_clock 8 8 96 table_length (omega arith)
      ∙ cut_first (encode_clock h.clock) (encode_marks h.watermark) 96 (clock_length h.clock S.clock.eight)

  marks_at : cut (encode_head h) 112 256 ≡ encode_marks h.watermark
  marks_at =
      from_8 112 256 (omega arith) (omega arith)
      ∙ cut_past table_part from_clock 8 104 256 table_length (omega arith)
      ∙ cut_past (encode_clock h.clock) (encode_marks h.watermark) 96 96 256 (clock_length h.clock S.clock.eight) (omega arith)
      ∙ cut_whole (encode_marks h.watermark) 256 (marks_length h.watermark S.marks)

  pub head_back : decode_head (encode_head h) ≡ h
  unfolding decode_head
  head_back = λ i.
      record {
        own = controller (own_at i);
        table = table_at i;
        clock = (ap decode_clock clock_at ∙ clock_back h.clock S.clock) i;
        watermark = (ap decode_marks marks_at ∙ marks_back h.watermark S.marks) i;
      }

-- ---- the points

abbrev pub StoredSized : Stored → Type 0
StoredSized p = PointSized form_1 (unsent p)

abbrev pub AllSized : List Stored → Type 0
AllSized ps = (p : Stored) → p ∈ ps → StoredSized p

pub stored_length : (position : ℕ) (p : Stored) → StoredSized p → length (encode_stored form_1 position p) ≡ 512
unfolding encode_stored
stored_length position p S = point_block_length form_1 (omega arith) 3 position (unsent p) S

pub stored_sealed : (position : ℕ) (p : Stored) → StoredSized p → sealed (encode_stored form_1 position p) ≡ true
unfolding encode_stored
stored_sealed position p S = point_block_sealed form_1 (omega arith) 3 position (unsent p) S

pub stored_kind : (position : ℕ) (p : Stored) → StoredSized p → field (encode_stored form_1 position p) 0 1 ≡ 3
unfolding encode_stored
stored_kind position p S = point_block_kind form_1 (omega arith) 3 position (unsent p) S (omega arith)

pub stored_back : (position : ℕ) (p : Stored) → StoredSized p → decode_stored form_1 (encode_stored form_1 position p) ≡ p
unfolding encode_stored decode_stored
stored_back position p S = let e = point_back form_1 (omega arith) 3 position (unsent p) S in λ i. record { key = (e i).key; object = (e i).object }

pub points_length : (position : ℕ) (ps : List Stored) → AllSized ps → length (encode_points position ps) ≡ 512 * length ps
unfolding encode_points
points_length position [] S = omega arith
points_length position (p ∷ ps) S =
    length-append (encode_stored form_1 position p) (encode_points (position + 1) ps)
    ∙ omega (arith, stored_length position p (S p (here refl)), points_length (position + 1) ps (λ q m. S q (there m)))

-- point k of those that follow one another
pub point_block_at : (position : ℕ) (ps : List Stored) (rest : List ℕ) → AllSized ps
    → upto (length ps) (λ i. decode_stored form_1 (block_at (encode_points position ps ++ rest) i)) ≡ ps
unfolding encode_points
point_block_at position [] rest S = refl
point_block_at position (p ∷ ps) rest S =
    let b = encode_stored form_1 position p in
    let more = encode_points (position + 1) ps in
    let size : length b ≡ 512 = stored_length position p (S p (here refl)) in
    let first : decode_stored form_1 (block_at ((b ++ more) ++ rest) 0) ≡ p =
    ap (decode_stored form_1) (ap (λ (l : List ℕ). block_at l 0) (append_assoc b more rest) ∙ block_first b (more ++ rest) size) ∙ stored_back position p (S p (here refl)) in
    let others : upto (length ps) (λ i. decode_stored form_1 (block_at ((b ++ more) ++ rest) (suc i))) ≡ ps =
    upto_same (length ps) (λ i. decode_stored form_1 (block_at ((b ++ more) ++ rest) (suc i))) (λ i. decode_stored form_1 (block_at (more ++ rest) i))
    (λ i l. ap (decode_stored form_1) (ap (λ (x : List ℕ). block_at x (suc i)) (append_assoc b more rest) ∙ block_next b (more ++ rest) i size))
    ∙ point_block_at (position + 1) ps rest (λ q m. S q (there m)) in
    λ k. first k ∷ others k

-- a block of zeros ends them
zero_block : (n : ℕ) → field (block_at (zeros (512 * suc n)) 0) 0 1 ≡ 0
unfolding field block_at number
zero_block n =
    ap number (ap (λ (l : List ℕ). cut (take 512 l) 0 1) split ∙ ap (take 1) (cut_first (zeros 512) (zeros (512 * n)) 512 (length-replicate {A = ℕ} 512 0)))
  where
    split : zeros (512 * suc n) ≡ zeros 512 ++ zeros (512 * n)
    split = ap (λ (m : ℕ). zeros m) there ∙ sym (lib.ListN.replicate-append-replicate {A = ℕ} 512 (512 * n) 0)
      where
        there : 512 * suc n ≡ 512 + 512 * n
        there = omega arith

stops : (x : List ℕ) (bs : List (List ℕ)) → field x 0 1 ≡ 0 → until_zero (x ∷ bs) ≡ []
stops x bs e = rw e

goes_on : (x : List ℕ) (bs : List (List ℕ)) → eqb (field x 0 1) 0 ≡ false → until_zero (x ∷ bs) ≡ x ∷ until_zero bs
goes_on x bs e = rw e

pub points_back : (position m : ℕ) (ps : List Stored) → AllSized ps → length ps ≤ m
    → map (decode_stored form_1) (until_zero (upto m (λ i. block_at (encode_points position ps ++ zeros (512 * (m - length ps))) i))) ≡ ps
unfolding encode_points
points_back position zero [] S h = refl
points_back position (suc m) [] S h =
    let none_left : suc m - 0 ≡ suc m = omega arith in
    ap (map (decode_stored form_1))
    (stops (block_at (zeros (512 * (suc m - 0))) 0) (upto m (λ i. block_at (zeros (512 * (suc m - 0))) (suc i)))
    (ap (λ (n : ℕ). field (block_at (zeros (512 * n)) 0) 0 1) none_left ∙ zero_block m))
points_back position zero (p ∷ ps) S h = absurd (omega arith)
points_back position (suc m) (p ∷ ps) S h =
    let b = encode_stored form_1 position p in
    let more = encode_points (position + 1) ps in
    let rest = zeros (512 * (suc m - length (p ∷ ps))) in
    let size : length b ≡ 512 = stored_length position p (S p (here refl)) in
    let first : block_at ((b ++ more) ++ rest) 0 ≡ b = ap (λ (l : List ℕ). block_at l 0) (append_assoc b more rest) ∙ block_first b (more ++ rest) size in
    let same_rest : rest ≡ zeros (512 * (m - length ps)) = ap (λ (n : ℕ). zeros (512 * n)) (fewer m (length ps)) in
    let others : upto m (λ i. block_at ((b ++ more) ++ rest) (suc i)) ≡ upto m (λ i. block_at (more ++ zeros (512 * (m - length ps))) i) =
    upto_same m (λ i. block_at ((b ++ more) ++ rest) (suc i)) (λ i. block_at (more ++ zeros (512 * (m - length ps))) i)
    (λ i l. ap (λ (x : List ℕ). block_at x (suc i)) (append_assoc b more rest) ∙ block_next b (more ++ rest) i size ∙ ap (λ (x : List ℕ). block_at (more ++ x) i) same_rest) in
    let known : eqb (field b 0 1) 0 ≡ false = ne_eqb (field b 0 1) 0 (λ e. omega (arith, e, stored_kind position p (S p (here refl)))) in
    let later = upto m (λ i. block_at ((b ++ more) ++ rest) (suc i)) in
    ap (map (decode_stored form_1))
    (ap (λ (y : List ℕ). until_zero (y ∷ later)) first ∙ goes_on b later known ∙ ap (λ (bs : List (List ℕ)). b ∷ until_zero bs) others)
    ∙ (λ k. stored_back position p (S p (here refl)) k ∷ points_back (position + 1) m ps (λ q x. S q (there x)) (le_of_suc-le-suc h) k)
  where
    fewer : (m n : ℕ) → suc m - suc n ≡ m - n
    fewer m n = omega arith

-- ---- the image

pub record Sized (s : State) : Type 0 where
  pub head : HeadSized (head_of s)
  pub own : DotsSized s.own_dots
  pub foreign : DotsSized s.foreign_dots
  pub few : length s.points ≤ most_points
  pub points : AllSized s.points

module _ (s : State) (S : Sized s) where
  abbrev points_part : List ℕ
  points_part = encode_points 3 s.points ++ zeros (512 * (most_points - length s.points))

  pub image_size : length (encode s) ≡ image_length
  unfolding encode
  image_size =
      simp (length-append, length-replicate, head_length (head_of s) S.head, dots_length 1 s.own_dots S.own, dots_length 2 s.foreign_dots S.foreign, points_length 3 s.points S.points)
      (omega (arith, S.few))

  pub block_0 : block_at (encode s) 0 ≡ encode_head (head_of s)
  unfolding encode
  block_0 = block_first (encode_head (head_of s)) (encode_dots 1 s.own_dots ++ (encode_dots 2 s.foreign_dots ++ points_part)) (head_length (head_of s) S.head)

  after_head : (k : ℕ) → block_at (encode s) (suc k) ≡ block_at (encode_dots 1 s.own_dots ++ (encode_dots 2 s.foreign_dots ++ points_part)) k
  unfolding encode
  after_head k = block_next (encode_head (head_of s)) (encode_dots 1 s.own_dots ++ (encode_dots 2 s.foreign_dots ++ points_part)) k (head_length (head_of s) S.head)

  after_own : (k : ℕ) → block_at (encode s) (suc (suc k)) ≡ block_at (encode_dots 2 s.foreign_dots ++ points_part) k
  after_own k = after_head (suc k) ∙ block_next (encode_dots 1 s.own_dots) (encode_dots 2 s.foreign_dots ++ points_part) k (dots_length 1 s.own_dots S.own)

  pub block_1 : block_at (encode s) 1 ≡ encode_dots 1 s.own_dots
  block_1 = after_head 0 ∙ block_first (encode_dots 1 s.own_dots) (encode_dots 2 s.foreign_dots ++ points_part) (dots_length 1 s.own_dots S.own)

  pub block_2 : block_at (encode s) 2 ≡ encode_dots 2 s.foreign_dots
  block_2 = after_own 0 ∙ block_first (encode_dots 2 s.foreign_dots) points_part (dots_length 2 s.foreign_dots S.foreign)

  pub block_3 : (i : ℕ) → block_at (encode s) (3 + i) ≡ block_at points_part i
  block_3 i =
      ap (block_at (encode s)) there ∙ after_own (suc i) ∙ block_next (encode_dots 2 s.foreign_dots) points_part i (dots_length 2 s.foreign_dots S.foreign)
    where
      there : 3 + i ≡ suc (suc (suc i))
      there = omega arith

  points_at : map (decode_stored form_1) (until_zero (upto most_points (λ i. block_at (encode s) (3 + i)))) ≡ s.points
  points_at =
      ap (λ (bs : List (List ℕ)). map (decode_stored form_1) (until_zero bs)) (upto_same most_points (λ i. block_at (encode s) (3 + i)) (λ i. block_at points_part i) (λ i l. block_3 i))
      ∙ points_back 3 most_points s.points S.points S.few

  head_at : decode_head (block_at (encode s) 0) ≡ head_of s
  head_at = ap decode_head block_0 ∙ head_back (head_of s) S.head

  pub decode_encode : decode (encode s) ≡ s
  unfolding decode
  decode_encode = λ i.
      record {
        own = (head_at i).own;
        table = (head_at i).table;
        clock = (head_at i).clock;
        watermark = (head_at i).watermark;
        own_dots = (ap decode_dots block_1 ∙ dots_back 1 s.own_dots S.own) i;
        foreign_dots = (ap decode_dots block_2 ∙ dots_back 2 s.foreign_dots S.foreign) i;
        points = points_at i;
      }
