-- A list of dots with one entry more or less in its bytes is the list that says so. Assumes nothing.
use Prim.Native.Nat.{ℕ, ◌+◌, ◌*◌, ◌-◌, ◌≤◌, ◌<◌}
use mathlib.Core.Path.{◌≡◌, refl, ap, ap₂, sym, ◌∙◌, subst}
use mathlib.Core.List.Memᴰ
use mathlib.Core.List.{List, [], ◌∷◌, ◌++◌, append_assoc, append-nil}
use native.Mathlib.Omega.{arith}
use lib.ListN.{length, take, length-append, length-take, length-drop}
use Rattle.numbers.specs.declared.Dot.{Dot}
use Rattle.numbers.specs.declared.Key.{Key}
use Rattle.numbers.specs.Words.{concat_map}
use Rattle.block.specs.Fields.{le, cut, splice, insert_at, remove_at, field, zeros, pad}
use Rattle.block.specs.Check.{seal}
use Rattle.block.specs.Block.{body, make_block, resealed, Laid}
use Rattle.block.proofs.Numbers.{Bytes, le_length, field_bound}
use Rattle.block.proofs.Parts.{splice_middle, splice_append}
use Rattle.block.proofs.Arrays.{upto_same, all_of_splice, only}
use Rattle.block.proofs.Content.{body_length, position_of}
use Rattle.block.proofs.Edits.{pad_past, inside_insert, inside_remove}
use Rattle.block.proofs.Resealed.{Body, cut_resealed, field_resealed, body_of, body_put, body_move, body_resealed, sealed_body, edited}
use Rattle.meaning.specs.State.{Listed}
use Rattle.layout.specs.Image.{encode_entry, decode_entry, encode_dots, decode_dots}
use Rattle.layout.proofs.ImageBack.{EntrySized, entry_length, DotsSized, dots_short, dots_length, dots_back, dots_number}
use Rattle.layout.proofs.Decoded.{dots_decoded}
use Rattle.dots.specs.DotsBlock.{lay_dots, dots_block, with_dots}

-- what is read of a list does not look at its check
list_resealed : (b : List ℕ) → length b ≡ 512 → dots_block b ≡ dots_block (resealed b)
unfolding decode_dots
list_resealed b e = λ i.
    record {
      position = sym (field_resealed b e 2 2 (omega arith)) i;
      dots = take (sym (field_resealed b e 4 2 (omega arith)) i)
          (upto_same 60 (λ k. decode_entry (cut b (8 + 8 * k) 8)) (λ k. decode_entry (cut (resealed b) (8 + 8 * k) 8)) (λ k l. ap decode_entry (sym (cut_resealed b e (8 + 8 * k) 8 (omega arith)))) i);
    }

-- the eight bytes before the entries
abbrev first : ℕ → ℕ → List ℕ
first position n = le 1 2 ++ (le 1 1 ++ (le 2 position ++ (le 2 n ++ le 2 0)))

first_length : (position n : ℕ) → length (first position n) ≡ 8
first_length position n = simp (length-append, le_length) (omega arith)

-- the bytes of a list before its check: those eight, and the entries padded with zeros
abbrev bytes : ℕ → ℕ → List Listed → List ℕ
bytes position n ls = first position n ++ (pad 500 (concat_map encode_entry ls) ++ [])

bytes_are : (position : ℕ) (ls : List Listed) → body 2 1 position (le 2 (length ls) ++ (le 2 0 ++ concat_map encode_entry ls)) ≡ bytes position (length ls) ls
bytes_are position ls =
    ap (λ (l : List ℕ). le 1 2 ++ (le 1 1 ++ (le 2 position ++ l)))
    (pad_past 502 2 (le 2 (length ls)) (le 2 0 ++ concat_map encode_entry ls) (le_length 2 (length ls)) ∙ ap (λ (l : List ℕ). le 2 (length ls) ++ l) (pad_past 500 2 (le 2 0) (concat_map encode_entry ls) (le_length 2 0)))
    ∙ sym (ap (λ (l : List ℕ). first position (length ls) ++ l) (append-nil (pad 500 (concat_map encode_entry ls))) ∙ simp append_assoc)

count_put : (position n m : ℕ) (l : List ℕ) → splice (first position n ++ l) 4 2 (le 2 m) ≡ first position m ++ l
count_put position n m l =
    ap (λ (z : List ℕ). splice z 4 2 (le 2 m)) (apart n)
    ∙ splice_middle (le 1 2 ++ (le 1 1 ++ le 2 position)) (le 2 n) (le 2 0 ++ l) 4 2 (le 2 m) (simp (length-append, le_length) (omega arith)) (le_length 2 n)
    ∙ sym (apart m)
  where
    apart : (k : ℕ) → first position k ++ l ≡ (le 1 2 ++ (le 1 1 ++ le 2 position)) ++ (le 2 k ++ (le 2 0 ++ l))
    apart k = simp append_assoc

-- ---- an entry, by the stores that make it

pub entry_put : (b b1 b2 b3 x : List ℕ) (at : ℕ) (d : Dot) (k : Key) → at + 8 ≤ length b → b1 ≡ splice b at 1 (le 1 d.who.0) → b2 ≡ splice b1 (at + 1) 1 (le 1 k.job) → b3 ≡ splice b2 (at + 2) 2 (le 2 k.point.0)
    → x ≡ splice b3 (at + 4) 4 (le 4 d.count.0) → x ≡ splice b at 8 (encode_entry (record { dot = d; key = k }))
unfolding encode_entry
entry_put b b1 b2 b3 x at d k room p1 p2 p3 p4 =
    p4
    ∙ ap (λ (z : List ℕ). splice z (at + 4) 4 n4) (p3 ∙ ap (λ (z : List ℕ). splice z (at + 2) 2 n3) (p2 ∙ ap (λ (z : List ℕ). splice z (at + 1) 1 n2) p1 ∙ splice_append b at 1 1 n1 n2 (omega arith) (le_length 1 d.who.0) (le_length 1 k.job))
    ∙ splice_append b at 2 2 (n1 ++ n2) n3 (omega arith) two (le_length 2 k.point.0))
    ∙ splice_append b at 4 4 ((n1 ++ n2) ++ n3) n4 (omega arith) four (le_length 4 d.count.0)
    ∙ ap (splice b at 8) flat
  where
    flat : ((le 1 d.who.0 ++ le 1 k.job) ++ le 2 k.point.0) ++ le 4 d.count.0 ≡ le 1 d.who.0 ++ (le 1 k.job ++ (le 2 k.point.0 ++ le 4 d.count.0))
    flat = simp append_assoc

    n1 : List ℕ
    n1 = le 1 d.who.0

    n2 : List ℕ
    n2 = le 1 k.job

    n3 : List ℕ
    n3 = le 2 k.point.0

    n4 : List ℕ
    n4 = le 4 d.count.0

    two : length (le 1 d.who.0 ++ le 1 k.job) ≡ 2
    two = simp (length-append, le_length) (omega arith)

    four : length ((le 1 d.who.0 ++ le 1 k.job) ++ le 2 k.point.0) ≡ 4
    four = simp (length-append, le_length) (omega arith)

-- ---- the list

-- with one more, and with one less, it is within its sizes still
pub insert_sized : (ls : List Listed) (i : ℕ) (l : Listed) → DotsSized ls → EntrySized l → i ≤ length ls → length ls < 60 → DotsSized (insert_at ls i l)
insert_sized ls i l S fits low few = record { few = omega (arith, count); each = all_of_splice EntrySized ls i 0 (l ∷ []) S.each (only EntrySized l fits) }
  where
    count : length (insert_at ls i l) ≡ length ls + 1
    count = simp (length-append, length-take, length-drop) (omega arith)

pub remove_sized : (ls : List Listed) (i : ℕ) → DotsSized ls → i < length ls → DotsSized (remove_at ls i)
remove_sized ls i S low = record { few = omega (arith, count, S.few); each = all_of_splice EntrySized ls i 1 [] S.each (λ y m. absurd (Memᴰ.not-nil m)) }
  where
    count : length (remove_at ls i) + 1 ≡ length ls
    count = simp (length-append, length-take, length-drop) (omega arith)

pub list_position : (position : ℕ) (ls : List Listed) → position < 65536 → DotsSized ls → field (encode_dots position ls) 2 2 ≡ position
unfolding encode_dots
list_position position ls h S = position_of 2 1 position (le 2 (length ls) ++ (le 2 0 ++ concat_map encode_entry ls)) (dots_short position ls S) h

-- a list that is laid out, its check too, is so but for its check
pub list_laid : (position : ℕ) (ls : List Listed) → position < 65536 → DotsSized ls → (b : List ℕ) → b ≡ encode_dots position ls → Laid lay_dots dots_block b
list_laid position ls h S b e =
    (edited lay_dots dots_block (record { position = position; dots = ls }) b (list_resealed b size) back
    (body_resealed (sealed_body (body 2 1 position (le 2 (length ls) ++ (le 2 0 ++ concat_map encode_entry ls))) b size (body_length 2 1 position (le 2 (length ls) ++ (le 2 0 ++ concat_map encode_entry ls)) (dots_short position ls S)) (e ∙ (unfold encode_dots make_block in refl)))
    ∙ (unfold encode_dots make_block in refl))).1
  where
    size : length b ≡ 512
    size = ap length e ∙ dots_length position ls S

    back : dots_block (encode_dots position ls) ≡ record { position = position; dots = ls }
    back = λ i. record { position = list_position position ls h S i; dots = dots_back position ls S i }

module _ (b : List ℕ) (small : Bytes b) (size : length b ≡ 512) (laid : Laid lay_dots dots_block b) where
  abbrev ls : List Listed
  ls = decode_dots b

  abbrev position : ℕ
  position = field b 2 2

  S : DotsSized (decode_dots b)
  S = dots_decoded b small size

  pub few_dots : length (decode_dots b) ≤ 60
  few_dots = S.few

  pub count_is : field b 4 2 ≡ length (decode_dots b)
  count_is = sym (field_resealed b size 4 2 (omega arith)) ∙ ap (λ (z : List ℕ). field z 4 2) laid ∙ dots_number position ls S

  was : Body b (bytes (field b 2 2) (length (decode_dots b)) (decode_dots b))
  was =
      subst (Body b) (bytes_are position ls)
      (body_of b size (body 2 1 position (le 2 (length ls) ++ (le 2 0 ++ concat_map encode_entry ls))) (body_length 2 1 position (le 2 (length ls) ++ (le 2 0 ++ concat_map encode_entry ls)) (dots_short position ls S)) (laid ∙ (unfold encode_dots make_block in refl)))

  becomes : (x : List ℕ) (ms : List Listed) → DotsSized ms → Body x (bytes (field b 2 2) (length ms) ms) → (dots_block x ≡ with_dots (dots_block b) ms) × Laid lay_dots dots_block x
  becomes x ms M B =
      edited lay_dots dots_block (with_dots (dots_block b) ms) x (list_resealed x B.size) back
      (body_resealed B ∙ ap seal (sym (bytes_are position ms)) ∙ (unfold encode_dots make_block in refl))
    where
      back : dots_block (encode_dots position ms) ≡ with_dots (dots_block b) ms
      back = λ i.
          record {
            position = list_position position ms (field_bound b 2 2 small (omega arith)) M i;
            dots = dots_back position ms M i;
          }

  module _ (i n : ℕ) (n_is : n ≡ field b 4 2) where
    pub n_length : n ≡ length (decode_dots b)
    n_length = n_is ∙ count_is

    pub dot_inserted : (d : Dot) (k : Key) (b1 b2 x : List ℕ) → i ≤ length (decode_dots b) → length (decode_dots b) < 60 → EntrySized (record { dot = d; key = k })
        → b1 ≡ splice b (8 + 8 * i + 8) (8 * (n - i)) (cut b (8 + 8 * i) (8 * (n - i))) → b2 ≡ splice b1 (8 + 8 * i) 8 (encode_entry (record { dot = d; key = k })) → x ≡ splice b2 4 2 (le 2 (n + 1))
        → (dots_block x ≡ with_dots (dots_block b) (insert_at (decode_dots b) i (record { dot = d; key = k }))) × Laid lay_dots dots_block x
    dot_inserted d k b1 b2 x low few fits p1 p2 p3 =
        becomes x (insert_at ls i l) sized
        (subst (Body x) (ap (λ (z : List ℕ). splice z 4 2 (le 2 (n + 1))) done ∙ count_put position (length ls) (n + 1) (pad 500 (concat_map encode_entry (insert_at ls i l)) ++ []) ∙ ap (λ (m : ℕ). bytes position m (insert_at ls i l)) more)
        (body_put 4 2 (le 2 (n + 1)) step_2 (omega arith) (le_length 2 (n + 1)) p3))
      where
        l : Listed
        l = record { dot = d; key = k }

        more : n + 1 ≡ length (insert_at (decode_dots b) i l)
        more = sym (simp (length-append, length-take, length-drop) (omega (arith, n_length)))

        sized : DotsSized (insert_at (decode_dots b) i l)
        sized = insert_sized ls i l S fits low few

        step_1 : Body b1 (splice (bytes (field b 2 2) (length (decode_dots b)) (decode_dots b)) (8 + 8 * i + 8) (8 * (n - i)) (cut (bytes (field b 2 2) (length (decode_dots b)) (decode_dots b)) (8 + 8 * i) (8 * (n - i))))
        step_1 = body_move (8 + 8 * i) (8 + 8 * i + 8) (8 * (n - i)) was (omega (arith, n_length)) (omega (arith, n_length)) p1

        step_2 : Body b2 (splice (splice (bytes (field b 2 2) (length (decode_dots b)) (decode_dots b)) (8 + 8 * i + 8) (8 * (n - i)) (cut (bytes (field b 2 2) (length (decode_dots b)) (decode_dots b)) (8 + 8 * i) (8 * (n - i)))) (8 + 8 * i) 8 (encode_entry l))
        step_2 = body_put (8 + 8 * i) 8 (encode_entry l) step_1 (omega (arith, n_length)) (entry_length l) p2

        done : splice (splice (bytes (field b 2 2) (length (decode_dots b)) (decode_dots b)) (8 + 8 * i + 8) (8 * (n - i)) (cut (bytes (field b 2 2) (length (decode_dots b)) (decode_dots b)) (8 + 8 * i) (8 * (n - i)))) (8 + 8 * i) 8 (encode_entry l)
            ≡ bytes (field b 2 2) (length (decode_dots b)) (insert_at (decode_dots b) i l)
        done =
            ap (λ (m : ℕ). splice (splice (bytes position (length ls) ls) (8 + 8 * i + 8) (8 * (m - i)) (cut (bytes position (length ls) ls) (8 + 8 * i) (8 * (m - i)))) (8 + 8 * i) 8 (encode_entry l)) n_length
            ∙ inside_insert 8 500 encode_entry ls (λ y m. entry_length y) (first position (length ls)) [] 8 (first_length position (length ls)) (omega arith) l i low (entry_length l) (omega arith)

    pub dot_removed : (b1 b2 x : List ℕ) → i < length (decode_dots b) → b1 ≡ splice b (8 + 8 * i) (8 * (n - i - 1)) (cut b (8 + 8 * i + 8) (8 * (n - i - 1))) → b2 ≡ splice b1 (8 * n) (8 * n + 8 - 8 * n) (zeros (8 * n + 8 - 8 * n)) → x ≡ splice b2 4 2 (le 2 (n - 1))
        → (dots_block x ≡ with_dots (dots_block b) (remove_at (decode_dots b) i)) × Laid lay_dots dots_block x
    dot_removed b1 b2 x low p1 p2 p3 =
        becomes x (remove_at ls i) sized
        (subst (Body x) (ap (λ (z : List ℕ). splice z 4 2 (le 2 (n - 1))) done ∙ count_put position (length ls) (n - 1) (pad 500 (concat_map encode_entry (remove_at ls i)) ++ []) ∙ ap (λ (m : ℕ). bytes position m (remove_at ls i)) fewer)
        (body_put 4 2 (le 2 (n - 1)) step_2 (omega arith) (le_length 2 (n - 1)) p3))
      where
        fewer : n - 1 ≡ length (remove_at (decode_dots b) i)
        fewer = sym (simp (length-append, length-take, length-drop) (omega (arith, n_length)))

        sized : DotsSized (remove_at (decode_dots b) i)
        sized = remove_sized ls i S low

        eight : 8 * n + 8 - 8 * n ≡ 8
        eight = omega arith

        last_place : 8 * n ≡ 8 + 8 * (length (decode_dots b) - 1)
        last_place = omega (arith, n_length)

        step_1 : Body b1 (splice (bytes (field b 2 2) (length (decode_dots b)) (decode_dots b)) (8 + 8 * i) (8 * (n - i - 1)) (cut (bytes (field b 2 2) (length (decode_dots b)) (decode_dots b)) (8 + 8 * i + 8) (8 * (n - i - 1))))
        step_1 = body_move (8 + 8 * i + 8) (8 + 8 * i) (8 * (n - i - 1)) was (omega (arith, n_length, S.few)) (omega (arith, n_length, S.few)) p1

        step_2 : Body b2 (splice (splice (bytes (field b 2 2) (length (decode_dots b)) (decode_dots b)) (8 + 8 * i) (8 * (n - i - 1)) (cut (bytes (field b 2 2) (length (decode_dots b)) (decode_dots b)) (8 + 8 * i + 8) (8 * (n - i - 1)))) (8 + 8 * (length (decode_dots b) - 1)) 8 (zeros 8))
        step_2 = body_put (8 + 8 * (length ls - 1)) 8 (zeros 8) step_1 (omega (arith, n_length, S.few)) refl (p2 ∙ ap₂ (λ (o m : ℕ). splice b1 o m (zeros m)) last_place eight)

        done : splice (splice (bytes (field b 2 2) (length (decode_dots b)) (decode_dots b)) (8 + 8 * i) (8 * (n - i - 1)) (cut (bytes (field b 2 2) (length (decode_dots b)) (decode_dots b)) (8 + 8 * i + 8) (8 * (n - i - 1)))) (8 + 8 * (length (decode_dots b) - 1)) 8 (zeros 8)
            ≡ bytes (field b 2 2) (length (decode_dots b)) (remove_at (decode_dots b) i)
        done =
            ap (λ (m : ℕ). splice (splice (bytes position (length ls) ls) (8 + 8 * i) (8 * (m - i - 1)) (cut (bytes position (length ls) ls) (8 + 8 * i + 8) (8 * (m - i - 1)))) (8 + 8 * (length ls - 1)) 8 (zeros 8)) n_length
            ∙ inside_remove 8 500 encode_entry ls (λ y m. entry_length y) (first position (length ls)) [] 8 (first_length position (length ls)) (omega (arith, S.few)) i low
