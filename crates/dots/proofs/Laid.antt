-- The entries of a dots block, and when the block is laid out as it should be, part by part. Assumes nothing.
use Prim.Native.Nat.{ℕ, zero, ◌+◌, ◌*◌, ◌-◌, ◌≤◌, ◌<◌}
use mathlib.Core.Path.{◌≡◌, refl, ap, ap₂, sym, ◌∙◌}
use mathlib.Core.Bool.{Bool, true, false, ◌&&◌}
use mathlib.Core.List.{List, [], ◌∷◌, ◌++◌, append_assoc}
use native.Mathlib.Omega.{arith}
use lib.ListN.{length, take, drop, get_or, length-append, length-replicate}
use lib.Seq.{take_all, take-add, drop-drop}
use lib.Dec.{eqb, leb}
use borrow.Author.Tests.{eq-eqb, ne_eqb, le-leb, lt-leb, leb-true, leb-false}
use Rattle.numbers.specs.Words.{every, concat_map, same_list}
use Rattle.numbers.proofs.Tests.{by_test}
use Rattle.numbers.proofs.Lists.{Passed, failed, last_test}
use Rattle.block.proofs.Begins.{not_first}
use Rattle.numbers.specs.Dot.{dot}
use Rattle.numbers.specs.Key.{key}
use Rattle.block.specs.Fields.{le, cut, field, zeros, pad, upto}
use Rattle.block.specs.Check.{sealed}
use Rattle.block.proofs.Parts.{length_cut, cut_cut}
use Rattle.block.proofs.Numbers.{Bytes, le_field, le_length, bytes_cut}
use Rattle.block.proofs.Arrays.{upto_same, upto_length, take_upto, array_length}
use Rattle.block.proofs.Same.{same_of, same_number, same_zeros, same_cut, same_then, zero_at, zero_then, array_again, same_block}
use Rattle.meaning.specs.State.{Listed}
use Rattle.layout.specs.Image.{encode_entry, decode_entry, encode_dots, decode_dots}
use Rattle.layout.proofs.ImageBack.{entry_length}
use Rattle.parts.proofs.Lookup.{field_of_cut}
use Rattle.dots.specs.Entries.{entry}

-- ---- the entries

-- those of a block, one for each number below their count
pub entries_are : (b : List ℕ) → field b 4 2 ≤ 60 → decode_dots b ≡ upto (field b 4 2) (entry b)
unfolding decode_dots
entries_are b h = take_upto (field b 4 2) 60 (entry b) h

pub entries_length : (b : List ℕ) → field b 4 2 ≤ 60 → length (decode_dots b) ≡ field b 4 2
entries_length b h = ap length (entries_are b h) ∙ upto_length (field b 4 2) (entry b)

-- the fields of entry i, as they stand in the block
pub entry_fields : (b : List ℕ) (i : ℕ) → entry b i ≡ record { dot = dot (field b (8 + 8 * i) 1) (field b (8 + 8 * i + 4) 4); key = key (field b (8 + 8 * i + 1) 1) (field b (8 + 8 * i + 2) 2) }
unfolding decode_entry
entry_fields b i = λ j.
    record {
      dot = dot ((part 0 1 (omega arith) ∙ ap (λ (o : ℕ). field b o 1) here) j) (part 4 4 (omega arith) j);
      key = key (part 1 1 (omega arith) j) (part 2 2 (omega arith) j);
    }
  where
    part : (o n : ℕ) → o + n ≤ 8 → field (cut b (8 + 8 * i) 8) o n ≡ field b (8 + 8 * i + o) n
    part o n l = field_of_cut b (8 + 8 * i) 8 o n l

    here : 8 + 8 * i + 0 ≡ 8 + 8 * i
    here = omega arith

-- an entry that is written back
entry_again : (l : List ℕ) → length l ≡ 8 → Bytes l → encode_entry (decode_entry l) ≡ l
unfolding encode_entry decode_entry
entry_again l e h =
    ap₂ ◌++◌ (le_field l 0 1 h (omega arith)) (ap₂ ◌++◌ (le_field l 1 1 h (omega arith)) (ap₂ ◌++◌ (le_field l 2 2 h (omega arith)) (le_field l 4 4 h (omega arith))))
    ∙ ap (λ (x : List ℕ). cut l 0 1 ++ (cut l 1 1 ++ x)) (joined 2 2 4)
    ∙ ap (λ (x : List ℕ). cut l 0 1 ++ x) (joined 1 1 6)
    ∙ joined 0 1 7
    ∙ take_all 8 l (omega arith)
  where
    joined : (o m n : ℕ) → cut l o m ++ cut l (o + m) n ≡ cut l o (m + n)
    joined o m n = sym (take-add m n (drop o l) ∙ ap (λ (x : List ℕ). cut l o m ++ take n x) (drop-drop m o l))

-- the first n of them
entries_again : (b : List ℕ) (n : ℕ) → Bytes b → 8 + 8 * n ≤ length b → concat_map encode_entry (upto n (entry b)) ≡ cut b 8 (8 * n)
entries_again b n h l =
    ap (concat_map encode_entry)
    (upto_same n (entry b) (λ i. decode_entry (cut (cut b 8 (8 * n)) (8 * i) 8)) (λ i k. ap decode_entry (sym (cut_cut b 8 (8 * n) (8 * i) 8 (omega arith)))))
    ∙ array_again 8 encode_entry decode_entry n (cut b 8 (8 * n)) (bytes_cut b 8 (8 * n) h) (length_cut b 8 (8 * n) l) (λ x _. entry_length (decode_entry x)) entry_again

-- ---- the block

module _ (b : List ℕ) (h : Bytes b) (e : length b ≡ 512) (position : ℕ) (small : position < 65536) where
  -- of up to 60 entries, as 8 * k bytes
  module _ (ls : List Listed) (k : ℕ) (many : length ls ≡ k) (few : k ≤ 60) where
    abbrev entries : List ℕ
    entries = concat_map encode_entry ls

    abbrev rest : ℕ
    rest = 508 - (8 + 8 * k)

    size : length entries ≡ 8 * k
    size = array_length 8 encode_entry ls (λ l _. entry_length l) ∙ ap (λ (n : ℕ). 8 * n) many

    abbrev content : List ℕ
    content = le 2 (length ls) ++ (le 2 0 ++ entries)

    content_length : length content ≡ 4 + 8 * k
    content_length = simp (length-append, le_length, size) (omega arith)

    tail_length : length (entries ++ zeros rest) ≡ 500
    tail_length = length-append entries (zeros rest) ∙ omega (arith, size, length-replicate rest zero)

    padded : pad 504 content ≡ le 2 k ++ (zeros 2 ++ (entries ++ zeros rest))
    unfolding pad le
    padded =
        ap₂ (λ (n m : ℕ). (le 2 n ++ (le 2 0 ++ entries)) ++ zeros m) many left
        ∙ append_assoc (le 2 k) (le 2 0 ++ entries) (zeros rest)
        ∙ ap (λ (l : List ℕ). le 2 k ++ l) (append_assoc (le 2 0) entries (zeros rest))
      where
        left : 504 - length content ≡ rest
        left = omega (arith, content_length)

    content_same : same_list (pad 504 content) (cut b 4 504) ≡ (eqb (field b 4 2) k && (zero_at b 6 2 && same_list (entries ++ zeros rest) (cut b 8 500)))
    content_same =
        ap (λ (l : List ℕ). same_list l (cut b 4 504)) padded
        ∙ same_cut (le 2 k) (zeros 2 ++ (entries ++ zeros rest)) b 4 2 502 (le_length 2 k)
        (length-append (zeros 2) (entries ++ zeros rest) ∙ omega (arith, tail_length)) (omega arith)
        ∙ ap₂ ◌&&◌ (same_number b 4 2 k h (omega arith) (omega arith)) (zero_then (entries ++ zeros rest) b 6 2 500 tail_length (omega arith))

    made_same : same_list (encode_dots position ls) b
        ≡ ((eqb (field b 0 1) 2 && (eqb (field b 1 1) 1 && (eqb (field b 2 2) position && (eqb (field b 4 2) k && (zero_at b 6 2 && same_list (entries ++ zeros rest) (cut b 8 500)))))) && sealed b)
    unfolding encode_dots
    made_same =
        same_block 2 1 position content b h e (omega (arith, content_length)) (omega arith) (omega arith) small
        ∙ ap (λ (t : Bool). (eqb (field b 0 1) 2 && (eqb (field b 1 1) 1 && (eqb (field b 2 2) position && t))) && sealed b) content_same

    -- where they stand in the block, what can be wrong behind them is an unused byte
    behind : entries ≡ cut b 8 (8 * k) → same_list (entries ++ zeros rest) (cut b 8 500) ≡ zero_at b (8 + 8 * k) rest
    behind p =
        let whole : 500 ≡ 8 * k + rest = omega arith in
        ap (λ (n : ℕ). same_list (entries ++ zeros rest) (cut b 8 n)) whole
        ∙ same_then entries (zeros rest) b 8 (8 * k) rest size (length-replicate rest zero) (omega arith) true (same_of entries (cut b 8 (8 * k)) p)
        ∙ same_zeros rest (cut b (8 + 8 * k) rest) (length_cut b (8 + 8 * k) rest (omega arith))

  -- what is asked of the block, in the code's order
  abbrev pub dots_tests : List Bool
  dots_tests =
      eqb (field b 0 1) 2
      ∷ eqb (field b 1 1) 1
      ∷ eqb (field b 2 2) position
      ∷ leb (field b 4 2) 60
      ∷ zero_at b 6 2
      ∷ zero_at b (8 + 8 * field b 4 2) (508 - (8 + 8 * field b 4 2))
      ∷ sealed b
      ∷ []

  in_order : (k f p c z y s : Bool) → ((k && (f && (p && (c && (z && y))))) && s) ≡ every (k ∷ f ∷ p ∷ c ∷ z ∷ y ∷ s ∷ [])
  in_order true true true true true true true = refl
  in_order true true true true true true false = refl
  in_order true true true true true false s = refl
  in_order true true true true false y s = refl
  in_order true true true false z y s = refl
  in_order true true false c z y s = refl
  in_order true false p c z y s = refl
  in_order false f p c z y s = refl

  abbrev count : ℕ
  count = field b 4 2

  few_same : count ≤ 60 → same_list (encode_dots position (decode_dots b)) b ≡ every dots_tests
  few_same few =
      ap (λ (l : List Listed). same_list (encode_dots position l) b) (entries_are b few)
      ∙ made_same (upto count (entry b)) count (upto_length count (entry b)) few
      ∙ ap₂ (λ (c y : Bool). (eqb (field b 0 1) 2 && (eqb (field b 1 1) 1 && (eqb (field b 2 2) position && (c && (zero_at b 6 2 && y))))) && sealed b)
      (eq-eqb count count refl ∙ sym (le-leb count 60 few))
      (behind (upto count (entry b)) count (upto_length count (entry b)) few (entries_again b count h (omega arith)))
      ∙ in_order (eqb (field b 0 1) 2) (eqb (field b 1 1) 1) (eqb (field b 2 2) position) (leb count 60) (zero_at b 6 2) (zero_at b (8 + 8 * count) (508 - (8 + 8 * count))) (sealed b)

  -- sixty entries, and the count says more
  full_same : (other : Bool) → 60 < count
      → ((eqb (field b 0 1) 2 && (eqb (field b 1 1) 1 && (eqb (field b 2 2) position && (eqb count 60 && (zero_at b 6 2 && other))))) && sealed b) ≡ every dots_tests
  full_same other far =
      in_order (eqb (field b 0 1) 2) (eqb (field b 1 1) 1) (eqb (field b 2 2) position) (eqb count 60) (zero_at b 6 2) other (sealed b)
      ∙ sym (failed (eqb (field b 0 1) 2 ∷ eqb (field b 1 1) 1 ∷ eqb (field b 2 2) position ∷ eqb count 60 ∷ zero_at b 6 2 ∷ other ∷ sealed b ∷ []) 3 (ne_eqb count 60 (λ z. omega arith)))
      ∙ failed dots_tests 3 (lt-leb count 60 far)

  many_same : 60 < count → same_list (encode_dots position (decode_dots b)) b ≡ every dots_tests
  unfolding decode_dots
  many_same far =
      ap (λ (l : List Listed). same_list (encode_dots position l) b) (take_all count (upto 60 (entry b)) (omega (arith, upto_length 60 (entry b))))
      ∙ made_same (upto 60 (entry b)) 60 (upto_length 60 (entry b)) (omega arith)
      ∙ full_same (same_list (concat_map encode_entry (upto 60 (entry b)) ++ zeros 20) (cut b 8 500)) far

  dots_same : same_list (encode_dots position (decode_dots b)) b ≡ every dots_tests
  dots_same = by_test (leb (field b 4 2) 60) (λ t. few_same (leb-true (field b 4 2) 60 t)) (λ t. many_same (leb-false (field b 4 2) 60 t))

  pub not_laid_out : (i : ℕ) → get_or dots_tests i true ≡ false → false ≡ same_list (encode_dots position (decode_dots b)) b
  not_laid_out i t = failed dots_tests i t ∙ sym dots_same

  pub begins_otherwise : every (take 3 dots_tests) ≡ false → false ≡ same_list (encode_dots position (decode_dots b)) b
  begins_otherwise t = sym (dots_same ∙ not_first 3 dots_tests t)

  pub laid_out : Passed (take 6 dots_tests) → sealed b ≡ same_list (encode_dots position (decode_dots b)) b
  laid_out p = last_test (take 6 dots_tests) (sealed b) p ∙ sym dots_same
