-- When a head is laid out as it should be, part by part. Assumes nothing.
use Prim.Native.Nat.{ℕ, zero, ◌+◌, ◌-◌}
use mathlib.Core.Path.{◌≡◌, refl, ap, sym, ◌∙◌}
use mathlib.Core.Bool.{Bool, true, false, ◌&&◌}
use mathlib.Core.List.{List, [], ◌∷◌, ◌++◌, append_assoc}
use native.Mathlib.Omega.{arith}
use lib.ListN.{length, take, get_or, length-append, length-replicate}
use lib.Dec.{eqb}
use Rattle.numbers.specs.Words.{every, concat_map, same_list}
use Rattle.numbers.specs.Numbers.{controller}
use Rattle.block.specs.Fields.{le, cut, field, zeros, pad, upto}
use Rattle.block.specs.Check.{sealed}
use Rattle.block.specs.Block.{make_block}
use Rattle.block.proofs.Parts.{length_cut}
use Rattle.block.proofs.Numbers.{Bytes, le_field, le_length, bytes_of, bytes_cut}
use Rattle.block.proofs.Same.{same_of, same_then, zero_at, zero_then, same_zeros, same_block}
use Rattle.layout.specs.Clocks.{encode_clock, decode_clock}
use Rattle.layout.specs.Image.{encode_marks, decode_marks, encode_head, decode_head}
use mir.Syntax.{w8}
use mir.Val.{Fits}
use Rattle.numbers.proofs.Lists.{Passed, failed, last_test}
use Rattle.block.proofs.Begins.{not_first}
use Rattle.head.specs.HeadParts.{head_of_parts}
use Rattle.head.proofs.Again.{clock_again, marks_again, bytes_again, part_bytes}

-- the head's content, of parts that are as they stand in the block: what of it can be wrong is its unused bytes
module _ (b : List ℕ) (e : length b ≡ 512) (own table clock marks : List ℕ)
    (own_same : own ≡ cut b 4 1) (table_same : table ≡ cut b 8 8) (clock_same : clock ≡ cut b 16 96) (marks_same : marks ≡ cut b 112 256) where
  own_length : length own ≡ 1
  own_length = ap length own_same ∙ length_cut b 4 1 (omega arith)

  table_length : length table ≡ 8
  table_length = ap length table_same ∙ length_cut b 8 8 (omega arith)

  clock_length : length clock ≡ 96
  clock_length = ap length clock_same ∙ length_cut b 16 96 (omega arith)

  marks_length : length marks ≡ 256
  marks_length = ap length marks_same ∙ length_cut b 112 256 (omega arith)

  abbrev content : List ℕ
  content = own ++ (le 3 0 ++ (table ++ (clock ++ marks)))

  content_length : length content ≡ 364
  content_length = simp (length-append, le_length, own_length, table_length, clock_length, marks_length) (omega arith)

  padded : pad 504 content ≡ own ++ (zeros 3 ++ (table ++ (clock ++ (marks ++ zeros 140))))
  unfolding pad le
  padded =
      ap (λ (n : ℕ). content ++ zeros (504 - n)) content_length
      ∙ append_assoc own (le 3 0 ++ (table ++ (clock ++ marks))) (zeros 140)
      ∙ ap (λ (l : List ℕ). own ++ l)
      (append_assoc (le 3 0) (table ++ (clock ++ marks)) (zeros 140)
      ∙ ap (λ (l : List ℕ). le 3 0 ++ l)
      (append_assoc table (clock ++ marks) (zeros 140) ∙ ap (λ (l : List ℕ). table ++ l) (append_assoc clock marks (zeros 140))))

  -- the lengths of what follows
  from_368 : length (zeros 140) ≡ 140
  from_368 = length-replicate 140 zero

  from_112 : length (marks ++ zeros 140) ≡ 396
  from_112 = length-append marks (zeros 140) ∙ omega (arith, marks_length, from_368)

  from_16 : length (clock ++ (marks ++ zeros 140)) ≡ 492
  from_16 = length-append clock (marks ++ zeros 140) ∙ omega (arith, clock_length, from_112)

  from_8 : length (table ++ (clock ++ (marks ++ zeros 140))) ≡ 500
  from_8 = length-append table (clock ++ (marks ++ zeros 140)) ∙ omega (arith, table_length, from_16)

  from_5 : length (zeros 3 ++ (table ++ (clock ++ (marks ++ zeros 140)))) ≡ 503
  from_5 = length-append (zeros 3) (table ++ (clock ++ (marks ++ zeros 140))) ∙ omega (arith, length-replicate 3 zero, from_8)

  content_same : same_list (pad 504 content) (cut b 4 504) ≡ (zero_at b 5 3 && zero_at b 368 140)
  content_same =
      ap (λ (l : List ℕ). same_list l (cut b 4 504)) padded
      ∙ same_then own (zeros 3 ++ (table ++ (clock ++ (marks ++ zeros 140)))) b 4 1 503 own_length from_5 (omega arith) true (same_of own _ own_same)
      ∙ zero_then (table ++ (clock ++ (marks ++ zeros 140))) b 5 3 500 from_8 (omega arith)
      ∙ ap (λ (t : Bool). zero_at b 5 3 && t)
      (same_then table (clock ++ (marks ++ zeros 140)) b 8 8 492 table_length from_16 (omega arith) true (same_of table _ table_same)
      ∙ same_then clock (marks ++ zeros 140) b 16 96 396 clock_length from_112 (omega arith) true (same_of clock _ clock_same)
      ∙ same_then marks (zeros 140) b 112 256 140 marks_length from_368 (omega arith) true (same_of marks _ marks_same)
      ∙ same_zeros 140 (cut b 368 140) (length_cut b 368 140 (omega arith)))

  made_same : Bytes b → same_list (make_block 1 1 0 content) b
      ≡ ((eqb (field b 0 1) 1 && (eqb (field b 1 1) 1 && (eqb (field b 2 2) 0 && (zero_at b 5 3 && zero_at b 368 140)))) && sealed b)
  made_same h =
      same_block 1 1 0 content b h e (omega (arith, content_length)) (omega arith) (omega arith) (omega arith)
      ∙ ap (λ (t : Bool). (eqb (field b 0 1) 1 && (eqb (field b 1 1) 1 && (eqb (field b 2 2) 0 && t))) && sealed b) content_same

pub table_is : (b : List ℕ) → length b ≡ 512 → upto 8 (λ i. field b (8 + i) 1) ≡ cut b 8 8
table_is b e = part_bytes b 8 8 (omega arith)

-- what is asked of the block, in the code's order
abbrev pub head_tests : List ℕ → List Bool
head_tests b = eqb (field b 0 1) 1 ∷ eqb (field b 1 1) 1 ∷ eqb (field b 2 2) 0 ∷ zero_at b 5 3 ∷ zero_at b 368 140 ∷ sealed b ∷ []

in_order : (k f p z y s : Bool) → ((k && (f && (p && (z && y)))) && s) ≡ every (k ∷ f ∷ p ∷ z ∷ y ∷ s ∷ [])
in_order true true true true true true = refl
in_order true true true true true false = refl
in_order true true true true false s = refl
in_order true true true false y s = refl
in_order true true false z y s = refl
in_order true false p z y s = refl
in_order false f p z y s = refl

pub head_same : (b : List ℕ) → Bytes b → length b ≡ 512 → same_list (encode_head (decode_head b)) b ≡ every (head_tests b)
unfolding encode_head decode_head
head_same b h e =
    made_same b e (le 1 (field b 4 1)) (concat_map (le 1) (upto 8 (λ i. field b (8 + i) 1))) (encode_clock (decode_clock (cut b 16 96))) (encode_marks (decode_marks (cut b 112 256)))
    (le_field b 4 1 h (omega arith))
    (ap (concat_map (le 1)) (table_is b e) ∙ bytes_again (cut b 8 8) (bytes_cut b 8 8 h))
    (clock_again (cut b 16 96) (length_cut b 16 96 (omega arith)) (bytes_cut b 16 96 h))
    (marks_again (cut b 112 256) (length_cut b 112 256 (omega arith)) (bytes_cut b 112 256 h))
    h
    ∙ in_order (eqb (field b 0 1) 1) (eqb (field b 1 1) 1) (eqb (field b 2 2) 0) (zero_at b 5 3) (zero_at b 368 140) (sealed b)

-- the same for the block of a slice: a test that fails, and the last of tests of which the others pass
module _ (b : List ℕ) (small : (i : ℕ) → Fits w8 (get_or b i 0)) (e : length b ≡ 512) where
  pub not_laid_out : (i : ℕ) → get_or (head_tests b) i true ≡ false → false ≡ same_list (encode_head (decode_head b)) b
  not_laid_out i t = failed (head_tests b) i t ∙ sym (head_same b (bytes_of b small) e)

  pub begins_otherwise : every (take 3 (head_tests b)) ≡ false → false ≡ same_list (encode_head (decode_head b)) b
  begins_otherwise t = sym (head_same b (bytes_of b small) e ∙ not_first 3 (head_tests b) t)

  pub laid_out : Passed (take 5 (head_tests b)) → sealed b ≡ same_list (encode_head (decode_head b)) b
  laid_out p = last_test (take 5 (head_tests b)) (sealed b) p ∙ sym (head_same b (bytes_of b small) e)

-- the head of a block is that of its parts
pub parts_of_head : (b : List ℕ) → length b ≡ 512 → decode_head b ≡ head_of_parts (decode_head b).own (cut b 8 8) (cut b 16 96) (cut b 112 256)
unfolding decode_head
parts_of_head b e = λ i.
    record { own = controller (field b 4 1); table = table_is b e i; clock = decode_clock (cut b 16 96); watermark = decode_marks (cut b 112 256) }
