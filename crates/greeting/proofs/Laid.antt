-- When a greeting is laid out as it should be, part by part. Assumes nothing.
use Prim.Native.Nat.{ℕ, zero, ◌-◌, ◌<◌}
use mathlib.Core.Path.{◌≡◌, refl, ap, sym, ◌∙◌}
use mathlib.Core.Bool.{Bool, true, false, ◌&&◌}
use mathlib.Core.List.{List, [], ◌∷◌, ◌++◌, append_assoc}
use native.Mathlib.Omega.{arith}
use lib.ListN.{length, take, get_or, length-append, length-replicate}
use lib.Dec.{eqb}
use Rattle.numbers.specs.Words.{every, same_list}
use Rattle.numbers.proofs.Lists.{Passed, failed, last_test}
use Rattle.block.proofs.Begins.{not_first}
use Rattle.block.specs.Fields.{le, cut, field, zeros, pad}
use Rattle.block.specs.Check.{sealed}
use Rattle.block.proofs.Parts.{length_cut}
use Rattle.block.proofs.Numbers.{Bytes, le_field, le_length, bytes_cut}
use Rattle.block.proofs.Same.{same_of, same_number, same_zeros, same_then, zero_at, same_block}
use Rattle.layout.specs.Clocks.{encode_clock, decode_clock}
use Rattle.layout.specs.Messages.{encode_greeting, decode_ask}
use Rattle.head.proofs.Again.{clock_again}

module _ (b : List ℕ) (e : length b ≡ 512) (h : Bytes b) (kind points : ℕ) (few : points < 65536) where
  abbrev sender : List ℕ
  sender = le 1 (field b 4 1)

  abbrev addressee : List ℕ
  addressee = le 1 (field b 5 1)

  abbrev rows : List ℕ
  rows = encode_clock (decode_clock (cut b 8 96))

  rows_same : rows ≡ cut b 8 96
  rows_same = clock_again (cut b 8 96) (length_cut b 8 96 (omega arith)) (bytes_cut b 8 96 h)

  rows_long : length rows ≡ 96
  rows_long = ap length rows_same ∙ length_cut b 8 96 (omega arith)

  abbrev content : List ℕ
  content = sender ++ (addressee ++ (le 2 points ++ rows))

  content_long : length content ≡ 100
  content_long = simp (length-append, le_length, rows_long) (omega arith)

  padded : pad 504 content ≡ sender ++ (addressee ++ (le 2 points ++ (rows ++ zeros 404)))
  unfolding pad
  padded =
      ap (λ (n : ℕ). content ++ zeros (504 - n)) content_long
      ∙ append_assoc sender (addressee ++ (le 2 points ++ rows)) (zeros 404)
      ∙ ap (λ (l : List ℕ). sender ++ l) (append_assoc addressee (le 2 points ++ rows) (zeros 404) ∙ ap (λ (l : List ℕ). addressee ++ l) (append_assoc (le 2 points) rows (zeros 404)))

  from_8 : length (rows ++ zeros 404) ≡ 500
  from_8 = length-append rows (zeros 404) ∙ omega (arith, rows_long, length-replicate 404 zero)

  from_6 : length (le 2 points ++ (rows ++ zeros 404)) ≡ 502
  from_6 = length-append (le 2 points) (rows ++ zeros 404) ∙ omega (arith, le_length 2 points, from_8)

  from_5 : length (addressee ++ (le 2 points ++ (rows ++ zeros 404))) ≡ 503
  from_5 = length-append addressee (le 2 points ++ (rows ++ zeros 404)) ∙ omega (arith, le_length 1 (field b 5 1), from_6)

  content_same : same_list (pad 504 content) (cut b 4 504) ≡ (eqb (field b 6 2) points && zero_at b 104 404)
  content_same =
      ap (λ (l : List ℕ). same_list l (cut b 4 504)) padded
      ∙ same_then sender (addressee ++ (le 2 points ++ (rows ++ zeros 404))) b 4 1 503 (le_length 1 (field b 4 1)) from_5 (omega arith) true (same_of sender (cut b 4 1) (le_field b 4 1 h (omega arith)))
      ∙ same_then addressee (le 2 points ++ (rows ++ zeros 404)) b 5 1 502 (le_length 1 (field b 5 1)) from_6 (omega arith) true (same_of addressee (cut b 5 1) (le_field b 5 1 h (omega arith)))
      ∙ same_then (le 2 points) (rows ++ zeros 404) b 6 2 500 (le_length 2 points) from_8 (omega arith) (eqb (field b 6 2) points) (same_number b 6 2 points h (omega arith) few)
      ∙ ap (λ (t : Bool). eqb (field b 6 2) points && t)
      (same_then rows (zeros 404) b 8 96 404 rows_long (length-replicate 404 zero) (omega arith) true (same_of rows (cut b 8 96) rows_same)
      ∙ same_zeros 404 (cut b 104 404) (length_cut b 104 404 (omega arith)))

  -- what is asked of the block, in the code's order
  abbrev pub greeting_tests : List Bool
  greeting_tests = eqb (field b 0 1) kind ∷ eqb (field b 1 1) 1 ∷ eqb (field b 2 2) 0 ∷ eqb (field b 6 2) points ∷ zero_at b 104 404 ∷ sealed b ∷ []

  in_order : (k f p n z s : Bool) → ((k && (f && (p && (n && z)))) && s) ≡ every (k ∷ f ∷ p ∷ n ∷ z ∷ s ∷ [])
  in_order true true true true true true = refl
  in_order true true true true true false = refl
  in_order true true true true false s = refl
  in_order true true true false z s = refl
  in_order true true false n z s = refl
  in_order true false p n z s = refl
  in_order false f p n z s = refl

  greeting_same : kind < 256 → same_list (encode_greeting kind (decode_ask b).sender (decode_ask b).addressee points (decode_ask b).clock) b ≡ every greeting_tests
  unfolding encode_greeting decode_ask
  greeting_same small =
      same_block kind 1 0 content b h e (omega (arith, content_long)) small (omega arith) (omega arith)
      ∙ ap (λ (t : Bool). (eqb (field b 0 1) kind && (eqb (field b 1 1) 1 && (eqb (field b 2 2) 0 && t))) && sealed b) content_same
      ∙ in_order (eqb (field b 0 1) kind) (eqb (field b 1 1) 1) (eqb (field b 2 2) 0) (eqb (field b 6 2) points) (zero_at b 104 404) (sealed b)

  module _ (small : kind < 256) where
    pub not_laid_out : (i : ℕ) → get_or greeting_tests i true ≡ false → false ≡ same_list (encode_greeting kind (decode_ask b).sender (decode_ask b).addressee points (decode_ask b).clock) b
    not_laid_out i t = failed greeting_tests i t ∙ sym (greeting_same small)

    pub begins_otherwise : every (take 3 greeting_tests) ≡ false → false ≡ same_list (encode_greeting kind (decode_ask b).sender (decode_ask b).addressee points (decode_ask b).clock) b
    begins_otherwise t = sym (greeting_same small ∙ not_first 3 greeting_tests t)

    pub laid_out : Passed (take 5 greeting_tests) → sealed b ≡ same_list (encode_greeting kind (decode_ask b).sender (decode_ask b).addressee points (decode_ask b).clock) b
    laid_out p = last_test (take 5 greeting_tests) (sealed b) p ∙ sym (greeting_same small)
