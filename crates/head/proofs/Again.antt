-- Bytes that are read and written back are the same bytes: rows, the clock, the watermark and the table. Assumes nothing.
use Prim.Native.Nat.{ℕ, zero, suc, ◌+◌, ◌*◌, ◌≤◌}
use mathlib.Core.Path.{◌≡◌, refl, ap, ap₂, sym, ◌∙◌}
use mathlib.Core.List.Memᴰ
use mathlib.Core.List.{List, [], ◌∷◌, ◌++◌}
use native.Mathlib.Omega.{arith}
use native.Mathlib.Nat.{mod-eq_of_lt}
use lib.ListN.{length, take, drop, get_or, length-drop, take-append-drop}
use lib.Seq.{take_all, get_or-drop}
use Rattle.numbers.specs.Words.{concat_map}
use Rattle.block.specs.Fields.{le, number, cut, field, upto}
use Rattle.block.proofs.Numbers.{Bytes, le_length, le_number, le_field}
use Rattle.block.proofs.Arrays.{upto_same, array_length}
use Rattle.block.proofs.Halves.{field_byte}
use Rattle.block.proofs.Same.{array_again}
use Rattle.layout.specs.Clocks.{encode_row, decode_row, encode_clock, decode_clock}
use Rattle.layout.specs.Image.{encode_marks, decode_marks}
use Rattle.layout.proofs.ImageBack.{row_length}

-- ---- the clock

pub row_again : (l : List ℕ) → length l ≡ 12 → Bytes l → encode_row (decode_row l) ≡ l
unfolding encode_row decode_row
row_again l e h =
    ap₂ ◌++◌ (le_field l 0 4 h (omega arith)) (le_field l 4 8 h (omega arith) ∙ take_all 8 (drop 4 l) (omega (arith, length-drop 4 l)))
    ∙ take-append-drop 4 l

pub clock_again : (l : List ℕ) → length l ≡ 96 → Bytes l → encode_clock (decode_clock l) ≡ l
unfolding encode_clock decode_clock
clock_again l e h = array_again 12 encode_row decode_row 8 l h e (λ x _. row_length (decode_row x)) row_again

-- ---- the watermark

mark_again : (l : List ℕ) → length l ≡ 4 → Bytes l → le 4 (number l) ≡ l
mark_again l e h = ap (λ (n : ℕ). le n (number l)) (sym e) ∙ le_number l h

numbers_of : List ℕ → List ℕ
numbers_of l = upto 8 (λ n. number (cut l (4 * n) 4))

marks_row_again : (l : List ℕ) → length l ≡ 32 → Bytes l → concat_map (le 4) (upto 8 (λ n. number (cut l (4 * n) 4))) ≡ l
marks_row_again l e h = array_again 4 (le 4) number 8 l h e (λ x _. le_length 4 (number x)) mark_again

pub marks_again : (l : List ℕ) → length l ≡ 256 → Bytes l → encode_marks (decode_marks l) ≡ l
unfolding encode_marks decode_marks field
marks_again l e h =
    array_again 32 (concat_map (le 4)) (λ b. upto 8 (λ n. number (cut b (4 * n) 4))) 8 l h e
    (λ x p. array_length 4 (le 4) (upto 8 (λ n. number (cut x (4 * n) 4))) (λ v m. le_length 4 v)) marks_row_again

-- ---- the table

-- bytes one by one
pub bytes_again : (l : List ℕ) → Bytes l → concat_map (le 1) l ≡ l
unfolding le
bytes_again [] h = refl
bytes_again (x ∷ l) h = λ i. mod-eq_of_lt (h x (Memᴰ.head refl)) i ∷ bytes_again l (λ y m. h y (Memᴰ.tail m)) i

first_of : (n : ℕ) (l : List ℕ) → n ≤ length l → upto n (λ i. get_or l i 0) ≡ take n l
first_of zero l h = refl
first_of (suc n) [] h = absurd (omega arith)
first_of (suc n) (x ∷ l) h = λ i. x ∷ first_of n l (omega arith) i

-- the bytes of a part, read one by one, are the part
pub part_bytes : (b : List ℕ) (o n : ℕ) → o + n ≤ length b → upto n (λ i. field b (o + i) 1) ≡ cut b o n
part_bytes b o n h =
    upto_same n (λ i. field b (o + i) 1) (λ i. get_or (drop o b) i 0) (λ i l. sym (get_or-drop o b i 0 ∙ field_byte b (o + i)))
    ∙ first_of n (drop o b) (omega (arith, length-drop o b))
