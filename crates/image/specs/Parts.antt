-- A good image, part by part, as the code tests it: each block is laid out as it should be and zeros follow; and the state is good in its
-- head, its two lists, each record, the records' order, and in that no dot is another point's. Assumes nothing.
use Rattle.std.specs.Prelude.{ℕ, ◌+◌, ◌*◌, ◌≤◌, ◌<◌, ◌≡◌, Bool, true, false, List, [], ◌∷◌, length, drop, eqb}
use Rattle.numbers.specs.Words.{every, all?, ascends?, same_list}
use Rattle.block.specs.Fields.{field, upto}
use Rattle.block.specs.Block.{block_at}
use Rattle.meaning.specs.State.{State, stored_before, listed_before}
use Rattle.meaning.specs.Good.{dots_apart}
use Rattle.meaning.specs.Settle.{most_points}
use Rattle.layout.specs.PointBlock.{form_1, encode_stored, decode_stored}
use Rattle.layout.specs.Image.{head_of, encode_head, decode_head, encode_dots, decode_dots, until_zero}
use Rattle.head.specs.HeadGood.{head_good}
use Rattle.dots.specs.DotsGood.{dots_good}
use Rattle.record.specs.RecordGood.{record_good}

-- the number of points: the blocks from the third on, up to the first of kind 0
unfoldable pub stored_count : List ℕ → ℕ
stored_count img = length (until_zero (upto most_points (λ i. block_at img (3 + i))))

-- block k is a stored point, laid out as it should be
unfoldable pub stored_laid_out : List ℕ → ℕ → Bool
stored_laid_out img k = same_list (encode_stored form_1 k (decode_stored form_1 (block_at img k))) (block_at img k)

-- each of the first n points counts at most 8 versions, as one that is laid out does
abbrev pub Few : List ℕ → ℕ → Type 0
Few img n = (i : ℕ) → i < n → field (block_at img (3 + i)) 5 1 ≤ 8

-- a list of dots as the search asks for it
abbrev pub Ascending : List ℕ → Type 0
Ascending b = (field b 4 2 ≤ 60) × (ascends? listed_before (decode_dots b) ≡ true)

unfoldable pub parts_laid_out : List ℕ → Bool
parts_laid_out img =
    every
    (same_list (encode_head (decode_head (block_at img 0))) (block_at img 0)
    ∷ same_list (encode_dots 1 (decode_dots (block_at img 1))) (block_at img 1)
    ∷ same_list (encode_dots 2 (decode_dots (block_at img 2))) (block_at img 2)
    ∷ every (upto (stored_count img) (λ i. stored_laid_out img (3 + i)))
    ∷ all? (λ x. eqb x 0) (drop (512 * (3 + stored_count img)) img)
    ∷ [])

unfoldable pub parts_good : State → Bool
parts_good s =
    every
    (head_good (head_of s)
    ∷ dots_good true s.own s.table s.clock s.own_dots
    ∷ dots_good false s.own s.table s.clock s.foreign_dots
    ∷ all? (record_good s.own s.table s.clock) s.points
    ∷ ascends? stored_before s.points
    ∷ dots_apart s
    ∷ [])
