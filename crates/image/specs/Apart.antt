-- "No dot stands in two records or is listed for another point than the record that holds it", as the code tests it: record against record,
-- and each record against each list. Assumes nothing.
use Rattle.std.specs.Prelude.{ℕ, ◌+◌, Bool, ◌||◌, not, List, [], ◌∷◌}
use Rattle.numbers.specs.declared.Dot.{Dot}
use Rattle.numbers.specs.declared.Key.{Key}
use Rattle.numbers.specs.Words.{every, all?}
use Rattle.numbers.specs.Dot.{same_dot}
use Rattle.numbers.specs.Key.{same_key}
use Rattle.block.specs.Fields.{cut, upto}
use Rattle.block.specs.Block.{block_at}
use Rattle.meaning.specs.State.{Stored, Listed}
use Rattle.layout.specs.PointBlock.{form_1, decode_stored}
use Rattle.layout.specs.Image.{decode_dots}
use Rattle.apart.specs.Apart.{apart}

-- the dot, where it is listed, is listed for the point k
abbrev pub dot_listed_for : List Listed → Dot → Key → Bool
dot_listed_for ls d k = all? (λ l. not (same_dot l.dot d) || same_key l.key k) ls

-- a version dot of p that is listed is listed for p
unfoldable pub listed_for : List Listed → Stored → Bool
listed_for ls p = all? (λ v. dot_listed_for ls v.dot p.key) p.object.versions

-- the i-th stored point
abbrev pub point_at : List ℕ → ℕ → Stored
point_at img i = decode_stored form_1 (block_at img (3 + i))

-- the j-th stored point shares no dot with one before it
unfoldable pub apart_from_earlier : List ℕ → ℕ → Bool
apart_from_earlier img j = every (upto j (λ i. apart (point_at img i) (point_at img j)))

-- no two of the first n points share a dot, and each of the two lists agrees with them
unfoldable pub all_apart : List ℕ → ℕ → Bool
all_apart img n =
    every
    (every (upto n (apart_from_earlier img))
    ∷ every (upto n (λ i. listed_for (decode_dots (cut img 512 512)) (point_at img i)))
    ∷ every (upto n (λ i. listed_for (decode_dots (cut img 1024 512)) (point_at img i)))
    ∷ [])
