-- "No dot stands in two records", over a run of point blocks: each point is compared with those before it. Assumes nothing.
use Rattle.std.specs.Prelude.{ℕ, ◌≤◌, ◌<◌, Bool, not, List}
use Rattle.numbers.specs.Words.{every, all?}
use Rattle.block.specs.Fields.{field, upto}
use Rattle.block.specs.Block.{block_at}
use Rattle.meaning.specs.Object.{has_dot}
use Rattle.meaning.specs.State.{Stored}
use Rattle.layout.specs.PointBlock.{form_1, decode_stored}

-- the i-th point of a run of blocks
abbrev pub point_of : List ℕ → ℕ → Stored
point_of run i = decode_stored form_1 (block_at run i)

-- no version dot of p is one of q
unfoldable pub apart : Stored → Stored → Bool
apart p q = all? (λ v. not (has_dot q.object.versions v.dot)) p.object.versions

-- the j-th point shares no dot with one before it
unfoldable pub apart_from_earlier : List ℕ → ℕ → Bool
apart_from_earlier run j = every (upto j (λ i. apart (point_of run i) (point_of run j)))

-- each of the first n points counts at most 8 versions, as one that is laid out does
abbrev pub Few : List ℕ → ℕ → Type 0
Few run n = (i : ℕ) → i < n → field (block_at run i) 5 1 ≤ 8
