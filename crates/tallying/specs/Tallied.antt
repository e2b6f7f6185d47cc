-- What the results of a repair are judged by: rows 11 to 13 of the table. Assumes nothing.
use Rattle.std.specs.Prelude.{ℕ, ◌<◌, ◌/◌, ◌≡◌, Bool, true, not, List, length, take, ltb, if◌then◌else◌}
use Rattle.numbers.specs.Words.{keep, map, fold, some?}
use Rattle.refusal.specs.declared.Refusal.TheVariants.{RowTooFar, TooManyVersions, TooManyPoints}
use Rattle.refusal.specs.Refusal.{Answer, accepted, refuse◌when◌else◌}
use Rattle.row.specs.Row.{fits}
use Rattle.block.specs.Block.{Laid, block_at}
use Rattle.meaning.specs.Clock.{Clock, every_row}
use Rattle.meaning.specs.State.{Stored, State}
use Rattle.meaning.specs.Message.{most_versions}
use Rattle.meaning.specs.Settle.{most_points, put}
use Rattle.layout.specs.PointBlock.{form_1, decode_stored}
use Rattle.record_edits.specs.Written.{lay_point, point_block}
use Rattle.weighing.specs.Weighed.{takable, key_in}
use Rattle.placing.specs.Placed.{comes, goes_away}
use Rattle.mending.specs.Mended.{filled}

-- a block that is laid out, and to which none of the refusals 4 to 10 applies once it is filled
abbrev pub Ready : State → Clock → List ℕ → Type 0
Ready s k b = (length b ≡ 512) × Laid lay_point point_block b × (takable s (key_in b) (filled s k (decode_stored form_1 b)) ≡ true)

-- each block of a run
abbrev pub AllReady : State → Clock → List ℕ → Type 0
AllReady s k run = (i : ℕ) → i < length run / 512 → Ready s k (block_at run i)

-- 12: "more than 8 versions"
unfoldable pub too_many : Stored → Bool
too_many r = ltb most_versions (length r.object.versions)

-- a mark that says yes, or no
abbrev pub mark : Bool → ℕ
mark b = if b then 1 else 0

-- what is told of one result: it has too many versions, it comes to a record, it loses its own
abbrev pub Weighed : State → Clock → Stored → Bool → Bool → Bool → Type 0
Weighed s c r many coming going = (many ≡ too_many r) × (coming ≡ comes c s.points r) × (going ≡ goes_away c s.points r)

-- and of all n: whether one has too many versions, how many come and how many go; the first n marks are 1 for those that come
abbrev pub AllWeighed : State → Clock → List Stored → ℕ → Bool → ℕ → ℕ → List ℕ → Type 0
AllWeighed s c rs n many coming going marks =
    (many ≡ some? too_many rs) × (coming ≡ length (keep (comes c s.points) rs)) × (going ≡ length (keep (goes_away c s.points) rs))
    × (take n marks ≡ map (λ r. mark (comes c s.points r)) rs)

-- the rows 11 to 13 of the table, "judged on the step's result", and a where none applies: what `settle` asks
unfoldable pub results_judged : {A : Type 0} → State → Clock → List Stored → A → Answer A
results_judged s clock rs a =
    refuse RowTooFar when not (every_row fits clock) else
    refuse TooManyVersions when some? too_many rs else
    refuse TooManyPoints when ltb most_points (length (fold (put clock) s.points rs)) else
    accepted a
