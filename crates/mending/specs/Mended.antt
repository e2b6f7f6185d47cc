-- The points of a reply, each filled with the sender's clock and merged with the local one: the results of a repair. Assumes nothing.
use Rattle.std.specs.Prelude.{ℕ, ◌/◌, ◌≤◌, ◌<◌, ◌≡◌, true, List, [], ◌∷◌, length, get_or, take, eqb, if◌then◌else◌}
use Rattle.numbers.specs.Words.{map, fold}
use Rattle.numbers.specs.Numbers.{counter}
use Rattle.block.specs.Block.{Laid, block_at}
use Rattle.meaning.specs.Clock.{Clock}
use Rattle.meaning.specs.Object.{Object, fill, merge}
use Rattle.meaning.specs.State.{Stored, State, local}
use Rattle.meaning.specs.Settle.{most_points, put}
use Rattle.layout.specs.PointBlock.{form_1, decode_stored}
use Rattle.record_edits.specs.Written.{lay_point, point_block}
use Rattle.arriving.specs.Sent.{points_in}
use Rattle.weighing.specs.Weighed.{key_in}
use Rattle.joining.specs.Joined.{Mergeable}

-- a reply's object, "filled with the sender's clock"
abbrev pub filled : State → Clock → Stored → Object
filled s k p = fill s.table p.key.job k p.object

-- "and merged with the local" one
abbrev pub mend : State → Clock → Stored → Stored
mend s k p = record { key = p.key; object = merge (local s p.key) (filled s k p) }

-- the results of a run of blocks
abbrev pub results : State → Clock → List ℕ → List Stored
results s k run = map (mend s k) (points_in run)

-- a block that can be merged in place, whatever bytes its two contexts stand in
abbrev pub Joinable : State → Clock → List ℕ → Type 0
Joinable s k b =
    (here there : List ℕ) → length here ≡ 8 → map counter here ≡ (local s (key_in b)).context → length there ≡ 8 → map counter there ≡ (filled s k (decode_stored form_1 b)).context
    → Mergeable (local s (key_in b)).versions b here there

-- each block of a run is laid out, and can be merged where its mark is w
abbrev pub AllJoinable : State → Clock → ℕ → List ℕ → List ℕ → Type 0
AllJoinable s k w run ms =
    (i : ℕ) → i < length run / 512 → (length (block_at run i) ≡ 512) × Laid lay_point point_block (block_at run i) × (eqb (get_or ms i 0) w ≡ true → Joinable s k (block_at run i))

-- the results whose mark is w
unfoldable pub marked : ℕ → List ℕ → List Stored → List Stored
marked w [] rs = []
marked w (m ∷ ms) [] = []
marked w (m ∷ ms) (r ∷ rs) = if eqb m w then r ∷ marked w ms rs else marked w ms rs

-- there is room whenever the results of a run whose mark is w are put as far as the i-th
abbrev pub RoomFor : Clock → State → Clock → ℕ → List ℕ → List ℕ → Type 0
RoomFor c s k w run ms = (i : ℕ) → i ≤ length run / 512 → length (fold (put c) s.points (marked w (take i ms) (results s k run))) ≤ most_points
