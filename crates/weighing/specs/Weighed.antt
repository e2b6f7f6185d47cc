-- A message's point that passed the refusals 4 to 10, and what comes of it. Assumes nothing.
use Rattle.std.specs.Prelude.{ℕ, ◌≡◌, Bool, true, not, List, [], ◌∷◌, length}
use Rattle.numbers.specs.declared.Key.{Key}
use Rattle.numbers.specs.Words.{every, some?, map}
use Rattle.numbers.specs.Numbers.{counter}
use Rattle.block.specs.Block.{Laid}
use Rattle.meaning.specs.CrewTable.{holds}
use Rattle.meaning.specs.Object.{Object, merge}
use Rattle.meaning.specs.State.{Stored, State, local}
use Rattle.meaning.specs.Message.{point_formed, covers_all}
use Rattle.meaning.specs.Exchange.{ahead_of_us, clashes}
use Rattle.layout.specs.PointBlock.{form_1, decode_point}
use Rattle.record_edits.specs.Written.{lay_point, point_block}
use Rattle.merging.specs.Merging.{theirs}

-- an object of a message, filled where it is a reply's, to which none of the refusals 4 to 10 applies
unfoldable pub takable : State → Key → Object → Bool
takable s k o =
    every
    (point_formed s.table k o
    ∷ holds s.table s.own k.job
    ∷ covers_all o.context o.versions
    ∷ not (ahead_of_us s o)
    ∷ not (some? (clashes s k) o.versions)
    ∷ [])

-- the point of a message's block
abbrev pub key_in : List ℕ → Key
key_in m = (decode_point form_1 m).key

-- a point block m that may be taken, with the local context and its own beside it
abbrev pub Takable : State → List ℕ → List ℕ → List ℕ → Type 0
Takable s m here there =
    (length m ≡ 512) × Laid lay_point point_block m × (length here ≡ 8) × (map counter here ≡ (local s (key_in m)).context) × (length there ≡ 8) × (takable s (key_in m) (theirs m there) ≡ true)

-- what comes of it: the filled local object merged with the message's
abbrev pub result_of : State → List ℕ → List ℕ → Stored
result_of s m there = record { key = key_in m; object = merge (local s (key_in m)) (theirs m there) }
