-- The dots that arrive new with the points of a message, and the foreign list with them. Assumes nothing.
-- "Version dots new to the clock are listed with their point, own ones always, foreign ones in order of controller and counter while there is
-- room." No own dot is new in a take in or a repair.
use Rattle.std.specs.Prelude.{ℕ, ◌/◌, ◌-◌, ◌<◌, ◌≡◌, Bool, true, ◌&&◌, not, List, [], length, take}
use Rattle.numbers.specs.declared.Dot.{Dot}
use Rattle.numbers.specs.declared.Key.{Key}
use Rattle.numbers.specs.Words.{keep, map, concat_map, place_all}
use Rattle.block.specs.Block.{block_at}
use Rattle.meaning.specs.Clock.{in_clock}
use Rattle.meaning.specs.Context.{covers}
use Rattle.meaning.specs.State.{Stored, Listed, listed_before, State, local}
use Rattle.meaning.specs.Settle.{most_listed}
use Rattle.layout.specs.PointBlock.{form_1, decode_stored}
use Rattle.record.specs.Crewed.{crewed}

-- a dot arrives where the filled local object does not cover it; it is new where the clock as it was before the step has it not
abbrev pub arrives_new : State → Key → Dot → Bool
arrives_new s k d = not (covers (local s k).context d) && not (in_clock s.clock d)

-- the dots of one point that arrive new, each with the point
abbrev pub new_of : State → Stored → List Listed
new_of s p = map (λ v. record { dot = v.dot; key = p.key }) (keep (λ v. arrives_new s p.key v.dot) p.object.versions)

-- and of some points
unfoldable pub newly_arrived : State → List Stored → List Listed
newly_arrived s ps = concat_map (new_of s) ps

-- "in order of controller and counter", no dot twice
unfoldable pub fresh : State → List Stored → List Listed
fresh s ps = place_all listed_before (newly_arrived s ps) []

-- "while there is room"
unfoldable pub noted : State → List Stored → List Listed
noted s ps = place_all listed_before (take (most_listed - length s.foreign_dots) (fresh s ps)) s.foreign_dots

-- the versions of each block of a run are of controllers, as those of a message that is formed are
abbrev pub Crewed : List ℕ → Type 0
Crewed run = (i : ℕ) → i < length run / 512 → crewed (decode_stored form_1 (block_at run i)).object.versions ≡ true
