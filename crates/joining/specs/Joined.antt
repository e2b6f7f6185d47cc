-- What a merge in place makes of a record. Assumes nothing.
use Rattle.std.specs.Prelude.{ℕ, ◌+◌, ◌≤◌, ◌≡◌, true, List, length}
use Rattle.numbers.specs.Words.{map, ascends?}
use Rattle.numbers.specs.Numbers.{counter}
use Rattle.meaning.specs.Clock.{Clock}
use Rattle.meaning.specs.Object.{Version, version_before, no_object, survivors, merge}
use Rattle.meaning.specs.State.{Stored, State}
use Rattle.layout.specs.PointBlock.{form_1, decode_point}
use Rattle.record.specs.Crewed.{crewed}
use Rattle.merging.specs.Merging.{theirs, arriving, agreeing}
use Rattle.weighing.specs.Weighed.{key_in}

-- local versions that a block m can be merged with in place, eight at most in the end. The local context is `here`
abbrev pub Mergeable : List Version → List ℕ → List ℕ → List ℕ → Type 0
Mergeable vs m here there =
    (ascends? version_before vs ≡ true) × (crewed vs ≡ true)
    × (ascends? version_before (decode_point form_1 m).object.versions ≡ true) × (crewed (decode_point form_1 m).object.versions ≡ true)
    × (agreeing vs (decode_point form_1 m).object.versions ≡ true)
    × (length (survivors (record { versions = vs; context = map counter here }) (theirs m there)) + length (arriving (map counter here) (decode_point form_1 m).object.versions) ≤ 8)

-- another clock
abbrev pub with_clock : State → Clock → State
with_clock s k =
    record { own = s.own; table = s.table; clock = k; watermark = s.watermark; own_dots = s.own_dots; foreign_dots = s.foreign_dots; points = s.points }

-- a record whose context is `here`, merged with the message's point
abbrev pub merged_with : Stored → List ℕ → List ℕ → List ℕ → Stored
merged_with p m here there = record { key = p.key; object = merge (record { versions = p.object.versions; context = map counter here }) (theirs m there) }

-- the record of a point that has none yet
abbrev pub empty_record : List ℕ → Stored
empty_record m = record { key = key_in m; object = no_object }
