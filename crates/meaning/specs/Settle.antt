-- "Storing, in every step." Assumes nothing.
-- "Local objects are filled with the clock as it was before the step; then all version dots of the results enter the clock, in a
-- repair the sender's row is united too, and only then are the results stripped, with that new clock. Other records are not
-- touched." Document 001 "strips before adding dots and before uniting the sender's row. It lists dots anew at each store"; here a dot is
-- listed once, when it is new to the clock.
use Rattle.std.specs.Prelude.{ℕ, ◌-◌, Bool, not, List, [], length, take, ltb, if◌then◌else◌}
use Rattle.numbers.specs.declared.Key.{Key}
use Rattle.numbers.specs.Words.{keep, some?, place, place_all, fold}
use Rattle.numbers.specs.Numbers.{same_controller}
use Rattle.numbers.specs.Key.{same_key}
use Rattle.refusal.specs.declared.Refusal.TheVariants.{RowTooFar, TooManyVersions, TooManyPoints}
use Rattle.refusal.specs.Refusal.{Answer, accepted, refuse◌when◌else◌}
use Rattle.row.specs.Row.{fits}
use Rattle.meaning.specs.Clock.{Clock, every_row, in_clock, enter}
use Rattle.meaning.specs.Object.{strip, gone}
use Rattle.meaning.specs.State.{Stored, stored_before, Listed, listed_before, State, dots_of}
use Rattle.meaning.specs.Message.{most_versions}

-- "64 stored points, 60 own and 60 foreign listed dots"
abbrev pub most_points : ℕ
most_points = 64

abbrev pub most_listed : ℕ
most_listed = 60

-- all version dots of the results enter the clock
unfoldable pub entered : Clock → List Stored → Clock
entered k rs = fold (λ c l. enter c l.dot) k (dots_of rs)

-- the stored points without one
unfoldable pub without : Key → List Stored → List Stored
without k ps = keep (λ p. not (same_key k p.key)) ps

-- the record that a result leaves
abbrev pub stripped : Clock → Stored → Stored
stripped k r = record { key = r.key; object = strip k r.object }

-- a result is stripped and takes its record's place, or its record goes
unfoldable pub put : Clock → List Stored → Stored → List Stored
put k ps r =
    if gone (strip k r.object) then without r.key ps else place stored_before (stripped k r) ps

-- "Version dots new to the clock are listed with their point": not in the clock as it was before the step
unfoldable pub newly_listed : State → List Stored → List Listed
newly_listed s rs = keep (λ l. not (in_clock s.clock l.dot)) (dots_of rs)

-- "own ones always"
unfoldable pub own_listed : State → List Stored → List Listed
own_listed s rs = place_all listed_before (keep (λ l. same_controller l.dot.who s.own) (newly_listed s rs)) s.own_dots

-- "foreign ones in order of controller and counter while there is room"
unfoldable pub foreign_listed : State → List Stored → List Listed
foreign_listed s rs =
    let new = place_all listed_before (keep (λ l. not (same_controller l.dot.who s.own)) (newly_listed s rs)) [] in
    place_all listed_before (take (most_listed - length s.foreign_dots) new) s.foreign_dots

-- the state with these results. The clock k is that before the step, in a repair with the sender's row united
unfoldable pub settled : State → Clock → List Stored → State
settled s k rs =
    let clock = entered k rs in
    record {
      own = s.own;
      table = s.table;
      clock = clock;
      watermark = s.watermark;
      own_dots = own_listed s rs;
      foreign_dots = foreign_listed s rs;
      points = fold (put clock) s.points rs;
    }

-- "11 to 13 are judged on the step's result with no limit applied; 12 counts a point's versions before its record may go."
unfoldable pub settle : State → Clock → List Stored → Answer State
settle s k rs =
    let after = settled s k rs in
    refuse RowTooFar when not (every_row fits after.clock) else
    refuse TooManyVersions when some? (λ r. ltb most_versions (length r.object.versions)) rs else
    refuse TooManyPoints when ltb most_points (length after.points) else
    accepted after
