-- The state when a write or a delete is recorded in it. Assumes nothing.
use Rattle.std.specs.Prelude.{◌+◌, ◌-◌, length}
use Rattle.row.specs.declared.Row.{Row}
use Rattle.block.specs.Fields.{put_at, insert_at}
use Rattle.meaning.specs.Clock.{Clock}
use Rattle.meaning.specs.State.{Stored, State, own_base}
use Rattle.meaning.specs.Settle.{put}
use Rattle.meaning.specs.OwnSteps.{next_dot}

-- the own row with one more counter
abbrev pub next_row : State → Row
next_row s = record { base = own_base s + 1; bits = 0 }

abbrev pub next_clock : State → Clock
next_clock s = put_at s.clock (s.own.0 - 1) (next_row s)

-- the state s with the new dot in the own row and in the own list, and the result r at its place
abbrev pub recorded : State → Stored → State
recorded s r =
    record {
      own = s.own;
      table = s.table;
      clock = next_clock s;
      watermark = s.watermark;
      own_dots = insert_at s.own_dots (length s.own_dots) (record { dot = next_dot s; key = r.key });
      foreign_dots = s.foreign_dots;
      points = put (next_clock s) s.points r;
    }
