-- The clauses of a good state that speak of the head alone. Assumes nothing.
use Rattle.std.specs.Prelude.{Bool, [], ◌∷◌, leb}
use Rattle.numbers.specs.Words.{every, all?}
use Rattle.numbers.specs.Numbers.{is_controller, controllers}
use Rattle.meaning.specs.State.{State, mark, own_base}
use Rattle.meaning.specs.Good.{rows_sound, own_row_whole, rows_of_peers, marks_of_peers, own_marks_known}
use Rattle.layout.specs.Image.{Head}

-- the state with this head, and nothing stored or listed
abbrev pub bare : Head → State
bare h =
    record {
      own = h.own;
      table = h.table;
      clock = h.clock;
      watermark = h.watermark;
      own_dots = [];
      foreign_dots = [];
      points = [];
    }

-- the half of "no own entry anywhere is above the own base" that is of the watermark
unfoldable pub own_column_known : State → Bool
own_column_known s = all? (λ m. leb (mark s.watermark m s.own) (own_base s)) controllers

unfoldable pub head_good : Head → Bool
head_good h =
    every
    (is_controller h.own
    ∷ rows_sound (bare h)
    ∷ own_row_whole (bare h)
    ∷ rows_of_peers (bare h)
    ∷ marks_of_peers (bare h)
    ∷ own_marks_known (bare h)
    ∷ own_column_known (bare h)
    ∷ [])
