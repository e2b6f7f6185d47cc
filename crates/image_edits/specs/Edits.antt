-- Edits of the image: it says another state, and is laid out still. Assumes nothing.
use Rattle.std.specs.Prelude.{ℕ, ◌≡◌, List, true, false, eqb, if◌then◌else◌}
use Rattle.meaning.specs.State.{Stored, Listed, State}
use Rattle.layout.specs.Image.{Head, encode, decode}

-- the bytes are those that the layout gives what they say
abbrev pub Canonical : List ℕ → Type 0
Canonical img = encode (decode img) ≡ img

abbrev pub with_head : State → Head → State
with_head s h =
    record { own = h.own; table = h.table; clock = h.clock; watermark = h.watermark; own_dots = s.own_dots; foreign_dots = s.foreign_dots; points = s.points }

abbrev pub with_own_dots : State → List Listed → State
with_own_dots s ls =
    record { own = s.own; table = s.table; clock = s.clock; watermark = s.watermark; own_dots = ls; foreign_dots = s.foreign_dots; points = s.points }

abbrev pub with_foreign_dots : State → List Listed → State
with_foreign_dots s ls =
    record { own = s.own; table = s.table; clock = s.clock; watermark = s.watermark; own_dots = s.own_dots; foreign_dots = ls; points = s.points }

abbrev pub with_points : State → List Stored → State
with_points s ps =
    record { own = s.own; table = s.table; clock = s.clock; watermark = s.watermark; own_dots = s.own_dots; foreign_dots = s.foreign_dots; points = ps }

-- the own dots stand in block 1, the foreign ones in block 2
abbrev pub list_of : State → ℕ → List Listed
list_of s k = if eqb k 1 then s.own_dots else s.foreign_dots

abbrev pub with_list : State → ℕ → List Listed → State
with_list s k ls = if eqb k 1 then with_own_dots s ls else with_foreign_dots s ls
