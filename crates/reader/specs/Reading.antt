-- A reply read one point at a time: how many points it has, and the reader at the start and one point further. Assumes nothing.
use Rattle.std.specs.Prelude.{ℕ, ◌+◌, ◌-◌, ◌/◌, List, length}
use Rattle.std.specs.Borrow.{Bor}
use Rattle.reader.specs.declared.Reader.{Reader}

-- one block is the head, each other one a point
abbrev pub points_in : List ℕ → ℕ
points_in reply = length reply / 512 - 1

abbrev pub at_start : Bor (List ℕ) → Reader
at_start reply = record { reply = reply; at = 0 }

abbrev pub next_after : Reader → Reader
next_after r = record { reply = r.reply; at = r.at + 1 }
