-- When a state is good: the image paragraph of document 01, but for what it says of bytes. Assumes nothing.
use Rattle.std.specs.Prelude.{ℕ, Bool, ◌&&◌, ◌||◌, not, List, [], ◌∷◌, length, leb, eqb}
use Rattle.numbers.specs.Words.{every, all?, ascends?}
use Rattle.numbers.specs.Numbers.{last_counter, is_controller, is_counter, same_controller, controllers}
use Rattle.numbers.specs.Key.{is_key}
use Rattle.row.specs.Row.{fits, sound}
use Rattle.meaning.specs.CrewTable.{CrewTable, is_table, holds}
use Rattle.meaning.specs.Clock.{row, every_row, in_clock}
use Rattle.meaning.specs.Context.{entry, fill_context}
use Rattle.meaning.specs.Object.{gone}
use Rattle.meaning.specs.State.{Stored, stored_before, Listed, listed_before, mark, State, peers, own_base, listed, dots_of}
use Rattle.meaning.specs.Message.{point_formed, covers_all, is_none, dots_agree}
use Rattle.meaning.specs.Settle.{most_points, most_listed}

-- ---- "all of the above": sizes, ranges and orders

-- "controllers 1..8", "one byte per job", "64 stored points, 60 own and 60 foreign listed dots", a row, an entry or a column for each
-- controller
unfoldable pub sized : State → Bool
sized s =
    every
    (is_controller s.own
    ∷ is_table s.table
    ∷ eqb (length s.clock) 8
    ∷ eqb (length s.watermark) 8
    ∷ all? (λ r. eqb (length r) 8) s.watermark
    ∷ leb (length s.own_dots) most_listed
    ∷ leb (length s.foreign_dots) most_listed
    ∷ leb (length s.points) most_points
    ∷ [])

-- "64 bits .. Bit 0 is never set. No row stands for a counter above 4,294,967,295."
unfoldable pub rows_sound : State → Bool
rows_sound s = every_row (λ r. fits r && sound r) s.clock

-- "The own row has no bits set."
unfoldable pub own_row_whole : State → Bool
own_row_whole s = eqb (row s.clock s.own).bits 0

-- the ranges of a record and its versions' order; and "dots and context entries name holders of the job"
unfoldable pub points_formed : State → Bool
points_formed s = all? (λ p. point_formed s.table p.key p.object) s.points

-- "points ascending by job and point"
unfoldable pub points_ascend : State → Bool
points_ascend s = ascends? stored_before s.points

-- the ranges of a listed dot; and "dots name holders of the job"
unfoldable pub listed_formed : CrewTable → Listed → Bool
listed_formed t l =
    every (is_key l.key ∷ is_controller l.dot.who ∷ holds t l.dot.who l.key.job ∷ is_counter l.dot.count ∷ [])

unfoldable pub lists_formed : State → Bool
lists_formed s = all? (listed_formed s.table) (listed s)

-- "ascending by controller and counter"
unfoldable pub lists_ascend : State → Bool
lists_ascend s = ascends? listed_before s.own_dots && ascends? listed_before s.foreign_dots

-- "own and foreign dots": the own list holds own dots only, and the foreign list none
unfoldable pub lists_apart : State → Bool
lists_apart s =
    all? (λ l. same_controller l.dot.who s.own) s.own_dots
    && all? (λ l. not (same_controller l.dot.who s.own)) s.foreign_dots

-- ---- the clauses of the image paragraph, in its order

-- "every stored point and listed dot is of a held job"
unfoldable pub jobs_held : State → Bool
jobs_held s =
    all? (λ p. holds s.table s.own p.key.job) s.points
    && all? (λ l. holds s.table s.own l.key.job) (listed s)

-- "versions are covered by the filled context and in the clock"
unfoldable pub versions_covered : State → Bool
versions_covered s =
    all? (λ p. covers_all (fill_context s.table p.key.job s.clock p.object.context) p.object.versions) s.points

unfoldable pub versions_in_clock : State → Bool
versions_in_clock s = all? (λ p. all? (λ v. in_clock s.clock v.dot) p.object.versions) s.points

-- "listed dots are in the clock"
unfoldable pub lists_in_clock : State → Bool
lists_in_clock s = all? (λ l. in_clock s.clock l.dot) (listed s)

-- "no dot stands in two records or is listed for another point than the record that holds it"
unfoldable pub dots_apart : State → Bool
dots_apart s = dots_agree (dots_of s.points) (dots_of s.points) && dots_agree (listed s) (dots_of s.points)

-- "clock rows of non-peers are zero"
unfoldable pub rows_of_peers : State → Bool
rows_of_peers s = all? (λ n. peers s s.own n || is_none (row s.clock n)) controllers

-- "the watermark is zero for non-peers"
unfoldable pub marks_of_peers : State → Bool
marks_of_peers s =
    all? (λ m. all? (λ n.
    leb (mark s.watermark m n) last_counter
    && ((peers s s.own m && peers s s.own n) || eqb (mark s.watermark m n) 0)) controllers) controllers

-- "and no higher than our own rows in our row"
unfoldable pub own_marks_known : State → Bool
own_marks_known s = all? (λ n. leb (mark s.watermark s.own n) (row s.clock n).base) controllers

-- "no own entry anywhere is above the own base": in the stored contexts and in the own column of the watermark; own dots are in the
-- clock, whose own row has no bits
unfoldable pub own_entries_known : State → Bool
own_entries_known s =
    all? (λ p. leb (entry p.object.context s.own).0 (own_base s)) s.points
    && all? (λ m. leb (mark s.watermark m s.own) (own_base s)) controllers

-- "no record with an empty context lacks a value"
unfoldable pub records_needed : State → Bool
records_needed s = all? (λ p. not (gone p.object)) s.points

-- the clauses, in this order
unfoldable pub clauses : State → List Bool
clauses s =
    sized s
    ∷ rows_sound s
    ∷ own_row_whole s
    ∷ points_formed s
    ∷ points_ascend s
    ∷ lists_formed s
    ∷ lists_ascend s
    ∷ lists_apart s
    ∷ jobs_held s
    ∷ versions_covered s
    ∷ versions_in_clock s
    ∷ lists_in_clock s
    ∷ dots_apart s
    ∷ rows_of_peers s
    ∷ marks_of_peers s
    ∷ own_marks_known s
    ∷ own_entries_known s
    ∷ records_needed s
    ∷ []

unfoldable pub good_state : State → Bool
good_state s = every (clauses s)
