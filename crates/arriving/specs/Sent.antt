-- The points of a message, and what of them arrives: the versions that the filled local object does not cover. Assumes nothing.
use Rattle.std.specs.Prelude.{ℕ, ◌/◌, ◌≤◌, ◌<◌, Bool, ◌&&◌, not, List, length, ltb}
use Rattle.numbers.specs.declared.Controller.{Controller}
use Rattle.numbers.specs.declared.Counter.{Counter}
use Rattle.numbers.specs.Words.{keep, map, concat_map, fold}
use Rattle.numbers.specs.Numbers.{same_controller, each}
use Rattle.block.specs.Fields.{field, upto}
use Rattle.block.specs.Block.{block_at}
use Rattle.row.specs.Row.{add}
use Rattle.meaning.specs.Clock.{Clock, row}
use Rattle.meaning.specs.Context.{entry}
use Rattle.meaning.specs.Object.{Version}
use Rattle.meaning.specs.State.{Stored, State, local}
use Rattle.layout.specs.PointBlock.{form_1, decode_stored}

-- the points of a run of blocks
abbrev pub points_in : List ℕ → List Stored
points_in run = upto (length run / 512) (λ i. decode_stored form_1 (block_at run i))

-- each block counts at most 8 versions, as one that is laid out does
abbrev pub Few : List ℕ → Type 0
Few run = (i : ℕ) → i < length run / 512 → field (block_at run i) 5 1 ≤ 8

-- a version of controller n above the local entry
abbrev pub arrives : Controller → Counter → Version → Bool
arrives n here v = same_controller v.dot.who n && ltb here.0 v.dot.count.0

-- the counters of controller n that arrive with some versions
unfoldable pub counters_arriving : Controller → Counter → List Version → List Counter
counters_arriving n here vs = map (λ v. v.dot.count) (keep (arrives n here) vs)

-- and with some points
unfoldable pub arriving_with : State → Controller → List Stored → List Counter
arriving_with s n ps = concat_map (λ p. counters_arriving n (entry (local s p.key).context n) p.object.versions) ps

-- the clock with all of them, with no limit applied
unfoldable pub with_arrivals : State → Clock → List Stored → Clock
with_arrivals s k ps = each (λ n. fold add (row k n) (arriving_with s n ps))
