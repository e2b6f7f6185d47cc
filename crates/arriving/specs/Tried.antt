-- The counters that arrive, tried one after the other on a row of 64 bits. Assumes nothing.
use Rattle.std.specs.Prelude.{true, List, if◌then◌else◌, Option, Some, None}
use Rattle.numbers.specs.declared.Counter.{Counter}
use Rattle.numbers.specs.Words.{fold}
use Rattle.row.specs.declared.Row.{Row}
use Rattle.row.specs.Row.{add, fits, add_up}
use Rattle.arriving.specs.declared.Tried.{Tried}

-- what adding answered, and whether a counter was left over before
abbrev pub told : Tried → Option Row → Tried
told t (Some r) = record { row = r; left = t.left }
told t None = record { row = t.row; left = true }

-- a counter is added where it fits, and left over where not
unfoldable pub tried : Tried → Counter → Tried
tried t c = told t (add_up t.row c)

-- all of them added with no limit applied, or that the row would need a counter above base + 64
unfoldable pub all_added : Row → List Counter → Option Row
all_added r cs = if fits (fold add r cs) then Some (fold add r cs) else None
