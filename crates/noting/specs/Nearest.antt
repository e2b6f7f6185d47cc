-- The next dot to be listed: of those that arrive new the first behind the last one that was listed. Assumes nothing.
use Rattle.std.specs.Prelude.{List, if◌then◌else◌, Option, Some, None}
use Rattle.numbers.specs.declared.Dot.{Dot}
use Rattle.numbers.specs.declared.Key.{Key}
use Rattle.numbers.specs.Words.{fold}
use Rattle.numbers.specs.Dot.{dot_before}
use Rattle.meaning.specs.State.{Listed, State}
use Rattle.noting.specs.Noted.{arrives_new}

-- the nearer of what was found and another dot; of two that are the same the one that was found
abbrev pub nearer : Option (Dot × Key) → Listed → Option (Dot × Key)
nearer None l = Some (l.dot, l.key)
nearer (Some (d, k)) l = if dot_before l.dot d then Some (l.dot, l.key) else Some (d, k)

-- the same with a dot that lies behind the last one
unfoldable pub closer : Dot → Option (Dot × Key) → Listed → Option (Dot × Key)
closer last best l = if dot_before last l.dot then nearer best l else best

-- the same with a dot of the point k, where it arrives new
unfoldable pub with_new : State → Key → Dot → Option (Dot × Key) → Dot → Option (Dot × Key)
with_new s k last best d = if arrives_new s k d then closer last best (record { dot = d; key = k }) else best

-- the same with all of a list
unfoldable pub nearest : Dot → Option (Dot × Key) → List Listed → Option (Dot × Key)
nearest last best ls = fold (closer last) best ls
