-- Which results change the number of records. Assumes nothing.
use Rattle.std.specs.Prelude.{Bool, ◌&&◌, not, List}
use Rattle.meaning.specs.Clock.{Clock}
use Rattle.meaning.specs.Object.{strip, gone}
use Rattle.meaning.specs.State.{Stored}
use Rattle.store.specs.HasRecord.{has_record}

-- the result needs a record and has none yet
unfoldable pub comes : Clock → List Stored → Stored → Bool
comes c ps r = not (has_record r.key ps) && not (gone (strip c r.object))

-- the result has a record and needs none any more
unfoldable pub goes_away : Clock → List Stored → Stored → Bool
goes_away c ps r = has_record r.key ps && gone (strip c r.object)
