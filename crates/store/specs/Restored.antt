-- The stored points when one of them is stripped, and goes where nothing needs it. Assumes nothing.
use Rattle.std.specs.Prelude.{ℕ, List, get_or, if◌then◌else◌}
use Rattle.block.specs.Fields.{put_at, remove_at}
use Rattle.meaning.specs.Clock.{Clock}
use Rattle.meaning.specs.Object.{strip, gone}
use Rattle.meaning.specs.State.{Stored}
use Rattle.meaning.specs.Settle.{stripped}
use Rattle.image.specs.Places.{no_point}

abbrev pub restored : Clock → List Stored → ℕ → List Stored
restored k ps i = if gone (strip k (get_or ps i no_point).object) then remove_at ps i else put_at ps i (stripped k (get_or ps i no_point))
