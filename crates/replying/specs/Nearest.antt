-- The next point to be sent: of those that the asker lacks the first behind the last one that was sent. Assumes nothing.
use Rattle.std.specs.Prelude.{Bool, ◌&&◌, not, List, if◌then◌else◌, Option, Some, None}
use Rattle.numbers.specs.declared.Controller.{Controller}
use Rattle.numbers.specs.declared.Key.{Key}
use Rattle.numbers.specs.Words.{all?, map, fold}
use Rattle.numbers.specs.Numbers.{is_controller}
use Rattle.numbers.specs.Key.{key_before}
use Rattle.meaning.specs.CrewTable.{CrewTable, holds}
use Rattle.meaning.specs.Clock.{Clock, in_clock}
use Rattle.meaning.specs.State.{Listed}

-- each listed dot is of a controller
unfoldable pub all_crew : List Listed → Bool
all_crew ls = all? (λ l. is_controller l.dot.who) ls

-- the asker's clock lacks the dot, and the asker holds its point's job
unfoldable pub lacks : CrewTable → Controller → Clock → Listed → Bool
lacks t asker k l = not (in_clock k l.dot) && holds t asker l.key.job

-- the nearer of what was found and a point that lies behind the last one
abbrev pub nearer : Option Key → Key → Option Key
nearer None k = Some k
nearer (Some b) k = if key_before k b then Some k else Some b

unfoldable pub closer : Key → Option Key → Key → Option Key
closer last best k = if key_before last k then nearer best k else best

-- the same with the point of a listed dot, where that passes a test
unfoldable pub with_key : (Listed → Bool) → Key → Option Key → Listed → Option Key
with_key f last best l = if f l then closer last best l.key else best

-- the same with the points of all of a list
unfoldable pub nearest : Key → Option Key → List Listed → Option Key
nearest last best ls = fold (closer last) best (map (λ l. l.key) ls)
