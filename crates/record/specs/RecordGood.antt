-- The clauses of a good state that speak of one record. Assumes nothing.
use Rattle.std.specs.Prelude.{Bool, not, List, [], ◌∷◌, leb}
use Rattle.numbers.specs.declared.Controller.{Controller}
use Rattle.numbers.specs.Words.{every, all?}
use Rattle.meaning.specs.CrewTable.{CrewTable, holds}
use Rattle.meaning.specs.Clock.{Clock, row, in_clock}
use Rattle.meaning.specs.Context.{entry, fill_context}
use Rattle.meaning.specs.Object.{gone}
use Rattle.meaning.specs.State.{Stored}
use Rattle.meaning.specs.Message.{point_formed, covers_all}

unfoldable pub record_good : Controller → CrewTable → Clock → Stored → Bool
record_good own t k p =
    every
    (point_formed t p.key p.object
    ∷ holds t own p.key.job
    ∷ covers_all (fill_context t p.key.job k p.object.context) p.object.versions
    ∷ all? (λ v. in_clock k v.dot) p.object.versions
    ∷ leb (entry p.object.context own).0 (row k own).base
    ∷ not (gone p.object)
    ∷ [])
