-- The clauses of a good state that speak of one list of dots, own or foreign. Assumes nothing.
use Rattle.std.specs.Prelude.{Bool, not, List, [], ◌∷◌, if◌then◌else◌}
use Rattle.numbers.specs.declared.Controller.{Controller}
use Rattle.numbers.specs.Words.{every, all?, ascends?}
use Rattle.numbers.specs.Numbers.{same_controller}
use Rattle.meaning.specs.CrewTable.{CrewTable, holds}
use Rattle.meaning.specs.Clock.{Clock, in_clock}
use Rattle.meaning.specs.State.{Listed, listed_before}
use Rattle.meaning.specs.Good.{listed_formed}

-- in the own list own dots alone, in the foreign list none
abbrev pub in_its_list : Bool → Controller → Listed → Bool
in_its_list mine own l = if mine then same_controller l.dot.who own else not (same_controller l.dot.who own)

unfoldable pub dots_good : Bool → Controller → CrewTable → Clock → List Listed → Bool
dots_good mine own t k ls =
    every
    (all? (listed_formed t) ls
    ∷ ascends? listed_before ls
    ∷ all? (in_its_list mine own) ls
    ∷ all? (λ l. holds t own l.key.job) ls
    ∷ all? (λ l. in_clock k l.dot) ls
    ∷ [])
