-- The entries of a dots block one by one, what is asked of each, and what a search finds. Assumes nothing.
use Rattle.std.specs.Prelude.{ℕ, ◌+◌, ◌*◌, ◌≤◌, ◌<◌, ◌≡◌, Bool, true, not, List, [], ◌∷◌, length, take, drop, get_or, if◌then◌else◌, Result, Ok, Err}
use Rattle.numbers.specs.declared.Controller.{Controller}
use Rattle.numbers.specs.declared.Dot.{Dot}
use Rattle.numbers.specs.Words.{every, all?}
use Rattle.numbers.specs.Numbers.{same_controller}
use Rattle.numbers.specs.Dot.{dot, dot_before}
use Rattle.numbers.specs.Key.{key}
use Rattle.block.specs.Fields.{cut}
use Rattle.meaning.specs.CrewTable.{CrewTable, holds}
use Rattle.meaning.specs.Clock.{Clock, in_clock}
use Rattle.meaning.specs.State.{Listed}
use Rattle.meaning.specs.Good.{listed_formed}
use Rattle.layout.specs.Image.{decode_entry}
use Rattle.dots.specs.DotsGood.{in_its_list}

-- entry i of a block
abbrev pub entry : List ℕ → ℕ → Listed
entry b i = decode_entry (cut b (8 + 8 * i) 8)

abbrev pub right_list : Bool → Controller → Controller → Bool
right_list mine own who = if mine then same_controller who own else not (same_controller who own)

-- what is asked of one listed dot
unfoldable pub entry_good : Bool → Controller → CrewTable → Clock → Listed → Bool
entry_good mine own t k l =
    every (listed_formed t l ∷ in_its_list mine own l ∷ holds t own l.key.job ∷ in_clock k l.dot ∷ [])

-- past the end of a list
abbrev pub no_entry : Listed
no_entry = record { dot = dot 0 0; key = key 0 0 }

-- the entry that was found is one of the dot; where none was, those before the place come before the dot, and the others after it
abbrev pub FoundIn : List Listed → Dot → Result ℕ ℕ → Type 0
FoundIn ls d (Ok i) = (i < length ls) × ((get_or ls i no_entry).dot ≡ d)
FoundIn ls d (Err i) =
    (i ≤ length ls)
    × (all? (λ l. dot_before l.dot d) (take i ls) ≡ true)
    × (all? (λ l. dot_before d l.dot) (drop i ls) ≡ true)
