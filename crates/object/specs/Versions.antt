-- Where the version of a dot stands among a point's versions, or would. Assumes nothing.
use Rattle.std.specs.Prelude.{◌≤◌, ◌<◌, ◌≡◌, true, List, length, take, drop, get_or, ℕ, Result, Ok, Err}
use Rattle.numbers.specs.declared.Dot.{Dot}
use Rattle.numbers.specs.Words.{all?}
use Rattle.numbers.specs.Dot.{dot, dot_before}
use Rattle.meaning.specs.Object.{deleted, Version}

-- past the end of the versions
abbrev pub no_version : Version
no_version = record { dot = dot 0 0; contents = deleted }

-- the version that was found is the dot's; where none was, those before the place come before the dot, and the others after it
abbrev pub VersionIn : List Version → Dot → Result ℕ ℕ → Type 0
VersionIn vs d (Ok i) = (i < length vs) × ((get_or vs i no_version).dot ≡ d)
VersionIn vs d (Err i) =
    (i ≤ length vs)
    × (all? (λ v. dot_before v.dot d) (take i vs) ≡ true)
    × (all? (λ v. dot_before d v.dot) (drop i vs) ≡ true)
