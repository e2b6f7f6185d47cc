-- Whether a point is stored. Assumes nothing.
use Rattle.std.specs.Prelude.{Bool, List}
use Rattle.numbers.specs.declared.Key.{Key}
use Rattle.numbers.specs.Words.{some?}
use Rattle.numbers.specs.Key.{same_key}
use Rattle.meaning.specs.State.{Stored}

-- the point has a record
unfoldable pub has_record : Key → List Stored → Bool
has_record k ps = some? (λ p. same_key k p.key) ps
