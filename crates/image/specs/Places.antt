-- Where a point is stored, or would be. Assumes nothing.
use Rattle.std.specs.Prelude.{◌≤◌, ◌<◌, ◌≡◌, true, List, length, take, drop, get_or, ℕ, Result, Ok, Err}
use Rattle.numbers.specs.declared.Key.{Key}
use Rattle.numbers.specs.Words.{all?}
use Rattle.numbers.specs.Key.{key, key_before}
use Rattle.meaning.specs.Object.{no_object}
use Rattle.meaning.specs.State.{Stored}

-- past the end of the points
abbrev pub no_point : Stored
no_point = record { key = key 0 0; object = no_object }

-- the record that was found is the point's; where none was, those before the place come before the point, and the others after it
abbrev pub PointIn : List Stored → Key → Result ℕ ℕ → Type 0
PointIn ps k (Ok i) = (i < length ps) × ((get_or ps i no_point).key ≡ k)
PointIn ps k (Err i) =
    (i ≤ length ps)
    × (all? (λ p. key_before p.key k) (take i ps) ≡ true)
    × (all? (λ p. key_before k p.key) (drop i ps) ≡ true)
