-- The crew table: who holds which job. Assumes nothing.
-- "The crew table has one byte per job; bit n-1 says that controller n holds the job."
use Rattle.std.specs.Prelude.{ℕ, ◌-◌, Bool, ◌&&◌, List, [], ◌∷◌, get_or, length, ltb, eqb}
use Rattle.numbers.specs.declared.Controller.{Controller}
use Rattle.numbers.specs.Words.{some?, all?}
use Rattle.row.specs.Row.{bit}

abbrev pub CrewTable : Type 0
CrewTable = List ℕ

abbrev pub jobs : List ℕ
jobs = 0 ∷ 1 ∷ 2 ∷ 3 ∷ 4 ∷ 5 ∷ 6 ∷ 7 ∷ []

-- eight bytes
unfoldable pub is_table : CrewTable → Bool
is_table t = eqb (length t) 8 && all? (λ b. ltb b 256) t

-- controller n holds the job j
unfoldable pub holds : CrewTable → Controller → ℕ → Bool
holds t n j = bit (n.0 - 1) (get_or t j 0)

-- they share a job
unfoldable pub share_job : CrewTable → Controller → Controller → Bool
share_job t n m = some? (λ j. holds t n j && holds t m j) jobs

-- controller n is in some job
unfoldable pub in_some_job : CrewTable → Controller → Bool
in_some_job t n = some? (holds t n) jobs
