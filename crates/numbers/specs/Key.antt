-- A point of the crew: its job and its number within the job. Assumes nothing.
use Rattle.std.specs.Prelude.{ℕ, Bool, ◌&&◌}
use Rattle.numbers.specs.declared.Key.{Key}
use Rattle.numbers.specs.Words.{same_pair, pair_before}
use Rattle.numbers.specs.Numbers.{point, is_job, is_point}

abbrev pub key : ℕ → ℕ → Key
key j p = record { job = j; point = point p }

-- "jobs 0..7; points 1..65535 within a job"
unfoldable pub is_key : Key → Bool
is_key k = is_job k.job && is_point k.point

abbrev pub same_key : Key → Key → Bool
same_key a b = same_pair a.job a.point.0 b.job b.point.0

-- "ascending by job and point"
abbrev pub key_before : Key → Key → Bool
key_before a b = pair_before a.job a.point.0 b.job b.point.0
