-- What was weighed and is not too much may be merged. Assumes nothing.
use Prim.Native.Nat.{ℕ, ◌≤◌}
use mathlib.Core.Path.{refl, ap}
use mathlib.Core.List.{List}
use native.Mathlib.Omega.{arith}
use lib.ListN.{length}
use Rattle.numbers.specs.declared.Key.{Key}
use Rattle.numbers.specs.Words.{map}
use Rattle.numbers.specs.Numbers.{counter}
use Rattle.meaning.specs.Context.{Context}
use Rattle.meaning.specs.Object.{Object}
use Rattle.meaning.specs.State.{State, local}
use Rattle.meaning.specs.Message.{most_versions}
use Rattle.laws.proofs.Goodness.{Good}
use Rattle.merging.specs.Merging.{theirs, arriving}
use Rattle.weighing.specs.Weighed.{key_in, Takable, result_of}
use Rattle.joining.specs.Joined.{Mergeable}
use Rattle.weighing.proofs.Takings.{ascend, by_crew, local_ascend, local_by_crew, agreed, count}
use Rattle.weighing.proofs.Judging.{same_survivors}

module _ (s : State) (G : Good s) (m here there : List ℕ) (T : Takable s m here there) where
  abbrev k : Key
  k = key_in m

  abbrev o : Object
  o = theirs m there

  pub may_merge : length (result_of s m there).object.versions ≤ most_versions → Mergeable (local s (key_in m)).versions m here there
  may_merge few = (
    local_ascend s G k o T.5,
    local_by_crew s G k o T.5,
    ascend s G k o T.5,
    by_crew s G k o T.5,
    agreed s G k o T.5,
    omega (
      arith,
      few,
      count s G k o T.5,
      ap length (same_survivors (record { versions = (local s k).versions; context = map counter here }) (local s k) o refl),
      ap (λ (x : Context). length (arriving x o.versions)) T.3,
    ),
  )
