-- Which points are ours: row 5 of an argument. Assumes nothing.
use Prim.Native.Nat.{◌≤◌, ◌<◌}
use mathlib.Core.Path.{◌≡◌, refl, ap, sym, ◌∙◌}
use mathlib.Core.Bool.{Bool, false, ◌&&◌}
use lib.Dec.{leb}
use borrow.Author.Tests.{le-leb, lt-leb}
use Rattle.numbers.specs.declared.Key.{Key}
use Rattle.numbers.specs.Numbers.{is_job, is_point}
use Rattle.numbers.specs.Key.{is_key}
use Rattle.meaning.specs.CrewTable.{holds}
use Rattle.meaning.specs.State.{State}
use Rattle.meaning.specs.OwnSteps.{ours}

module _ (s : State) (k : Key) where
  key_test : ours s k ≡ ((leb k.job 7 && (leb 1 k.point.0 && leb k.point.0 65535)) && holds s.table s.own k.job)
  unfolding ours is_key is_job is_point
  key_test = refl

  pub not_a_job : 7 < k.job → false ≡ ours s k
  not_a_job h = sym (key_test ∙ ap (λ (b : Bool). (b && (leb 1 k.point.0 && leb k.point.0 65535)) && holds s.table s.own k.job) (lt-leb k.job 7 h))

  pub not_a_point : k.job ≤ 7 → k.point.0 < 1 → false ≡ ours s k
  not_a_point j h = sym (key_test ∙ rw (le-leb k.job 7 j, lt-leb 1 k.point.0 h))

  pub by_table : k.job ≤ 7 → 1 ≤ k.point.0 → k.point.0 ≤ 65535 → {r : Bool} → r ≡ holds s.table s.own k.job → r ≡ ours s k
  by_table j h l e = e ∙ sym (key_test ∙ rw (le-leb k.job 7 j, le-leb 1 k.point.0 h, le-leb k.point.0 65535 l))
