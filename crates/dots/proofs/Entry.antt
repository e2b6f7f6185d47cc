-- What is asked of one listed dot, test by test. Assumes nothing.
use Prim.Native.Nat.{ℕ, ◌≤◌, ◌<◌}
use mathlib.Core.Path.{◌≡◌, sym}
use mathlib.Core.Bool.{Bool, true, false, ◌&&◌}
use mathlib.Core.List.{List, [], ◌∷◌}
use lib.ListN.{get_or}
use lib.Dec.{leb}
use borrow.Author.Tests.{le-leb, lt-leb}
use Rattle.numbers.specs.declared.Controller.{Controller}
use Rattle.numbers.specs.Numbers.{Crew, last_counter, is_controller, is_counter, is_point, is_job}
use Rattle.numbers.specs.Key.{is_key}
use Rattle.numbers.proofs.Tests.{by_test, and_both, and_first, and_second}
use Rattle.numbers.proofs.Lists.{failed, last_test, passed, ◌and_also◌, all_passed}
use Rattle.numbers.proofs.Controllers.{crew_is, is_crew}
use Rattle.meaning.specs.CrewTable.{CrewTable, holds}
use Rattle.meaning.specs.Clock.{Clock, in_clock}
use Rattle.meaning.specs.State.{Listed}
use Rattle.meaning.specs.Good.{listed_formed}
use Rattle.dots.specs.DotsGood.{in_its_list}
use Rattle.dots.specs.Entries.{entry_good}

module _ (mine : Bool) (own : Controller) (t : CrewTable) (k : Clock) (l : Listed) where
  abbrev asked : List Bool
  asked = listed_formed t l ∷ in_its_list mine own l ∷ holds t own l.key.job ∷ in_clock k l.dot ∷ []

  abbrev ranges : List Bool
  ranges = is_key l.key ∷ is_controller l.dot.who ∷ holds t l.dot.who l.key.job ∷ is_counter l.dot.count ∷ []

  pub bad : (i : ℕ) → get_or asked i true ≡ false → false ≡ entry_good mine own t k l
  unfolding entry_good
  bad i e = failed asked i e

  pub bad_range : (i : ℕ) → get_or ranges i true ≡ false → false ≡ entry_good mine own t k l
  unfolding listed_formed
  bad_range i e = bad 0 (sym (failed ranges i e))

  pub bad_job : 7 < l.key.job → false ≡ entry_good mine own t k l
  unfolding is_key is_job
  bad_job h = bad_range 0 (and_first (leb l.key.job 7) (is_point l.key.point) (lt-leb l.key.job 7 h))

  pub bad_point : l.key.point.0 < 1 → false ≡ entry_good mine own t k l
  unfolding is_key is_point
  bad_point h =
      bad_range 0
      (and_second (is_job l.key.job) (leb 1 l.key.point.0 && leb l.key.point.0 65535)
      (and_first (leb 1 l.key.point.0) (leb l.key.point.0 65535) (lt-leb 1 l.key.point.0 h)))

  pub bad_who : (Crew l.dot.who → ⊥) → false ≡ entry_good mine own t k l
  bad_who h = bad_range 1 (by_test (is_controller l.dot.who) (λ e. absurd (h (crew_is l.dot.who e))) (λ f. f))

  pub bad_count : l.dot.count.0 < 1 → false ≡ entry_good mine own t k l
  unfolding is_counter
  bad_count h = bad_range 3 (and_first (leb 1 l.dot.count.0) (leb l.dot.count.0 last_counter) (lt-leb 1 l.dot.count.0 h))

  -- all ranges are right and the other tests pass, but for the last, and so that one is what all are
  pub last_asked : l.key.job ≤ 7 → (1 ≤ l.key.point.0) × (l.key.point.0 ≤ 65535) → Crew l.dot.who → (1 ≤ l.dot.count.0) × (l.dot.count.0 ≤ last_counter)
      → holds t l.dot.who l.key.job ≡ true → in_its_list mine own l ≡ true → holds t own l.key.job ≡ true → in_clock k l.dot ≡ entry_good mine own t k l
  unfolding entry_good
  last_asked j p w c h i o =
      last_test (listed_formed t l ∷ in_its_list mine own l ∷ holds t own l.key.job ∷ []) (in_clock k l.dot) (formed and_also i and_also o and_also passed)
    where
      is_a_key : is_key l.key ≡ true
      is_a_key =
          unfold is_key is_job is_point in
          (and_both (leb l.key.job 7) (leb 1 l.key.point.0 && leb l.key.point.0 65535) (le-leb l.key.job 7 j)
          (and_both (leb 1 l.key.point.0) (leb l.key.point.0 65535) (le-leb 1 l.key.point.0 p.0) (le-leb l.key.point.0 65535 p.1)))

      is_a_counter : is_counter l.dot.count ≡ true
      is_a_counter =
          unfold is_counter in
          (and_both (leb 1 l.dot.count.0) (leb l.dot.count.0 last_counter) (le-leb 1 l.dot.count.0 c.0) (le-leb l.dot.count.0 last_counter c.1))

      formed : listed_formed t l ≡ true
      formed = unfold listed_formed in (all_passed {bs = ranges} (is_a_key and_also is_crew l.dot.who w and_also h and_also is_a_counter and_also passed))
