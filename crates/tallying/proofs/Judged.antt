-- Rows 11 to 13 of the table for all results of a repair, row by row, and what `settle` makes of them. Assumes nothing.
use Prim.Native.Nat.{ℕ, ◌+◌, ◌≤◌, ◌<◌}
use mathlib.Core.Path.{◌≡◌, refl, ap, sym, ◌∙◌}
use mathlib.Core.Bool.{Bool, true, false, not}
use mathlib.Core.List.{List}
use native.Mathlib.Omega.{arith}
use lib.ListN.{length}
use lib.Dec.{ltb}
use borrow.Author.Tests.{le-ltb, lt-ltb, ltb-false}
use Rattle.numbers.specs.Words.{ascends?, some?, keep, fold}
use Rattle.numbers.proofs.Tests.{◌∈◌}
use Rattle.numbers.proofs.Lists.{none_in}
use Rattle.refusal.specs.declared.Refusal.{Refusal}
use Rattle.refusal.specs.declared.Refusal.TheVariants.{RowTooFar, TooManyVersions, TooManyPoints}
use Rattle.refusal.specs.Refusal.{refused, accepted, refuse◌when◌else◌, verdict_of}
use Rattle.row.specs.Row.{fits}
use Rattle.meaning.specs.Clock.{Clock, every_row}
use Rattle.meaning.specs.State.{Stored, stored_before, State}
use Rattle.meaning.specs.Message.{most_versions}
use Rattle.meaning.specs.Settle.{most_points, entered, put, settled, settle}
use Rattle.laws.proofs.Answers.{passes, passes_not, then, by_refusal, by_none, accepted_with}
use Rattle.placing.specs.Placed.{comes, goes_away}
use Rattle.placing.proofs.Count.{all_count}
use Rattle.tallying.specs.Tallied.{too_many, results_judged}
use Rattle.std.specs.Prelude.{Ok, Err}

module _ (s : State) (c : Clock) (rs : List Stored) where
  abbrev left : ℕ
  left = length (fold (put c) s.points rs)

  pub far : every_row fits c ≡ false → Err RowTooFar ≡ verdict_of (results_judged s c rs true)
  unfolding results_judged refuse◌when◌else◌
  far h = sym (rw h)

  module _ (fit : every_row fits c ≡ true) where
    pub many_versions : some? too_many rs ≡ true → Err TooManyVersions ≡ verdict_of (results_judged s c rs true)
    unfolding results_judged refuse◌when◌else◌
    many_versions h = sym (rw (fit, h))

    module _ (few : some? too_many rs ≡ false) where
      many_points : ltb most_points (length (fold (put c) s.points rs)) ≡ true → Err TooManyPoints ≡ verdict_of (results_judged s c rs true)
      unfolding results_judged refuse◌when◌else◌
      many_points h = sym (rw (fit, few, h))

      may_be_put : ltb most_points (length (fold (put c) s.points rs)) ≡ false → (Ok tt) ≡ verdict_of (results_judged s c rs true)
      unfolding results_judged refuse◌when◌else◌
      may_be_put h = sym (rw (fit, few, h))

      -- by the records there are, those that come and those that go
      module _ (up : ascends? stored_before s.points ≡ true) (order : ascends? stored_before rs ≡ true) (count coming going : ℕ)
          (stored : count ≡ length s.points) (come : coming ≡ length (keep (comes c s.points) rs)) (go : going ≡ length (keep (goes_away c s.points) rs)) where
        balance : left + going ≡ count + coming
        balance = omega (arith, all_count c s.points rs up order, stored, come, go)

        pub no_place : 64 + going < count + coming → Err TooManyPoints ≡ verdict_of (results_judged s c rs true)
        no_place h = many_points (lt-ltb most_points left (omega (arith, balance, h)))

        pub place_for_all : count + coming ≤ 64 + going → (Ok tt) ≡ verdict_of (results_judged s c rs true)
        place_for_all h = may_be_put (le-ltb most_points left (omega (arith, balance, h)))

  -- accepted ones passed them
  pub passed : verdict_of (results_judged s c rs true) ≡ Ok tt → ((r : Stored) → r ∈ rs → length r.object.versions ≤ most_versions) × (length (fold (put c) s.points rs) ≤ most_points)
  unfolding results_judged
  passed e =
      let a = (accepted_with (results_judged s c rs true) e).1 in
      let one = passes_not RowTooFar (every_row fits c) _ a in
      let two = passes TooManyVersions (some? too_many rs) _ one.1 in
      let three = passes TooManyPoints (ltb most_points left) _ two.1 in (
        λ r m. ltb-false most_versions (length r.object.versions) (unfold too_many in none_in too_many rs two.0 m),
        ltb-false most_points left three.0,
      )

  same_rows : {A : Type 0} (x : A) (a b d : Bool)
      → (refuse RowTooFar when not a else refuse TooManyVersions when b else refuse TooManyPoints when d else accepted x)
      ≡ then (refuse RowTooFar when not a else refuse TooManyVersions when b else refuse TooManyPoints when d else accepted true) (accepted x)
  unfolding refuse◌when◌else◌ then
  same_rows x false b d = refl
  same_rows x true true d = refl
  same_rows x true false true = refl
  same_rows x true false false = refl

  -- they are what the definition of storing asks, where c is the clock that it makes
  module _ (k : Clock) (is : entered k rs ≡ c) where
    settle_is : settle s k rs ≡ then (results_judged s (entered k rs) rs true) (accepted (settled s k rs))
    unfolding settle results_judged settled too_many
    settle_is =
        same_rows (settled s k rs) (every_row fits (entered k rs)) (some? (λ r. ltb most_versions (length r.object.versions)) rs) (ltb most_points (length (fold (put (entered k rs)) s.points rs)))

    settles : settle s k rs ≡ then (results_judged s c rs true) (accepted (settled s k rs))
    settles = settle_is ∙ ap (λ (z : Clock). then (results_judged s z rs true) (accepted (settled s k rs))) is

    pub settle_refused : (q : Refusal) → verdict_of (results_judged s c rs true) ≡ Err q → settle s k rs ≡ refused q
    settle_refused q e = settles ∙ by_refusal (accepted (settled s k rs)) (results_judged s c rs true) q e

    pub settle_made : verdict_of (results_judged s c rs true) ≡ Ok tt → settle s k rs ≡ accepted (settled s k rs)
    settle_made e = settles ∙ by_none (accepted (settled s k rs)) (results_judged s c rs true) e
