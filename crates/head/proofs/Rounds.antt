-- A loop over the controllers, or over the jobs, that asks a test of each in turn. Assumes nothing.
use Prim.Native.Nat.{ℕ, zero, suc, ◌+◌, ◌≤◌, ◌<◌}
use mathlib.Core.Path.{◌≡◌, refl, sym, ap, ◌∙◌}
use mathlib.Core.Logic.{◌⊎◌, inl, inr, ⊎_elim}
use mathlib.Core.Bool.{Bool, true, false}
use native.Mathlib.Omega.{arith}
use lib.Dec.{ltb}
use borrow.Author.Tests.{ltb-true, ltb-false}
use Rattle.numbers.specs.declared.Controller.{Controller}
use Rattle.numbers.specs.Words.{all?, some?}
use Rattle.numbers.specs.Numbers.{Crew, controller, controllers}
use Rattle.numbers.proofs.Tests.{by_test, never, ◌∈◌, here, there}
use Rattle.numbers.proofs.Lists.{in_some}
use Rattle.laws.proofs.Facts.{each_controller, every_controller}
use Rattle.meaning.specs.CrewTable.{jobs}

-- ---- a test that all controllers are to pass

-- those before n pass
pub record PassedTo (f : Controller → Bool) (n : ℕ) : Type 0 where
  pub from : 1 ≤ n
  pub within : n ≤ 9
  pub before : (m : Controller) → Crew m → m.0 < n → f m ≡ true

module _ {f : Controller → Bool} where
  pub none_yet : PassedTo f 1
  none_yet = record { from = omega arith; within = omega arith; before = λ m c l. absurd (omega (arith, c.0)) }

  pub one_more : {n : ℕ} → PassedTo f n → n < 9 → f (controller n) ≡ true → PassedTo f (n + 1)
  one_more {n} p h t =
      record {
        from = omega (arith, p.from);
        within = omega arith;
        before = λ m c l. by_number m (lt_or_same m.0 l) c;
      }
    where
      lt_or_same : (k : ℕ) → k < n + 1 → (k < n) ⊎ (k ≡ n)
      lt_or_same k l = by_test (ltb k n) (λ e. inl (ltb-true k n e)) (λ e. inr (omega (arith, ltb-false k n e)))

      by_number : (m : Controller) → (m.0 < n) ⊎ (m.0 ≡ n) → Crew m → f m ≡ true
      by_number m s c = ⊎_elim (λ l. p.before m c l) (λ e. ap (λ (k : ℕ). f (controller k)) e ∙ t) s

  pub all_done : {n : ℕ} → PassedTo f n → 9 ≤ n → true ≡ all? f controllers
  all_done p h = sym (every_controller f (λ m c. p.before m c (omega (arith, c.1))))

  pub one_fails : {n : ℕ} → PassedTo f n → n < 9 → f (controller n) ≡ false → false ≡ all? f controllers
  one_fails {n} p h t = by_test (all? f controllers) (λ e. never (each_controller f e (controller n) (p.from, omega arith)) t) (λ e. sym e)

-- ---- a test that one job is to pass

number_in : (j : ℕ) → j < 8 → j ∈ jobs
number_in zero h = here refl
number_in (suc zero) h = there (here refl)
number_in (suc (suc zero)) h = there (there (here refl))
number_in (suc (suc (suc zero))) h = there (there (there (here refl)))
number_in (suc (suc (suc (suc zero)))) h = there (there (there (there (here refl))))
number_in (suc (suc (suc (suc (suc zero))))) h = there (there (there (there (there (here refl)))))
number_in (suc (suc (suc (suc (suc (suc zero)))))) h = there (there (there (there (there (there (here refl))))))
number_in (suc (suc (suc (suc (suc (suc (suc zero))))))) h = there (there (there (there (there (there (there (here refl)))))))
number_in (suc (suc (suc (suc (suc (suc (suc (suc j)))))))) h = absurd (omega arith)

module _ (f : ℕ → Bool) where
  pub some_job : (j : ℕ) → j < 8 → f j ≡ true → true ≡ some? f jobs
  some_job j h t = sym (in_some f jobs (number_in j h) t)
