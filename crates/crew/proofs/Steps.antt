-- What every accepted step leaves as it is, and what only rises: the own number, the table, the bases. Assumes nothing.
use Prim.Native.Nat.{◌≤◌}
use mathlib.Core.Path.{◌≡◌, refl, sym, subst}
use mathlib.Core.Bool.{false}
use mathlib.Core.List.{List}
use native.Mathlib.Omega.{arith}
use native.Mathlib.Nat.{le_refl}
use Rattle.numbers.specs.declared.Controller.{Controller}
use Rattle.numbers.specs.Words.{map}
use Rattle.numbers.specs.Numbers.{same_controller}
use Rattle.numbers.proofs.Tests.{by_test}
use Rattle.numbers.proofs.Controllers.{Crew, same_controllers, controller_itself}
use Rattle.meaning.specs.Clock.{Clock, row, with_row}
use Rattle.meaning.specs.State.{Stored, State, own_base}
use Rattle.meaning.specs.Message.{Outgoing, Reply}
use Rattle.meaning.specs.Settle.{settled}
use Rattle.meaning.specs.OwnSteps.{strip_pass}
use Rattle.meaning.specs.Exchange.{tidied, mended}
use Rattle.laws.proofs.ContextLaws.{Rising}
use Rattle.laws.proofs.Entering.{entered_base}
use Rattle.laws.proofs.StaysGood.{TakenIn}
use Rattle.crew.specs.Moment.{for}
use Rattle.crew.proofs.Repaired.{with_row_rising, Mended}

-- what holds of x at n and of what the others have holds of all
pub for_each : {A : Type 0} (P : Controller → A → Type 0) (n : Controller) (x : A) (f : Controller → A) → P n x
    → ((m : Controller) → same_controller m n ≡ false → P m (f m)) → (m : Controller) → P m (for n x f m)
unfolding for
for_each P n x f p q m =
    by_test (same_controller m n) (λ t. rw t (subst (λ (z : Controller). P z x) (sym (same_controllers m n t)) p)) (λ t. rw t (q m t))

pub for_at : {A : Type 0} (n : Controller) (x : A) (f : Controller → A) → for n x f n ≡ x
unfolding for
for_at n x f = rw (controller_itself n)

pub record Steps (s x : State) : Type 0 where
  pub own : x.own ≡ s.own
  pub table : x.table ≡ s.table
  pub rising : Rising s.clock x.clock

pub stays : (s x : State) → s ≡ x → Steps s x
stays s x e = subst (λ (z : State). Steps s z) e (record { own = refl; table = refl; rising = λ n c. le_refl (row s.clock n).base })

pub own_base_rises : (s x : State) → Steps s x → Crew s.own → own_base s ≤ own_base x
own_base_rises s x S c = subst (λ (n : Controller). (row s.clock s.own).base ≤ (row x.clock n).base) (sym S.own) (S.rising s.own c)

pub settled_steps : (s : State) (k : Clock) (rs : List Stored) → Rising s.clock k → Steps s (settled s k rs)
unfolding settled
settled_steps s k rs up = record { own = refl; table = refl; rising = λ n c. omega (arith, up n c, entered_base k rs n c) }

pub same_steps : (s : State) (rs : List Stored) (x : State) → settled s s.clock rs ≡ x → Steps s x
same_steps s rs x e = subst (λ (z : State). Steps s z) e (settled_steps s s.clock rs (λ n c. le_refl (row s.clock n).base))

pub take_in_steps : (s : State) (m : Outgoing) (x : State) → TakenIn s m x → Steps s x
take_in_steps s m x A = same_steps s _ x A.state

tidied_steps : (s x : State) (r : Reply) → Steps s x → Steps s (tidied x r)
unfolding tidied
tidied_steps s x r S = record { own = S.own; table = S.table; rising = S.rising }

pub repair_steps : (s : State) (r : Reply) (x : State) → Mended s r x → Steps s x
repair_steps s r x A =
    subst (λ (z : State). Steps s z) A.state
    (tidied_steps s (settled s (with_row s.clock r.sender (row r.clock r.sender)) (map (mended s r) r.points)) r
    (settled_steps s (with_row s.clock r.sender (row r.clock r.sender)) (map (mended s r) r.points) (with_row_rising s.clock r.sender (row r.clock r.sender))))

pub strip_steps : (s : State) → Steps s (strip_pass s).state
unfolding strip_pass
strip_steps s = record { own = refl; table = refl; rising = λ n c. le_refl (row s.clock n).base }
