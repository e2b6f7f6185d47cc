-- What holds of one thing for each controller. Assumes nothing.
use Prim.Native.Nat.{ℕ, zero, suc, ◌-◌, ◌≤◌}
use mathlib.Core.Path.{◌≡◌, refl}
use mathlib.Core.Bool.{true}
use mathlib.Core.List.{List, [], ◌∷◌}
use native.Mathlib.Omega.{arith}
use lib.ListN.{get_or, length}
use lib.Dec.{leb}
use borrow.Author.Tests.{leb-true, le-leb, eqb-true, eq-eqb}
use Rattle.numbers.specs.declared.Controller.{Controller}
pub use Rattle.numbers.specs.Numbers.{Crew}
use Rattle.numbers.specs.Numbers.{controller, is_controller, same_controller, each, controllers}
use Rattle.numbers.proofs.Tests.{and_left, and_right, and_both, ◌∈◌, here, there}
use Rattle.numbers.proofs.Lists.{all_in}

pub crew_is : (n : Controller) → is_controller n ≡ true → Crew n
unfolding is_controller
crew_is n t = (leb-true 1 n.0 (and_left (leb 1 n.0) (leb n.0 8) t), leb-true n.0 8 (and_right (leb 1 n.0) (leb n.0 8) t))

pub is_crew : (n : Controller) → Crew n → is_controller n ≡ true
unfolding is_controller
is_crew n c = and_both (leb 1 n.0) (leb n.0 8) (le-leb 1 n.0 c.0) (le-leb n.0 8 c.1)

pub same_controllers : (n m : Controller) → same_controller n m ≡ true → n ≡ m
same_controllers n m t i = record { 0 = eqb-true n.0 m.0 t i }

pub controller_itself : (n : Controller) → same_controller n n ≡ true
controller_itself n = eq-eqb n.0 n.0 refl

-- the one of controller n, of one for each
at_number : {A : Type 0} (f : Controller → A) (d : A) (n : ℕ) → 1 ≤ n → n ≤ 8 → get_or (each f) (n - 1) d ≡ f (controller n)
at_number f d zero l h = absurd (omega arith)
at_number f d (suc zero) l h = refl
at_number f d (suc (suc zero)) l h = refl
at_number f d (suc (suc (suc zero))) l h = refl
at_number f d (suc (suc (suc (suc zero)))) l h = refl
at_number f d (suc (suc (suc (suc (suc zero))))) l h = refl
at_number f d (suc (suc (suc (suc (suc (suc zero)))))) l h = refl
at_number f d (suc (suc (suc (suc (suc (suc (suc zero))))))) l h = refl
at_number f d (suc (suc (suc (suc (suc (suc (suc (suc zero)))))))) l h = refl
at_number f d (suc (suc (suc (suc (suc (suc (suc (suc (suc n))))))))) l h = absurd (omega arith)

pub at_each : {A : Type 0} (f : Controller → A) (d : A) (n : Controller) → Crew n → get_or (each f) (n.0 - 1) d ≡ f n
at_each f d n c = at_number f d n.0 c.0 c.1

-- two lists of one for each are the same where they agree at every controller
pub each_same : {A : Type 0} (f g : Controller → A) → ((n : Controller) → Crew n → f n ≡ g n) → each f ≡ each g
each_same f g h i =
    h (controller 1) (omega arith) i ∷ h (controller 2) (omega arith) i ∷ h (controller 3) (omega arith) i ∷ h (controller 4) (omega arith) i
    ∷ h (controller 5) (omega arith) i ∷ h (controller 6) (omega arith) i ∷ h (controller 7) (omega arith) i ∷ h (controller 8) (omega arith) i ∷ []

-- the controllers are those from 1 to 8
number_in : (n : ℕ) → 1 ≤ n → n ≤ 8 → controller n ∈ controllers
number_in zero l h = absurd (omega arith)
number_in (suc zero) l h = here refl
number_in (suc (suc zero)) l h = there (here refl)
number_in (suc (suc (suc zero))) l h = there (there (here refl))
number_in (suc (suc (suc (suc zero)))) l h = there (there (there (here refl)))
number_in (suc (suc (suc (suc (suc zero))))) l h = there (there (there (there (here refl))))
number_in (suc (suc (suc (suc (suc (suc zero)))))) l h = there (there (there (there (there (here refl)))))
number_in (suc (suc (suc (suc (suc (suc (suc zero))))))) l h = there (there (there (there (there (there (here refl))))))
number_in (suc (suc (suc (suc (suc (suc (suc (suc zero)))))))) l h = there (there (there (there (there (there (there (here refl)))))))
number_in (suc (suc (suc (suc (suc (suc (suc (suc (suc n))))))))) l h = absurd (omega arith)

pub crew_in : (n : Controller) → Crew n → n ∈ controllers
crew_in n c = number_in n.0 c.0 c.1

pub in_crew : (n : Controller) → n ∈ controllers → Crew n
unfolding is_controller
in_crew n m = crew_is n (all_in is_controller controllers refl m)

-- a list of eight is the list of its entries
pub each_entry : {A : Type 0} (d : A) (l : List A) → length l ≡ 8 → each (λ n. get_or l (n.0 - 1) d) ≡ l
each_entry d [] e = absurd (omega arith)
each_entry d (a ∷ []) e = absurd (omega arith)
each_entry d (a ∷ b ∷ []) e = absurd (omega arith)
each_entry d (a ∷ b ∷ c ∷ []) e = absurd (omega arith)
each_entry d (a ∷ b ∷ c ∷ x ∷ []) e = absurd (omega arith)
each_entry d (a ∷ b ∷ c ∷ x ∷ y ∷ []) e = absurd (omega arith)
each_entry d (a ∷ b ∷ c ∷ x ∷ y ∷ z ∷ []) e = absurd (omega arith)
each_entry d (a ∷ b ∷ c ∷ x ∷ y ∷ z ∷ u ∷ []) e = absurd (omega arith)
each_entry d (a ∷ b ∷ c ∷ x ∷ y ∷ z ∷ u ∷ v ∷ []) e = refl
each_entry d (a ∷ b ∷ c ∷ x ∷ y ∷ z ∷ u ∷ v ∷ w ∷ l) e = absurd (omega arith)
