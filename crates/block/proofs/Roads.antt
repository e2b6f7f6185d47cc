-- A chain that gives one thing for each number below n: the answers of `all`, `any` and `is_sorted_by`, that a closure may be called at each, and what a turn of a `for`
-- has. What is left to show of a closure is for `search rules`. Assumes nothing.
use Prim.Native.Nat.{ℕ, ◌+◌, ◌-◌, ◌≤◌, ◌<◌}
use mathlib.Core.Path.{◌≡◌, refl, ap, ap₂, sym, ◌∙◌, subst}
use mathlib.Core.Bool.{Bool, true, false, ◌&&◌, ◌||◌}
use mathlib.Core.List.{List, [], ◌∷◌, map-id}
use native.Mathlib.Omega.{arith}
use lib.ListN.{length, take, get_or, length-take}
use lib.Seq.{get_or-take}
use denote.Ref.{Bor}
use denote.Param.Members.{Mut}
use Rattle.std.proofs.Common.{Option, Some, None}
use Rattle.std.specs.Bool.{OnTrue, IsTrue}
use Rattle.std.specs.Fn.{Called, CalledAtTwo}
use Rattle.std.specs.Iterator.{Yields, DrainsIf, CallableAtEachTurn, ChecksAll, ChecksAny}
use Rattle.std.specs.Iterator.Order.{IsSortedAnswer, ActsAsAtTwo}
use Rattle.std.specs.Iterator.Runs.{Run, YieldsRun, SomeRun}
use Rattle.std.specs.List.{list_all, list_any}
use Rattle.std.proofs.lemmas.Iterator.{YieldsList}
use Rattle.std.proofs.lemmas.Iterator.Adapters.{serves_from_places}
use Rattle.std.proofs.lemmas.Iterator.Consumers.{YieldsList-at, YieldsList-so_far, YieldsList-turn, YieldsList-end}
use Rattle.std.proofs.lemmas.Iterator.Search.{all_from_yields_List, any_from_yields_List}
use Rattle.numbers.specs.Words.{every, all?, some?}
use Rattle.numbers.proofs.Tests.{never}
use Rattle.block.specs.Fields.{upto}
use Rattle.block.proofs.Arrays.{upto_length, upto_at}
use Rattle.block.proofs.Passing.{every_true, all_below}

module _ {A : Type 0} (f : A → Bool) where
  all_is : (xs : List A) → list_all f xs ≡ all? f xs
  all_is [] = refl
  all_is (x ∷ xs) = ap (λ (b : Bool). f x && b) (all_is xs)

  any_is : (xs : List A) → list_any f xs ≡ some? f xs
  any_is [] = refl
  any_is (x ∷ xs) = ap (λ (b : Bool). f x || b) (any_is xs)

-- what the chain s gives: v reads the i-th thing that comes as f i, and n come. It is a record, so that its arguments are inferred
pub record Road {S A B : Type 0} (steps : S → Option A → S → Type 0) (v : A → B) (s : S) (n : ℕ) (f : ℕ → B) : Type 0 where
  pub gives : YieldsList steps v s (upto n f)

pub from_there : {S A B : Type 0} {steps : S → Option A → S → Type 0} {v : A → B} {s t : S} {n : ℕ} {f : ℕ → B} → s ≡ t → Road steps v t n f → Road steps v s n f
from_there e road = record { gives = YieldsList-at e road.gives }

module _ {S A B : Type 0} {steps : S → Option A → S → Type 0} {v : A → B} {s : S} {n : ℕ} {f : ℕ → B} (road : Road steps v s n f) where
  -- from the clause `ran` of the call
  pub all_of : (test : B → Bool) {F : Type 0} {g : Mut F (A × Unit {0}) Bool} {u : S} {c : F} {r : Bool} → ChecksAll steps g s c r u
      → ((x : A) (b : Bool) (q : F) → Called g c (x, tt) b q → (q ≡ c) × (b ≡ test (v x))) → r ≡ all? test (upto n f)
  all_of test {u = u} {c = c} {r = r} ran same = all_from_yields_List test u c r ran road.gives same ∙ all_is test (upto n f)

  pub any_of : (test : B → Bool) {F : Type 0} {g : Mut F (A × Unit {0}) Bool} {u : S} {c : F} {r : Bool} → ChecksAny steps g s c r u
      → ((x : A) (b : Bool) (q : F) → Called g c (x, tt) b q → (q ≡ c) × (b ≡ test (v x))) → r ≡ some? test (upto n f)
  any_of test {u = u} {c = c} {r = r} ran same = any_from_yields_List test u c r ran road.gives same ∙ any_is test (upto n f)

  -- a closure that stays as it is may be called at each, since it may at what comes in its place
  pub served : {F : Type 0} {R : F → A → F → Type 0} {Q : F → A → Type 0} {c : F} → ((x : A) (q : F) → R c x q → q ≡ c) → ((x : A) (k : ℕ) → k < n → v x ≡ f k → Q c x) → CallableAtEachTurn steps R Q s c
  served same at = serves_from_places road.gives same (λ x k l e. let b : k < n = omega (arith, l, upto_length n f) in at x k b (e ∙ upto_at n f (v x) k b))

  -- in a `for` that has yielded xs, and whose iterator a call takes from t to u
  module _ (t u : S) (xs : List A) (yielded : Yields steps s xs t) {r : Option A} (step : steps t r u) where
    pub turn : {x : A} → r ≡ Some x → (length xs < n) × (v x ≡ f (length xs))
    turn {x} is =
        let w = YieldsList-turn road.gives xs t yielded r u x is step in
        let l : length xs < n = omega (arith, w.0, upto_length n f) in
        (l, w.1 ∙ upto_at n f (v x) (length xs) l)

    pub end : r ≡ None → length xs ≡ n
    end is = (YieldsList-end road.gives xs t yielded r u is step).1 ∙ upto_length n f

-- ---- things that come as they are, asked whether each comes before the next

module _ {S A : Type 0} {steps : S → Option A → S → Type 0} {s : S} {n : ℕ} {f : ℕ → A} (road : Road steps (λ x. x) s n f) (before : A → A → Bool) where
  module _ (p : Run steps) (from : p.from ≡ s) where
    drained : DrainsIf steps (p.whole ≡ true) s p.items
    unfolding YieldsRun
    drained = subst (λ (t : S). DrainsIf steps (p.whole ≡ true) t p.items) from p.gave.0

    front : p.items ≡ take (length p.items) (upto n f)
    front = sym (map-id p.items) ∙ YieldsList-so_far road.gives p.items drained.0 drained.1

    few : length p.items ≤ n
    few = omega (arith, ap length front, length-take (length p.items) (upto n f), upto_length n f)

    full : p.whole ≡ true → length p.items ≡ n
    full w = let e = drained.2 w in end road drained.0 e.0 p.items drained.1 e.1 refl

    item : (k : ℕ) → k < length p.items → (d : A) → get_or p.items k d ≡ f k
    item k l d = ap (λ (i : List A). get_or i k d) front ∙ get_or-take (length p.items) (upto n f) k d l ∙ upto_at n f d k (omega (arith, few))

    pair : (k : ℕ) → k + 1 < length p.items → before (f k) (f (k + 1)) ≡ before (get_or p.items k (f k)) (get_or p.items (k + 1) (f k))
    pair k l = sym (ap₂ before (item k (omega arith) (f k)) (item (k + 1) l (f k)))

    answered : (r : Bool) → OnTrue r (IsTrue p.whole) → IsSortedAnswer before p.items r → r ≡ every (upto (n - 1) (λ k. before (f k) (f (k + 1))))
    answered true w a = sym (every_true (n - 1) (λ k. before (f k) (f (k + 1))) (λ k l. let m : k + 1 < length p.items = omega (arith, full w) in pair k m ∙ a.0 k (f k) m))
    answered false w a = let k = a.0 in all_below false (n - 1) (λ k. before (f k) (f (k + 1))) (λ t. never t refl) (λ t. (k.0, omega (arith, k.1, few), pair k.0 k.1 ∙ k.2 (f k.0)))

  -- from the clause `runs` of `is_sorted_by`
  pub sorted_of : {F : Type 0} {g : Mut F (Bor A × (Bor A × Unit {0})) Bool} {c : F} {r : Bool} → SomeRun steps s (λ p. OnTrue r (IsTrue p.whole) × ((h : A → A → Bool) → ActsAsAtTwo g c h → IsSortedAnswer h p.items r))
      → ((x y : A) (b : Bool) (q : F) → CalledAtTwo g c x y b q → (q ≡ c) × (b ≡ before x y)) → r ≡ every (upto (n - 1) (λ k. before (f k) (f (k + 1))))
  sorted_of {r = r} ran same = answered ran.0 ran.1 r ran.2.0 (ran.2.1 before same)
