-- A closure asked of the numbers below n, one after the other: what `all`, `any` and `filter` say, from what it answers at one of them.
-- Assumes nothing.
use Rattle.std.specs.Prelude.{cond}
use Prim.Native.Nat.{ℕ, zero, suc, ◌+◌, ◌-◌, ◌≤◌, ◌<◌}
use mathlib.Core.Path.{◌≡◌, refl, sym, ap, subst, ◌∙◌}
use mathlib.Core.Bool.{Bool, true, false}
use mathlib.Core.List.{List, ◌∷◌}
use native.Mathlib.Omega.{arith}
use lib.ListN.{length}
use denote.Param.Members.{Mut, Called}
use denote.Ref.{Bor}
use Rattle.std.specs.declared.ops.Range.{Range}
use Rattle.std.specs.declared.option.Option.{Option}
use Rattle.std.specs.declared.option.Option.TheVariants.{None, Some}
use Rattle.std.specs.declared.iter.Filter.{Filter}
use Rattle.std.specs.Bool.{MatchBool}
use Rattle.std.specs.Option.{MatchOption, IsSomeAnd, option_map}
use Rattle.std.specs.Fn.{CalledAt}
use Rattle.std.specs.Iterator.{Drains}
use Rattle.std.specs.Iterator.Runs.{Run, SomeRun, AllItemsGive, AnyItemGives, CallKeepsClosure}
use Rattle.std.specs.Iterator.Adapters.{filter_source, filter_callee, filter_steps}
use Rattle.std.specs.List.{filter, range_with_len}
use Rattle.std.proofs.iter.Yields.{nat_range_steps}
use Rattle.std.proofs.iter.runs.Lists.{none-some, same_Some}
use Rattle.std.proofs.iter.runs.Sources.{range_runs}
use Rattle.std.proofs.lemmas.Iterator.{YieldsList-from_range}
use Rattle.std.proofs.lemmas.Iterator.Consumers.{YieldsList-at, YieldsList-from_filter, count_from_yields_List}
use Rattle.numbers.specs.Words.{cons_if, every, keep, some?}
use Rattle.numbers.proofs.Tests.{never}
use Rattle.block.specs.Fields.{upto}
use Rattle.block.proofs.Passing.{all_below, any_below}

-- s goes over the numbers from a on below n, a call leaves the closure as it was, and r is what was answered
module _ {F : Type 0} {g : Mut F (ℕ × Unit {0}) Bool} {s : Range ℕ} {f : F} (r : Bool) (a n : ℕ) (e : s ≡ record { start = a; end = n }) (keeps : CallKeepsClosure g f) where
  abbrev answer : Bool → ℕ → Type 0
  answer b x = Called g f (x, tt) b f

  start : (p : Run nat_range_steps) → p.from ≡ s → p.from.start ≡ a
  start p q = ap (λ (t : Range ℕ). t.start) (q ∙ e)

  end : (p : Run nat_range_steps) → p.from ≡ s → p.from.end ≡ n
  end p q = ap (λ (t : Range ℕ). t.end) (q ∙ e)

  each : (p : Run nat_range_steps) → p.from ≡ s → p.whole ≡ true → (b : Bool) → AllItemsGive p g f b → (k : ℕ) → a ≤ k → k < n → answer b k
  each p q w b all k m l =
      at (p.at (k - a)) ((range_runs p p.seen).3 (k - a) (omega (arith, (range_runs p p.seen).1 w, start p q, end p q))) (all keeps (k - a))
    where
      at : (o : Option ℕ) → option_map (λ y. y) o ≡ Some (p.from.start + (k - a)) → MatchOption o (Unit {0}) (answer b) → answer b k
      at None i h = absurd (none-some _ i)
      at (Some x) i h = let same : x ≡ k = omega (arith, same_Some _ _ i, start p q) in subst (answer b) same h

  some : (p : Run nat_range_steps) → p.from ≡ s → (b : Bool) → AnyItemGives p g f b → (k : ℕ) × (a ≤ k) × (k < n) × answer b k
  some p q b any = at (p.at (any keeps).0) ((range_runs p p.seen).2 (any keeps).0) (any keeps).2
    where
      at : (o : Option ℕ) → MatchOption o (Unit {0}) (λ x. (x ≡ p.from.start + (any keeps).0) × (x < p.from.end)) → IsSomeAnd o (answer b) → (k : ℕ) × (a ≤ k) × (k < n) × answer b k
      at None i h = absurd h
      at (Some x) i h = (x, omega (arith, i.0, start p q), omega (arith, i.1, end p q), h)

  module _ (h : ℕ → Bool) (said : (x : ℕ) → a ≤ x → x < n → (b : Bool) → Called g f (x, tt) b f → b ≡ h x) where
    every_one : (b : Bool) → (p : Run nat_range_steps) → p.from ≡ s → (p.whole ≡ true) × AllItemsGive p g f b → (k : ℕ) → a ≤ k → k < n → h k ≡ b
    every_one b p q w k m l = sym (said k m l b (each p q w.0 b w.1 k m l))

    one : (b : Bool) → (p : Run nat_range_steps) → p.from ≡ s → AnyItemGives p g f b → (k : ℕ) × (a ≤ k) × (k < n) × (h k ≡ b)
    one b p q w = let o = some p q b w in (o.0, o.1, o.2, sym (said o.0 o.1 o.2 b o.3))

    pub all_said : SomeRun nat_range_steps s (λ p. MatchBool r ((p.whole ≡ true) × AllItemsGive p g f true) (AnyItemGives p g f false))
        → MatchBool r ((k : ℕ) → a ≤ k → k < n → h k ≡ true) ((k : ℕ) × (a ≤ k) × (k < n) × (h k ≡ false))
    all_said ran = by r ran.2
      where
        by : (t : Bool) → MatchBool t ((ran.0.whole ≡ true) × AllItemsGive ran.0 g f true) (AnyItemGives ran.0 g f false) → MatchBool t ((k : ℕ) → a ≤ k → k < n → h k ≡ true) ((k : ℕ) × (a ≤ k) × (k < n) × (h k ≡ false))
        by true w = every_one true ran.0 ran.1 w
        by false w = one false ran.0 ran.1 w

    pub any_said : SomeRun nat_range_steps s (λ p. MatchBool r (AnyItemGives p g f true) ((p.whole ≡ true) × AllItemsGive p g f false))
        → MatchBool r ((k : ℕ) × (a ≤ k) × (k < n) × (h k ≡ true)) ((k : ℕ) → a ≤ k → k < n → h k ≡ false)
    any_said ran = by r ran.2
      where
        by : (t : Bool) → MatchBool t (AnyItemGives ran.0 g f true) ((ran.0.whole ≡ true) × AllItemsGive ran.0 g f false) → MatchBool t ((k : ℕ) × (a ≤ k) × (k < n) × (h k ≡ true)) ((k : ℕ) → a ≤ k → k < n → h k ≡ false)
        by true w = one true ran.0 ran.1 w
        by false w = every_one false ran.0 ran.1 w

-- from 0 on
module _ {F : Type 0} {g : Mut F (ℕ × Unit {0}) Bool} {s : Range ℕ} {f : F} (r : Bool) (n : ℕ) (e : s ≡ record { start = 0; end = n }) (keeps : CallKeepsClosure g f) where
  pub all_asked : (h : ℕ → Bool) → SomeRun nat_range_steps s (λ p. MatchBool r ((p.whole ≡ true) × AllItemsGive p g f true) (AnyItemGives p g f false))
      → ((x : ℕ) → x < n → (b : Bool) → Called g f (x, tt) b f → b ≡ h x) → r ≡ every (upto n h)
  all_asked h ran said = by r (all_said r 0 n e keeps h (λ x m. said x) ran)
    where
      by : (t : Bool) → MatchBool t ((k : ℕ) → 0 ≤ k → k < n → h k ≡ true) ((k : ℕ) × (0 ≤ k) × (k < n) × (h k ≡ false)) → t ≡ every (upto n h)
      by true w = all_below true n h (λ t k. w k (omega arith)) (λ t. never refl t)
      by false w = all_below false n h (λ t. never t refl) (λ t. (w.0, w.2, w.3))

  pub any_asked : {A : Type 0} (m : A → Bool) (h : ℕ → A) → SomeRun nat_range_steps s (λ p. MatchBool r (AnyItemGives p g f true) ((p.whole ≡ true) × AllItemsGive p g f false))
      → ((x : ℕ) → x < n → (b : Bool) → Called g f (x, tt) b f → b ≡ m (h x)) → r ≡ some? m (upto n h)
  any_asked m h ran said = by r (any_said r 0 n e keeps (λ x. m (h x)) (λ x l. said x) ran)
    where
      by : (t : Bool) → MatchBool t ((k : ℕ) × (0 ≤ k) × (k < n) × (m (h k) ≡ true)) ((k : ℕ) → 0 ≤ k → k < n → m (h k) ≡ false) → t ≡ some? m (upto n h)
      by true w = any_below true m n h (λ t. (w.0, w.2, w.3)) (λ t. never refl t)
      by false w = any_below false m n h (λ t. never t refl) (λ t k. w k (omega arith))

-- how many of them pass
module _ {A : Type 0} (p : A → Bool) (h : ℕ → A) where
  join : {B : Type 0} (x : ℕ) (y : B) (xs : List ℕ) (ys : List B) (b c : Bool) → b ≡ c → length xs ≡ length ys → length (cond b (x ∷ xs) xs) ≡ length (cons_if c y ys)
  join x y xs ys true true q l = ap suc l
  join x y xs ys true false q l = never refl q
  join x y xs ys false true q l = never q refl
  join x y xs ys false false q l = l

  counted : (a n : ℕ) (k : ℕ → A) → ((i : ℕ) → h (a + i) ≡ k i) → length (filter (λ i. p (h i)) (range_with_len a n)) ≡ length (keep p (upto n k))
  counted a zero k same = refl
  counted a (suc n) k same =
      join a (k 0) (filter (λ i. p (h i)) (range_with_len (a + 1) n)) (keep p (upto n (λ i. k (suc i)))) (p (h a)) (p (k 0)) (let e : a ≡ a + 0 = omega arith in ap (λ (i : ℕ). p (h i)) e ∙ ap p (same 0))
      (counted (a + 1) n (λ i. k (suc i)) (λ i. let e : a + 1 + i ≡ a + suc i = omega arith in ap h e ∙ same (suc i)))

  pub count_asked : {F : Type 0} {g : Mut F (Bor ℕ × Unit {0}) Bool} {s : Range ℕ} {f : F} (t : Filter (Range ℕ) F) (r n : ℕ) → filter_source t ≡ s → filter_callee t ≡ f → s ≡ record { start = 0; end = n }
      → (xs : List ℕ) × Drains (filter_steps nat_range_steps g) t xs × (r ≡ length xs) → ((x : ℕ) (b : Bool) (q : F) → CalledAt g f x b q → (q ≡ f) × (b ≡ p (h x))) → r ≡ length (keep p (upto n h))
  count_asked {g = g} t r n source callee e ran said =
      count_from_yields_List t r ran (YieldsList-from_filter g (λ i. p (h i)) (YieldsList-at source (YieldsList-from_range 0 n n e (omega arith))) callee said)
      ∙ counted 0 n h (λ i. let e : 0 + i ≡ i = omega arith in ap h e)
