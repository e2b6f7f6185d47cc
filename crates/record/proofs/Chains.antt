-- What a chain over the numbers of a range answers, where its closure computes a test. An answer gives each law the clause `ran` of the call that runs
-- the chain, `(cc)` for the range, and `λ x b q k. search (rules, tests)` for the closure. Assumes nothing.
use Prim.Native.Nat.{ℕ, zero, suc, ◌+◌, ◌-◌, ◌<◌}
use mathlib.Core.Path.{◌≡◌, refl, ap, ap₂, ◌∙◌}
use mathlib.Core.Bool.{Bool, true, false, ◌&&◌, ◌||◌}
use mathlib.Core.List.{List}
use lib.ListN.{length}
use denote.Ref.{Bor}
use native.Mathlib.Numerals.{unary_clauses}
use native.Mathlib.Omega.{arith}
use denote.Param.Members.{Mut}
use Rattle.std.specs.declared.ops.Range.{Range}
use Rattle.std.specs.Fn.{Called, CalledAt}
use Rattle.std.specs.Iterator.{YieldsThen, Drains}
use Rattle.std.specs.Iterator.Adapters.{filter_source, filter_callee, filter_steps}
use Rattle.std.specs.declared.iter.Filter.{Filter}
use Rattle.std.specs.List.{range_with_len, list_all, list_any, filter, FoldsTo}
use Rattle.std.specs.Option.{MatchOption}
use Rattle.std.specs.declared.option.Option.{Option}
use Rattle.std.proofs.iter.Yields.{nat_range_steps}
use Rattle.std.proofs.lemmas.Iterator.{YieldsList-from_range}
use Rattle.std.proofs.lemmas.Iterator.Consumers.{count_from_yields_List, YieldsList-from_filter}
use Rattle.std.proofs.lemmas.Iterator.Search.{all_from_yields_List, any_from_yields_List}
use Rattle.numbers.specs.Words.{every, some?, keep}
use Rattle.numbers.proofs.Tests.{by_test}
use Rattle.block.specs.Fields.{upto}

-- the numbers from a on, shifted to those from 0 on
counted : (test : ℕ → Bool) (a n : ℕ) (f : ℕ → Bool) → ((i : ℕ) → i < n → test (i + a) ≡ f i) → list_all test (range_with_len a n) ≡ every (upto n f)
counted test a zero f h = refl
counted test a (suc n) f h =
    let first : a ≡ 0 + a = omega arith in
    let next : (i : ℕ) → i + (a + 1) ≡ suc i + a = λ i. omega arith in
    ap₂ ◌&&◌ (ap test first ∙ h 0 (omega arith)) (counted test (a + 1) n (λ i. f (suc i)) (λ i l. ap test (next i) ∙ h (suc i) (omega arith)))

counted_some : {A : Type 0} (test : ℕ → Bool) (a n : ℕ) (q : A → Bool) (f : ℕ → A) → ((i : ℕ) → i < n → test (i + a) ≡ q (f i))
    → list_any test (range_with_len a n) ≡ some? q (upto n f)
counted_some test a zero q f h = refl
counted_some test a (suc n) q f h =
    let first : a ≡ 0 + a = omega arith in
    let next : (i : ℕ) → i + (a + 1) ≡ suc i + a = λ i. omega arith in
    ap₂ ◌||◌ (ap test first ∙ h 0 (omega arith)) (counted_some test (a + 1) n q (λ i. f (suc i)) (λ i l. ap test (next i) ∙ h (suc i) (omega arith)))

-- what `all` ensures of a run over a range, and `any`: the closure answered `goes` of each number before the last one asked
abbrev Ran : {F : Type 0} → Bool → Bool → Mut F (ℕ × Unit {0}) Bool → Range ℕ → Range ℕ → F → Bool → Type 0
Ran {F} goes stops g s u p r =
    (xs : List ℕ) × (o : Option ℕ) × (j : F) × YieldsThen nat_range_steps s xs o u × FoldsTo (λ p x q. Called g p (x, tt) goes q) p xs j
    × MatchOption o (r ≡ goes) (λ x. (r ≡ stops) × ((h : F) × Called g j (x, tt) stops h))

-- the closure computes a test
abbrev Computes : {F : Type 0} → Mut F (ℕ × Unit {0}) Bool → F → (ℕ → Bool) → Type 0
Computes {F} g p test = (x : ℕ) (b : Bool) (q : F) → Called g p (x, tt) b q → (q ≡ p) × (b ≡ test x)

module _ {F : Type 0} {g : Mut F (ℕ × Unit {0}) Bool} {s u : Range ℕ} {p : F} {r : Bool} where
  -- over a..b, whose n numbers are tested as f says
  pub chain_all_from : (a b n : ℕ) (test f : ℕ → Bool) → Ran true false g s u p r → s ≡ record { start = a; end = b } → b - a ≡ n → Computes g p test
      → ((i : ℕ) → i < n → test (i + a) ≡ f i) → r ≡ every (upto n f)
  chain_all_from a b n test f ran e l tests same = all_from_yields_List test u p r ran (YieldsList-from_range a b n e l) tests ∙ counted test a n f same

  -- over 0..n
  pub chain_all : (n : ℕ) (test : ℕ → Bool) → Ran true false g s u p r → s ≡ record { start = 0; end = n } → Computes g p test → r ≡ every (upto n test)
  chain_all n test ran e tests = chain_all_from 0 n n test test ran e (omega arith) tests (λ i l. simp unary_clauses)

  -- over 0..n, tested as q says of what f gives
  pub chain_any : {A : Type 0} (n : ℕ) (test : ℕ → Bool) (q : A → Bool) (f : ℕ → A) → Ran false true g s u p r → s ≡ record { start = 0; end = n } → Computes g p test
      → ((i : ℕ) → i < n → test i ≡ q (f i)) → r ≡ some? q (upto n f)
  chain_any n test q f ran e tests same =
      any_from_yields_List test u p r ran (YieldsList-from_range 0 n n e (omega arith)) tests ∙ counted_some test 0 n q f (λ i l. simp unary_clauses (same i l))

-- ---- how many of the numbers pass a test

counted_kept : {A : Type 0} (test : ℕ → Bool) (a n : ℕ) (q : A → Bool) (f : ℕ → A) → ((i : ℕ) → i < n → test (i + a) ≡ q (f i))
    → length (filter test (range_with_len a n)) ≡ length (keep q (upto n f))
counted_kept test a zero q f h = refl
counted_kept test a (suc n) q f h =
    let first : a ≡ 0 + a = omega arith in
    let next : (i : ℕ) → i + (a + 1) ≡ suc i + a = λ i. omega arith in
    let rest = counted_kept test (a + 1) n q (λ i. f (suc i)) (λ i l. ap test (next i) ∙ h (suc i) (omega arith)) in
    rw (ap test first ∙ h 0 (omega arith)) (by_test (q (f 0)) (λ t. rw t (ap suc rest)) (λ t. rw t rest))

module _ {F : Type 0} {g : Mut F (Bor ℕ × Unit {0}) Bool} {s : Filter (Range ℕ) F} {p : F} {r : ℕ} where
  -- over 0..n, tested as q says of what f gives
  pub chain_count : {A : Type 0} (n : ℕ) (test : ℕ → Bool) (q : A → Bool) (f : ℕ → A) → ((xs : List ℕ) × Drains (filter_steps nat_range_steps g) s xs × (r ≡ length xs))
      → filter_source s ≡ record { start = 0; end = n } → filter_callee s ≡ p → ((x : ℕ) (b : Bool) (q : F) → CalledAt g p x b q → (q ≡ p) × (b ≡ test x))
      → ((i : ℕ) → i < n → test i ≡ q (f i)) → r ≡ length (keep q (upto n f))
  chain_count n test q f ran e c tests same =
      count_from_yields_List s r ran (YieldsList-from_filter g test (YieldsList-from_range 0 n n e (omega arith)) c tests)
      ∙ counted_kept test 0 n q f (λ i l. simp unary_clauses (same i l))
