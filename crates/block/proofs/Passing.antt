-- Tests that a function makes: one of each number below n, in a loop, and several one after the other. Assumes nothing.
use Prim.Native.Nat.{ℕ, zero, suc, ◌+◌, ◌≤◌, ◌<◌}
use mathlib.Core.Path.{◌≡◌, refl, sym, ap, ap₂, ◌∙◌}
use mathlib.Core.Bool.{Bool, true, false, ◌&&◌, ◌||◌, not}
use mathlib.Core.List.{List, [], ◌∷◌}
use native.Mathlib.Omega.{arith}
use borrow.Author.Tests.{not-true, not-false}
use borrow.Author.Count.{below_more}
use Rattle.numbers.specs.Words.{every, all?, some?}
use Rattle.numbers.proofs.Tests.{by_test, never, and_left, and_right, and_both}
use Rattle.std.specs.List.{list_all, range_with_len}
use Rattle.block.specs.Fields.{upto}
use Rattle.block.proofs.Arrays.{upto_same}

pub every_true : (n : ℕ) (f : ℕ → Bool) → ((k : ℕ) → k < n → f k ≡ true) → every (upto n f) ≡ true
every_true zero f h = refl
every_true (suc n) f h =
    and_both (f 0) (every (upto n (λ i. f (suc i)))) (h 0 (omega arith)) (every_true n (λ i. f (suc i)) (λ k l. h (suc k) (omega arith)))

pub every_at : (n : ℕ) (f : ℕ → Bool) → every (upto n f) ≡ true → (k : ℕ) → k < n → f k ≡ true
every_at zero f t k l = absurd (omega arith)
every_at (suc n) f t zero l = and_left (f 0) (every (upto n (λ i. f (suc i)))) t
every_at (suc n) f t (suc k) l = every_at n (λ i. f (suc i)) (and_right (f 0) (every (upto n (λ i. f (suc i)))) t) k (omega arith)

-- a test of all of a list that has one thing for each number
pub all_upto : {A : Type 0} (p : A → Bool) (n : ℕ) (f : ℕ → A) → all? p (upto n f) ≡ every (upto n (λ i. p (f i)))
all_upto p zero f = refl
all_upto p (suc n) f = ap (λ (t : Bool). p (f 0) && t) (all_upto p n (λ i. f (suc i)))

-- and one that some of them are to pass
pub some_upto : {A : Type 0} (g : A → Bool) (n : ℕ) (f : ℕ → A) → some? g (upto n f) ≡ not (every (upto n (λ i. not (g (f i)))))
some_upto g zero f = refl
some_upto g (suc n) f = ap (λ (t : Bool). g (f 0) || t) (some_upto g n (λ i. f (suc i))) ∙ join (g (f 0)) (every (upto n (λ i. not (g (f (suc i))))))
  where
    join : (a b : Bool) → (a || not b) ≡ not (not a && b)
    join true b = refl
    join false b = refl

-- the tests below i have passed
pub record Passing (n : ℕ) (f : ℕ → Bool) (i : ℕ) : Type 0 where
  pub within : i ≤ n
  pub so_far : (k : ℕ) → k < i → f k ≡ true

pub none_passed : (n : ℕ) (f : ℕ → Bool) → Passing n f 0
none_passed n f = record { within = omega arith; so_far = λ k l. absurd (omega arith) }

module _ {n : ℕ} {f : ℕ → Bool} {i : ℕ} (p : Passing n f i) where
  pub one_more : i < n → f i ≡ true → Passing n f (i + 1)
  one_more l t = record { within = omega arith; so_far = below_more _ _ p.so_far t }

  pub one_fails : i < n → f i ≡ false → false ≡ every (upto n f)
  one_fails l t = by_test (every (upto n f)) (λ q. never (every_at n f q i l) t) (λ q. sym q)

  pub all_passed : n ≤ i → true ≡ every (upto n f)
  all_passed l = sym (every_true n f (λ k h. p.so_far k (omega arith)))

-- ---- a chain over the numbers below n: what its answer says of each of them is what `search (rules, ranges)` finds

pub all_below : (r : Bool) (n : ℕ) (f : ℕ → Bool) → (r ≡ true → (k : ℕ) → k < n → f k ≡ true) → (r ≡ false → (k : ℕ) × (k < n) × (f k ≡ false)) → r ≡ every (upto n f)
all_below true n f all one = sym (every_true n f (all refl))
all_below false n f all one = let w = one refl in by_test (every (upto n f)) (λ q. never (every_at n f q w.0 w.1) w.2) (λ q. sym q)

pub any_below : {A : Type 0} (r : Bool) (g : A → Bool) (n : ℕ) (f : ℕ → A) → (r ≡ true → (k : ℕ) × (k < n) × (g (f k) ≡ true)) → (r ≡ false → (k : ℕ) → k < n → g (f k) ≡ false)
    → r ≡ some? g (upto n f)
any_below {A} true g n f one none = let w = one refl in some_true n f w.0 w.1 w.2
  where
    some_true : (m : ℕ) (h : ℕ → A) (k : ℕ) → k < m → g (h k) ≡ true → true ≡ some? g (upto m h)
    some_true zero h k l t = absurd (omega arith)
    some_true (suc m) h zero l t = sym (ap (λ (b : Bool). b || some? g (upto m (λ i. h (suc i)))) t)
    some_true (suc m) h (suc k) l t = or_right (g (h 0)) (some_true m (λ i. h (suc i)) k (omega arith) t)
      where
        or_right : (a : Bool) {b : Bool} → true ≡ b → true ≡ (a || b)
        or_right true e = refl
        or_right false e = e
any_below {A} false g n f one none = sym (some_false n f (none refl))
  where
    some_false : (m : ℕ) (h : ℕ → A) → ((k : ℕ) → k < m → g (h k) ≡ false) → some? g (upto m h) ≡ false
    some_false zero h t = refl
    some_false (suc m) h t = ap (λ (b : Bool). b || some? g (upto m (λ i. h (suc i)))) (t 0 (omega arith)) ∙ some_false m (λ i. h (suc i)) (λ k l. t (suc k) (omega arith))

-- the same by the library's own words: `all` over the numbers from a on, as `all_from_yields_List` has it
pub range_all : (p : ℕ → Bool) (a n : ℕ) → list_all p (range_with_len a n) ≡ every (upto n (λ k. p (a + k)))
range_all p a zero = refl
range_all p a (suc n) =
    ap₂ ◌&&◌ (ap p (omega arith)) (range_all p (a + 1) n ∙ ap every (upto_same n (λ k. p (a + 1 + k)) (λ k. p (a + suc k)) (λ k l. ap p (omega arith))))

pub range_every : (p : ℕ → Bool) (n : ℕ) → list_all p (range_with_len 0 n) ≡ every (upto n p)
range_every p n = range_all p 0 n ∙ ap every (upto_same n (λ k. p (0 + k)) p (λ k l. ap p (omega arith)))

-- ---- tests one after the other, each of which may end the function

-- the answer w hangs on these tests
pub record HangsOn (w : Bool) (ts : List Bool) : Type 0 where
  pub hangs : w ≡ every ts

module _ {w t : Bool} {ts : List Bool} (p : HangsOn w (t ∷ ts)) where
  pub passed : t ≡ true → HangsOn w ts
  passed e = record { hangs = p.hangs ∙ ap (λ (x : Bool). x && every ts) e }

  pub failed : t ≡ false → false ≡ w
  failed e = sym (p.hangs ∙ ap (λ (x : Bool). x && every ts) e)

pub and_true : (a : Bool) → (a && true) ≡ a
and_true true = refl
and_true false = refl

pub last_test : {w t : Bool} → HangsOn w (t ∷ []) → t ≡ w
last_test {w} {t} p = sym (p.hangs ∙ and_true t)

-- what a call answered, of a test
pub said_no : {r t : Bool} → r ≡ t → not r ≡ true → t ≡ false
said_no {r} e n = sym e ∙ not-true r n

pub said_yes : {r t : Bool} → r ≡ t → not r ≡ false → t ≡ true
said_yes {r} e n = sym e ∙ not-false r n
