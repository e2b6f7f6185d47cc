-- When the entries of a block are good, one by one and in their order. Assumes nothing.
use Prim.Native.Nat.{ℕ, zero, suc, ◌+◌, ◌-◌, ◌<◌}
use mathlib.Core.Path.{◌≡◌, sym, ap, ap₂, ◌∙◌}
use mathlib.Core.Logic.{⊎_elim}
use mathlib.Core.Bool.{Bool, true, false, ◌&&◌}
use mathlib.Core.List.{List, [], ◌∷◌}
use native.Mathlib.Omega.{arith}
use lib.ListN.{get_or}
use Rattle.numbers.specs.declared.Controller.{Controller}
use Rattle.numbers.specs.Words.{every, all?, ascends?}
use Rattle.numbers.proofs.Tests.{same_test, and_left, and_right, and_both}
use Rattle.numbers.proofs.Lists.{clause, passed, ◌and_also◌, all_passed}
use Rattle.numbers.proofs.Dots.{dot_order}
use Rattle.block.specs.Fields.{upto}
use Rattle.block.proofs.ByIndex.{less_or_same, all_below, below_all, ascends_upto, upto_ascends}
use Rattle.block.proofs.Passing.{every_true, every_at}
use Rattle.meaning.specs.CrewTable.{CrewTable, holds}
use Rattle.meaning.specs.Clock.{Clock, in_clock}
use Rattle.meaning.specs.State.{Listed, listed_before}
use Rattle.meaning.specs.Good.{listed_formed}
use Rattle.dots.specs.DotsGood.{in_its_list, dots_good}
use Rattle.dots.specs.Entries.{entry_good}

module _ (mine : Bool) (own : Controller) (t : CrewTable) (k : Clock) (n : ℕ) (e : ℕ → Listed) where
  abbrev clauses : List Bool
  clauses =
      all? (listed_formed t) (upto n e)
      ∷ ascends? listed_before (upto n e)
      ∷ all? (in_its_list mine own) (upto n e)
      ∷ all? (λ l. holds t own l.key.job) (upto n e)
      ∷ all? (λ l. in_clock k l.dot) (upto n e)
      ∷ []

  abbrev tests : Listed → List Bool
  tests l = listed_formed t l ∷ in_its_list mine own l ∷ holds t own l.key.job ∷ in_clock k l.dot ∷ []

  test_at : (l : Listed) → entry_good mine own t k l ≡ true → (i : ℕ) → get_or (tests l) i true ≡ true
  unfolding entry_good
  test_at l g i = clause (tests l) g i

  pub all_good : ((i : ℕ) → i < n → entry_good mine own t k (e i) ≡ true) → ((i j : ℕ) → i < j → j < n → listed_before (e i) (e j) ≡ true)
      → true ≡ dots_good mine own t k (upto n e)
  unfolding dots_good
  all_good g p =
      sym
      (all_passed {bs = clauses}
      (all_below (listed_formed t) n e (λ i l. test_at (e i) (g i l) 0)
      and_also ascends_upto listed_before n e p
      and_also all_below (in_its_list mine own) n e (λ i l. test_at (e i) (g i l) 1)
      and_also all_below (λ l. holds t own l.key.job) n e (λ i l. test_at (e i) (g i l) 2)
      and_also all_below (λ l. in_clock k l.dot) n e (λ i l. test_at (e i) (g i l) 3)
      and_also passed))

  clause_at : dots_good mine own t k (upto n e) ≡ true → (i : ℕ) → get_or clauses i true ≡ true
  unfolding dots_good
  clause_at g i = clause clauses g i

  each_of : dots_good mine own t k (upto n e) ≡ true → (i : ℕ) → i < n → entry_good mine own t k (e i) ≡ true
  unfolding entry_good
  each_of g i l =
      all_passed {bs = tests (e i)}
      (below_all (listed_formed t) n e (clause_at g 0) i l
      and_also below_all (in_its_list mine own) n e (clause_at g 2) i l
      and_also below_all (λ x. holds t own x.key.job) n e (clause_at g 3) i l
      and_also below_all (λ x. in_clock k x.dot) n e (clause_at g 4) i l
      and_also passed)

  -- it is good where each is, and each comes after the one before it
  abbrev pub near : ℕ → Bool
  near i = listed_before (e (i - 1)) (e i)

  in_turn : (every (upto n (λ i. entry_good mine own t k (e i))) && every (upto (n - 1) (λ i. near (1 + i)))) ≡ dots_good mine own t k (upto n e)
  in_turn =
      same_test (every (upto n (λ i. entry_good mine own t k (e i))) && every (upto (n - 1) (λ i. near (1 + i)))) (dots_good mine own t k (upto n e))
      (λ p.
      let q = every_at (n - 1) (λ i. near (1 + i)) (and_right (every (upto n (λ i. entry_good mine own t k (e i)))) (every (upto (n - 1) (λ i. near (1 + i)))) p) in
      sym (all_good (every_at n (λ i. entry_good mine own t k (e i)) (and_left (every (upto n (λ i. entry_good mine own t k (e i)))) (every (upto (n - 1) (λ i. near (1 + i)))) p)) (λ i j l m. pairs q j m i l)))
      (λ g.
      and_both (every (upto n (λ i. entry_good mine own t k (e i)))) (every (upto (n - 1) (λ i. near (1 + i))))
      (every_true n (λ i. entry_good mine own t k (e i)) (each_of g))
      (every_true (n - 1) (λ i. near (1 + i)) (λ i l. upto_ascends listed_before n e (clause_at g 1) (1 + i - 1) (1 + i) (omega arith) (omega arith))))
    where
      pairs : ((i : ℕ) → i < n - 1 → near (1 + i) ≡ true) → (j : ℕ) → j < n → (i : ℕ) → i < j → listed_before (e i) (e j) ≡ true
      pairs q zero m i l = absurd (omega arith)
      pairs q (suc j) m i l =
          let here : 1 + j - 1 ≡ j = omega arith in
          let there : 1 + j ≡ suc j = omega arith in
          let last : listed_before (e j) (e (suc j)) ≡ true = ap₂ (λ (x y : ℕ). listed_before (e x) (e y)) (sym here) (sym there) ∙ q j (omega arith) in
          ⊎_elim (λ h. dot_order.through (e i).dot (e j).dot (e (suc j)).dot (pairs q j (omega arith) i h) last)
          (λ h. ap (λ (x : ℕ). listed_before (e x) (e (suc j))) h ∙ last) (less_or_same i j (omega arith))

  -- what the two chains answer, one after the other
  module _ {each : Bool} (p : each ≡ every (upto n (λ i. entry_good mine own t k (e i)))) where
    pub in_order : {next : Bool} → each ≡ true → next ≡ every (upto (n - 1) (λ i. near (1 + i))) → next ≡ dots_good mine own t k (upto n e)
    in_order {next} q r = r ∙ sym (ap (λ (x : Bool). x && every (upto (n - 1) (λ i. near (1 + i)))) (sym p ∙ q)) ∙ in_turn

    pub not_each : each ≡ false → each ≡ dots_good mine own t k (upto n e)
    not_each q = q ∙ sym (ap (λ (x : Bool). x && every (upto (n - 1) (λ i. near (1 + i)))) (sym p ∙ q)) ∙ in_turn
