-- Eight counters that stand alone, as a context: made one after the other, and against the entries of another. Assumes nothing.
use Rattle.std.specs.Prelude.{if◌then◌else◌}
use Prim.Native.Nat.{ℕ, ◌+◌, ◌-◌, max, ◌≤◌, ◌<◌}
use mathlib.Core.Path.{◌≡◌, ap, ap₂, sym, ◌∙◌}
use mathlib.Core.List.{List}
use native.Mathlib.Omega.{arith}
use lib.ListN.{length, get_or, set, length-set}
use lib.Seq.{get_or-set_same, get_or-set_other}
use borrow.Author.Count.{below_more}
use Rattle.numbers.specs.declared.Controller.{Controller}
use Rattle.numbers.specs.declared.Counter.{Counter}
use Rattle.numbers.specs.Words.{map}
use Rattle.numbers.specs.Numbers.{controller, counter, each}
use Rattle.numbers.proofs.Lists.{map_length}
use Rattle.numbers.proofs.Controllers.{each_same, each_entry}
use Rattle.meaning.specs.CrewTable.{CrewTable, holds}
use Rattle.meaning.specs.Clock.{Clock, row}
use Rattle.meaning.specs.Context.{Context, entry}
use Rattle.object.proofs.Entries.{given_entry}

-- the counters of the first i controllers are made
pub record Made (f : Controller → Counter) (i : ℕ) (out : List ℕ) : Type 0 where
  pub done : i ≤ 8
  pub size : length out ≡ 8
  pub so_far : (k : ℕ) → k < i → get_or out k 0 ≡ (f (controller (k + 1))).0

module _ (f : Controller → Counter) where
  module _ (i : ℕ) (out : List ℕ) (M : Made f i out) where
    pub made_more : i < 8 → {c : Counter} → c ≡ f (controller (i + 1)) → Made f (i + 1) (set out i c.0)
    made_more l {c} e = record {
      done = omega arith;
      size = length-set out i c.0 ∙ M.size;
      so_far = below_more _ _ (λ k h. get_or-set_other out i k c.0 0 (λ q. omega arith) ∙ M.so_far k h) (get_or-set_same out i c.0 0 (omega (arith, M.size)) ∙ ap (λ (x : Counter). x.0) e);
    }

    pub made_all : 8 ≤ i → map counter out ≡ each f
    made_all l =
        sym (each_entry (counter 0) (map counter out) (map_length counter out ∙ M.size))
        ∙ each_same (λ n. get_or (map counter out) (n.0 - 1) (counter 0)) f
        (λ n r. given_entry out (n.0 - 1) ∙ ap counter (M.so_far (n.0 - 1) (omega (arith, r.0, r.1)) ∙ ap (λ (j : ℕ). (f (controller j)).0) (back n r.0)))
      where
        back : (n : Controller) → 1 ≤ n.0 → n.0 - 1 + 1 ≡ n.0
        back n h = omega arith

-- the filled entry of a controller
abbrev pub filled_at : CrewTable → ℕ → Clock → Context → Controller → Counter
filled_at t job k c n = if holds t n job then counter (max (entry c n).0 (row k n).base) else entry c n

-- the higher of two entries
abbrev pub higher_at : Context → Context → Controller → Counter
higher_at c d n = counter (max (entry c n).0 (entry d n).0)

-- the entry of controller i + 1
pub given_at : (l : List ℕ) (i : ℕ) → entry (map counter l) (controller (i + 1)) ≡ counter (get_or l i 0)
given_at l i = given_entry l (i + 1 - 1) ∙ ap (λ (j : ℕ). counter (get_or l j 0)) back
  where
    back : i + 1 - 1 ≡ i
    back = omega arith

-- e and o are the two entries of controller i + 1 as they were read
pub read_higher : (c : Context) (l : List ℕ) (i : ℕ) {e : Counter} → e ≡ entry c (controller (i + 1)) → counter (max e.0 (get_or l i 0)) ≡ higher_at c (map counter l) (controller (i + 1))
read_higher c l i p = ap₂ (λ (x y : Counter). counter (max x.0 y.0)) p (sym (given_at l i))
