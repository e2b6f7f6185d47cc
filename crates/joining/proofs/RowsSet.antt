-- The eight rows of an image put anew, one after the other. Assumes nothing.
use Prim.Native.Nat.{ℕ, ◌+◌, ◌-◌, ◌≤◌, ◌<◌}
use mathlib.Core.Path.{◌≡◌, ap, sym, ◌∙◌, subst}
use mathlib.Core.List.{List}
use native.Mathlib.Omega.{arith}
use lib.ListN.{length}
use borrow.Author.Tests.{eqb-false}
use Rattle.numbers.specs.declared.Controller.{Controller}
use Rattle.numbers.specs.Numbers.{controller, same_controller, Crew}
use Rattle.numbers.proofs.Tests.{by_test}
use Rattle.numbers.proofs.Controllers.{same_controllers}
use Rattle.block.specs.Fields.{put_at}
use Rattle.row.specs.declared.Row.{Row}
use Rattle.row.specs.Row.{none_seen}
use Rattle.meaning.specs.Clock.{Clock, row}
use Rattle.meaning.specs.State.{State}
use Rattle.laws.proofs.Entering.{same_clocks}
use Rattle.layout.specs.Image.{image_length, head_of, decode}
use Rattle.head.specs.HeadEdits.{put_row}
use Rattle.image_edits.specs.Edits.{Canonical, with_head}
use Rattle.store.proofs.OneEntry.{put_eight, put_here, put_elsewhere}
use Rattle.joining.specs.Joined.{with_clock}

module _ (s : State) (k : Clock) where
  -- the rows below n are those of k, and nothing but rows has changed
  pub record Set (n : ℕ) (img : List ℕ) : Type 0 where
    pub low : 1 ≤ n
    pub size : length img ≡ image_length
    pub canonical : Canonical img
    pub is : decode img ≡ with_clock s (decode img).clock
    pub eight : length (decode img).clock ≡ 8
    pub done : (m : Controller) → Crew m → m.0 < n → row (decode img).clock m ≡ row k m

  module _ (n : ℕ) (img : List ℕ) (S : Set n img) (l : n < 9) (r : Row) (read : r ≡ row k (controller n)) (x : List ℕ) (long : length x ≡ image_length)
      (e : (decode x ≡ with_head (decode img) (put_row (head_of (decode img)) (controller n) r)) × Canonical x) where
    crew : Crew (controller n)
    crew = (S.low, omega arith)

    clock_now : (decode x).clock ≡ put_at (decode img).clock (n - 1) r
    clock_now = ap (λ (z : State). z.clock) e.0

    pub row_set : Set (n + 1) x
    row_set = record {
      low = omega arith;
      size = long;
      canonical = e.1;
      is = e.0 ∙ ap (λ (z : State). with_head z (put_row (head_of z) (controller n) r)) S.is ∙ ap (with_clock s) (sym clock_now);
      eight = ap length clock_now ∙ put_eight (decode img).clock S.eight (controller n) crew r none_seen;
      done = λ m c h. by_test (same_controller m (controller n))
          (λ t. subst (λ (z : Controller). row (decode x).clock z ≡ row k z) (sym (same_controllers m (controller n) t)) (ap (λ (z : Clock). row z (controller n)) clock_now ∙ put_here (decode img).clock S.eight (controller n) crew r none_seen ∙ read))
          (λ t. ap (λ (z : Clock). row z m) clock_now ∙ put_elsewhere (decode img).clock S.eight (controller n) crew r none_seen m c t ∙ S.done m c (omega (arith, h, eqb-false m.0 n t)));
    }

  pub rows_set : (n : ℕ) (img : List ℕ) → Set n img → 9 ≤ n → length k ≡ 8 → (decode img ≡ with_clock s k) × Canonical img
  rows_set n img S end eight =
      (S.is ∙ ap (with_clock s) (same_clocks (decode img).clock k S.eight eight (λ m c. S.done m c (omega (arith, c.1, end)))), S.canonical)
