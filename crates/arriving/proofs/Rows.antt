-- The rows of eight controllers, one after the other, each with the counters that arrive. Assumes nothing.
use Rattle.std.specs.Prelude.{if◌then◌else◌, Option, Some, None}
use Prim.Native.Nat.{ℕ, ◌+◌, ◌-◌, ◌*◌, ◌≤◌, ◌<◌}
use mathlib.Core.Path.{◌≡◌, refl, ap, sym, ◌∙◌, subst}
use mathlib.Core.Bool.{Bool, true, false}
use mathlib.Core.List.{List}
use native.Mathlib.Omega.{arith}
use lib.ListN.{length}
use borrow.Author.Tests.{ne_eqb, eqb-false}
use Rattle.numbers.specs.declared.Controller.{Controller}
use Rattle.numbers.specs.declared.Counter.{Counter}
use Rattle.numbers.specs.Words.{fold}
use Rattle.numbers.specs.Numbers.{controller, same_controller, each, Crew}
use Rattle.numbers.proofs.Tests.{by_test, never}
use Rattle.numbers.proofs.Controllers.{same_controllers}
use Rattle.block.specs.Fields.{cut, put_at}
use Rattle.block.proofs.Arrays.{upto_length}
use Rattle.row.specs.declared.Row.{Row}
use Rattle.row.specs.Row.{none_seen, add, fits, sound}
use Rattle.meaning.specs.Clock.{Clock, row, every_row}
use Rattle.meaning.specs.State.{Stored, State}
use Rattle.laws.proofs.Facts.{row_at, at_every_row}
use Rattle.laws.proofs.Entering.{row_each, same_clocks}
use Rattle.layout.specs.Clocks.{decode_row, decode_clock}
use Rattle.store.proofs.OneEntry.{put_here, put_elsewhere}
use Rattle.arriving.specs.Tried.{all_added}
use Rattle.arriving.specs.Sent.{arriving_with, with_arrivals}

-- ---- one row

now_is : (r : Row) (cs : List Counter) (a : Option Row) → a ≡ all_added r cs → (q : Row) → a ≡ Some q → (fits (fold add r cs) ≡ true) × (q ≡ fold add r cs)
unfolding all_added
now_is r cs a e q h =
    by_test (fits (fold add r cs))
    (λ t. (t, ap which (sym h ∙ e ∙ ap (λ (b : Bool). if b then Some (fold add r cs) else None) t)))
    (λ t. absurd (never {b = is_now (Some q)} refl (ap is_now (sym h ∙ e ∙ ap (λ (b : Bool). if b then Some (fold add r cs) else None) t) ∙ refl)))
  where
    which : Option Row → Row
    which (Some x) = x
    which None = r

    is_now : Option Row → Bool
    is_now (Some x) = true
    is_now None = false

far_is : (r : Row) (cs : List Counter) (a : Option Row) → a ≡ all_added r cs → a ≡ None → fits (fold add r cs) ≡ false
unfolding all_added
far_is r cs a e h =
    by_test (fits (fold add r cs))
    (λ t. absurd (never {b = is_now (Some (fold add r cs))} refl (ap is_now (sym (ap (λ (b : Bool). if b then Some (fold add r cs) else None) t) ∙ sym e ∙ h))))
    (λ t. t)
  where
    is_now : Option Row → Bool
    is_now (Some x) = true
    is_now None = false

-- as the code enters it
module _ (r q : Row) (cs : List Counter) (a : Option Row) (read : r ≡ q) (e : a ≡ all_added r cs) where
  pub row_fits : (x : Row) → a ≡ Some x → true ≡ fits (fold add q cs)
  row_fits x h = sym (subst (λ (y : Row). fits (fold add y cs) ≡ true) read (now_is r cs a e x h).0)

  pub row_now : (x : Row) → a ≡ Some x → x ≡ fold add q cs
  row_now x h = (now_is r cs a e x h).1 ∙ ap (λ (y : Row). fold add y cs) read

  pub row_far : a ≡ None → false ≡ fits (fold add q cs)
  row_far h = sym (subst (λ (y : Row). fits (fold add y cs) ≡ false) read (far_is r cs a e h))

-- ---- one after the other

module _ (s : State) (k : Clock) (ps : List Stored) where
  abbrev entered : Controller → Row
  entered n = fold add (row k n) (arriving_with s n ps)

  -- the rows below n have taken what arrives, and the others are as they were
  pub record Entered (n : ℕ) (now : Clock) : Type 0 where
    pub low : 1 ≤ n
    pub high : n ≤ 9
    pub eight : length now ≡ 8
    pub done : (m : Controller) → Crew m → m.0 < n → (row now m ≡ entered m) × (fits (entered m) ≡ true)
    pub kept : (m : Controller) → Crew m → n ≤ m.0 → row now m ≡ row k m

  pub none_entered : length k ≡ 8 → Entered 1 k
  none_entered e = record { low = omega arith; high = omega arith; eight = e; done = λ m c l. absurd (omega (arith, c.0, l)); kept = λ m c l. refl }

  module _ (n : ℕ) (now : Clock) (E : Entered n now) (l : n < 9) where
    crew : Crew (controller n)
    crew = (E.low, omega arith)

    -- the row that comes next is as it was
    pub next_row : row now (controller n) ≡ row k (controller n)
    next_row = E.kept (controller n) crew (omega arith)

    pub next_sound : every_row sound k ≡ true → sound (row now (controller n)) ≡ true
    next_sound h = subst (λ (r : Row). sound r ≡ true) (sym next_row) (row_at sound k h (controller n) crew)

    as_entered : (x : Row) → x ≡ fold add (row now (controller n)) (arriving_with s (controller n) ps) → x ≡ entered (controller n)
    as_entered x e = e ∙ ap (λ (r : Row). fold add r (arriving_with s (controller n) ps)) next_row

    pub one_more : (t : Bool) → t ≡ fits (fold add (row now (controller n)) (arriving_with s (controller n) ps)) → t ≡ true
        → (later : Clock) → later ≡ put_at now (n - 1) (fold add (row now (controller n)) (arriving_with s (controller n) ps)) → length later ≡ 8 → Entered (n + 1) later
    one_more t f took later e size = record {
      low = omega arith;
      high = omega arith;
      eight = size;
      done = λ m c h. by_test (same_controller m (controller n)) (this m c) (λ o. let d = E.done m c (below m c h o) in (other m c o ∙ d.0, d.1));
      kept = λ m c h. other m c (ne_eqb m.0 n (λ z. omega (arith, z, h))) ∙ E.kept m c (omega (arith, h));
    }
      where
        x : Row
        x = fold add (row now (controller n)) (arriving_with s (controller n) ps)

        this : (m : Controller) → Crew m → same_controller m (controller n) ≡ true → (row later m ≡ entered m) × (fits (entered m) ≡ true)
        this m c o =
            subst (λ (z : Controller). (row later z ≡ entered z) × (fits (entered z) ≡ true)) (sym (same_controllers m (controller n) o)) (
              ap (λ (z : Clock). row z (controller n)) e ∙ put_here now E.eight (controller n) crew x none_seen ∙ as_entered x refl,
              subst (λ (z : Row). fits z ≡ true) (as_entered x refl) (sym f ∙ took),
            )

        other : (m : Controller) → Crew m → same_controller m (controller n) ≡ false → row later m ≡ row now m
        other m c o = ap (λ (z : Clock). row z m) e ∙ put_elsewhere now E.eight (controller n) crew x none_seen m c o

        below : (m : Controller) → Crew m → m.0 < n + 1 → same_controller m (controller n) ≡ false → m.0 < n
        below m c h o = omega (arith, h, eqb-false m.0 n o)

    -- one cannot take what arrives
    pub not_all : (t : Bool) → t ≡ fits (fold add (row now (controller n)) (arriving_with s (controller n) ps)) → t ≡ false → false ≡ every_row fits (with_arrivals s k ps)
    unfolding with_arrivals
    not_all t f left =
        sym (by_test (every_row fits (each entered))
        (λ h. absurd (never (subst (λ (r : Row). fits r ≡ true) (row_each entered (controller n) crew) (row_at fits (each entered) h (controller n) crew)) fails))
        (λ h. h))
      where
        fails : fits (entered (controller n)) ≡ false
        fails = subst (λ (r : Row). fits r ≡ false) (as_entered (fold add (row now (controller n)) (arriving_with s (controller n) ps)) refl) (sym f ∙ left)

  module _ (now : Clock) (n : ℕ) (E : Entered n now) (end : 9 ≤ n) where
    pub all_fit : true ≡ every_row fits (with_arrivals s k ps)
    unfolding with_arrivals
    all_fit = sym (at_every_row fits (with_arrivals s k ps) (λ m c. subst (λ (r : Row). fits r ≡ true) (sym (row_each entered m c)) (E.done m c (omega (arith, c.1, end))).1))

    pub all_entered : now ≡ with_arrivals s k ps
    unfolding with_arrivals
    all_entered = same_clocks now (with_arrivals s k ps) E.eight refl (λ m c. (E.done m c (omega (arith, c.1, end))).0 ∙ sym (row_each entered m c))

-- a decoded clock has eight rows
pub decoded_eight : (b : List ℕ) → length (decode_clock b) ≡ 8
unfolding decode_clock
decoded_eight b = upto_length 8 (λ i. decode_row (cut b (12 * i) 12))
