-- What a write or a delete is judged by: its rows always fit, and it has one version more than those that stay. Assumes nothing.
use Rattle.std.specs.Prelude.{if◌then◌else◌}
use Prim.Native.Nat.{◌+◌}
use mathlib.Core.Path.{◌≡◌, refl, ap, sym, ◌∙◌, subst}
use mathlib.Core.Bool.{Bool, true, false, not}
use mathlib.Core.List.{List, [], ◌∷◌}
use native.Mathlib.Omega.{arith}
use lib.ListN.{length}
use Rattle.numbers.specs.declared.Controller.{Controller}
use Rattle.numbers.specs.declared.Dot.{Dot}
use Rattle.numbers.specs.declared.Key.{Key}
use Rattle.numbers.specs.Words.{keep, place}
use Rattle.numbers.specs.Numbers.{same_controller, controllers, Crew}
use Rattle.numbers.specs.Dot.{dot_before}
use Rattle.numbers.proofs.Tests.{by_test, ◌∈◌, here, there}
use Rattle.numbers.proofs.Lists.{in_keep, in_all}
use Rattle.numbers.proofs.Controllers.{in_crew, same_controllers}
use Rattle.numbers.proofs.Dots.{tied_dots}
use Rattle.row.specs.Row.{fits}
use Rattle.row.proofs.Highest.{small_fits}
use Rattle.meaning.specs.CrewTable.{holds}
use Rattle.meaning.specs.Clock.{row, every_row, in_clock}
use Rattle.meaning.specs.Context.{Context, covers}
use Rattle.meaning.specs.Object.{Contents, Version, version_before, fill}
use Rattle.meaning.specs.State.{Stored, State, own_base, look_up, local}
use Rattle.meaning.specs.Settle.{entered}
use Rattle.meaning.specs.OwnSteps.{next_dot, written}
use Rattle.laws.proofs.Goodness.{Good}
use Rattle.laws.proofs.Local.{LocalFacts, local_facts}
use Rattle.laws.proofs.Writing.{own_known}
use Rattle.writing.proofs.ClockAfter.{row_other, row_own}

-- where none ties, one more stands there
pub place_one_more : {A : Type 0} (before : A → A → Bool) (x : A) (ys : List A) → ((y : A) → y ∈ ys → before y x ≡ false → before x y ≡ false → ⊥) → length (place before x ys) ≡ length ys + 1
place_one_more before x [] h = refl
place_one_more before x (y ∷ ys) h =
    by_test (before y x)
    (λ t. ap (λ (b : Bool). length (if b then (y ∷ place before x ys) else (if before x y then (x ∷ y ∷ ys) else (x ∷ ys)))) t ∙ omega (arith, place_one_more before x ys (λ z m. h z (there m))))
    (λ t. by_test (before x y)
    (λ u. ap (λ (b : Bool). length (if b then (y ∷ place before x ys) else (if before x y then (x ∷ y ∷ ys) else (x ∷ ys)))) t ∙ ap (λ (b : Bool). length (if b then (x ∷ y ∷ ys) else (x ∷ ys))) u ∙ omega arith)
    (λ u. absurd (h y (here refl) t u)))

module _ (s : State) (G : Good s) (k : Key) (b : Contents) (c : Context) (held : holds s.table s.own k.job ≡ true) where
  -- 11 never applies
  pub rows_fit : every_row fits (entered s.clock (record { key = k; object = written s k b c } ∷ [])) ≡ true
  unfolding every_row
  rows_fit = in_all (λ n. fits (row (entered s.clock (result ∷ [])) n)) controllers (λ n m. one n (in_crew n m))
    where
      result : Stored
      result = record { key = k; object = written s k b c }

      one : (n : Controller) → Crew n → fits (row (entered s.clock (record { key = k; object = written s k b c } ∷ [])) n) ≡ true
      one n r =
          by_test (same_controller n s.own)
          (λ t. subst (λ (m : Controller). fits (row (entered s.clock (result ∷ [])) m) ≡ true) (sym (same_controllers n s.own t)) (ap fits (row_own s G k b c held) ∙ small_fits (record { base = own_base s + 1; bits = 0 }) (omega arith)))
          (λ t. ap fits (row_other s G k b c held n r (λ e. borrow.Author.Tests.eqb-false n.0 s.own.0 t (ap (λ (m : Controller). m.0) e))) ∙ (G.row_sound n r).0)

  -- 12 counts those that stay, and the new one
  pub versions_after : length (written s k b c).versions ≡ length (keep (λ v. not (covers c v.dot)) (look_up k s.points).versions) + 1
  unfolding written local fill
  versions_after = place_one_more version_before (record { dot = next_dot s; contents = b }) old apart
    where
      old : List Version
      old = keep (λ v. not (covers c v.dot)) (look_up k s.points).versions

      L : LocalFacts s k (local s k)
      L = local_facts s G k held

      known : (v : Version) → v ∈ (look_up k s.points).versions → in_clock s.clock v.dot ≡ true
      known v m = L.known v m

      unknown : in_clock s.clock (next_dot s) ≡ true → ⊥
      unknown t = unfold next_dot in (omega (arith, own_known s G (next_dot s) refl t))

      apart : (v : Version) → v ∈ old → dot_before v.dot (next_dot s) ≡ false → dot_before (next_dot s) v.dot ≡ false → ⊥
      apart v m t u = unknown (subst (λ (d : Dot). in_clock s.clock d ≡ true) (tied_dots v.dot (next_dot s) (t, u)) (known v (in_keep (λ w. not (covers c w.dot)) (look_up k s.points).versions m).0))
