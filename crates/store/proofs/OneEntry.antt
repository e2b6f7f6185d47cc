-- One of eight put anew: controller o's, and no other. Assumes nothing.
use Rattle.std.specs.Prelude.{if◌then◌else◌}
use Prim.Native.Nat.{ℕ, ◌+◌, ◌-◌, ◌≤◌}
use mathlib.Core.Path.{◌≡◌, refl, ap, sym, ◌∙◌, subst}
use mathlib.Core.Bool.{false}
use mathlib.Core.List.{List, [], ◌∷◌}
use native.Mathlib.Omega.{arith}
use lib.ListN.{length, get_or}
use lib.Dec.{ltb}
use borrow.Author.Tests.{ltb-true, ltb-false, eqb-false}
use Rattle.numbers.specs.declared.Controller.{Controller}
use Rattle.numbers.specs.Numbers.{same_controller, each, Crew}
use Rattle.numbers.proofs.Tests.{by_test}
use Rattle.numbers.proofs.Controllers.{same_controllers, each_same, each_entry}
use Rattle.block.specs.Fields.{put_at}
use Rattle.block.proofs.Parts.{splice_length}
use Rattle.block.proofs.Places.{place_below, place_here, place_above}

module _ {A : Type 0} (l : List A) (eight : length l ≡ 8) (o : Controller) (crew : Crew o) (x d : A) where
  inside : o.0 - 1 + 1 ≤ length l
  inside = omega (arith, crew.0, crew.1, eight)

  pub put_eight : length (put_at l (o.0 - 1) x) ≡ 8
  put_eight = splice_length l (o.0 - 1) 1 (x ∷ []) inside refl ∙ eight

  pub put_here : get_or (put_at l (o.0 - 1) x) (o.0 - 1) d ≡ x
  put_here = place_here l (o.0 - 1) d (omega (arith, inside)) 1 x []

  pub put_elsewhere : (n : Controller) → Crew n → same_controller n o ≡ false → get_or (put_at l (o.0 - 1) x) (n.0 - 1) d ≡ get_or l (n.0 - 1) d
  put_elsewhere n r t =
      by_test (ltb (n.0 - 1) (o.0 - 1)) (λ u. place_below l (o.0 - 1) d (omega (arith, inside)) 1 (x ∷ []) (n.0 - 1) (ltb-true (n.0 - 1) (o.0 - 1) u))
      (λ u. place_above l (o.0 - 1) d (omega (arith, inside)) 1 (x ∷ []) (n.0 - 1) (above (ltb-false (n.0 - 1) (o.0 - 1) u)) ∙ ap (λ (j : ℕ). get_or l j d) (back (ltb-false (n.0 - 1) (o.0 - 1) u)))
    where
      above : o.0 - 1 ≤ n.0 - 1 → o.0 - 1 + 1 ≤ n.0 - 1
      above h = by_test (ltb (o.0 - 1) (n.0 - 1)) (λ u. omega (arith, ltb-true (o.0 - 1) (n.0 - 1) u)) (λ u. absurd (eqb-false n.0 o.0 t (omega (arith, ltb-false (o.0 - 1) (n.0 - 1) u, r.0, crew.0))))

      back : o.0 - 1 ≤ n.0 - 1 → n.0 - 1 - 1 + 1 ≡ n.0 - 1
      back h = omega (arith, above h)

  -- the same, as a list with one thing for each controller
  pub put_as_each : put_at l (o.0 - 1) x ≡ each (λ n. if same_controller n o then x else get_or l (n.0 - 1) d)
  put_as_each =
      sym (each_entry d (put_at l (o.0 - 1) x) put_eight)
      ∙ each_same (λ n. get_or (put_at l (o.0 - 1) x) (n.0 - 1) d) (λ n. if same_controller n o then x else get_or l (n.0 - 1) d)
      (λ n r. by_test (same_controller n o)
      (λ t. subst (λ (m : Controller). get_or (put_at l (o.0 - 1) x) (m.0 - 1) d ≡ x) (sym (same_controllers n o t)) put_here ∙ sym (rw t))
      (λ t. put_elsewhere n r t ∙ sym (rw t)))
