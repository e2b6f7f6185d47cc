-- Whether one of a block's versions has a dot. Assumes nothing.
use Prim.Native.Nat.{ℕ, ◌+◌, ◌≤◌, ◌<◌}
use mathlib.Core.Path.{◌≡◌, refl, ap, sym, ◌∙◌}
use mathlib.Core.Bool.{Bool, true, false, not}
use mathlib.Core.List.{List}
use Rattle.numbers.specs.declared.Dot.{Dot}
use Rattle.numbers.specs.Words.{every, some?}
use Rattle.numbers.specs.Dot.{same_dot}
use Rattle.block.specs.Fields.{field, upto}
use Rattle.block.proofs.Passing.{Passing, one_more, one_fails, all_passed, some_upto}
use Rattle.meaning.specs.Object.{has_dot}
use Rattle.layout.specs.PointBlock.{form_1, decode_point, decode_stored}
use Rattle.record.proofs.Formed.{some_versions}
use Rattle.record.proofs.Reading as reading
use Rattle.record.proofs.Reading.{version_at}

-- a stored point's versions are those of its block
pub stored_versions : (b : List ℕ) → (decode_stored form_1 b).object.versions ≡ (decode_point form_1 b).object.versions
unfolding decode_stored
stored_versions b = refl

pub versions_are : (b : List ℕ) → field b 5 1 ≤ 8 → (decode_stored form_1 b).object.versions ≡ upto (field b 5 1) (version_at b)
versions_are b few = stored_versions b ∙ reading.versions_are b few

-- the versions one by one, n of them as they were counted
pub by_tests : (b : List ℕ) (d : Dot) {n : ℕ} → field b 5 1 ≤ 8 → n ≡ field b 5 1
    → some? (λ w. same_dot d w.dot) (upto n (version_at b)) ≡ has_dot (decode_stored form_1 b).object.versions d
unfolding has_dot
by_tests b d few e = some_versions b (λ w. same_dot d w.dot) few e ∙ ap (some? (λ w. same_dot d w.dot)) (sym (stored_versions b))

-- ---- the same one after the other: those before the i-th have other dots

-- the i-th version has another dot
abbrev pub another : List ℕ → Dot → ℕ → Bool
another b d i = not (same_dot d (version_at b i).dot)

module _ (b : List ℕ) (d : Dot) (few : field b 5 1 ≤ 8) where
  none_has : has_dot (decode_stored form_1 b).object.versions d ≡ not (every (upto (field b 5 1) (another b d)))
  none_has = sym (by_tests b d few refl) ∙ some_upto (λ w. same_dot d w.dot) (field b 5 1) (version_at b)

  module _ {i : ℕ} (P : Passing (field b 5 1) (another b d) i) where
    -- r is what the test of the i-th dot, e as it was read, said
    module _ (l : i < field b 5 1) {e : Dot} {r : Bool} (p : e ≡ (version_at b i).dot) (q : r ≡ same_dot d e) where
      said : another b d i ≡ not r
      said = ap not (ap (same_dot d) (sym p) ∙ sym q)

      pub has_it : r ≡ true → true ≡ has_dot (decode_stored form_1 b).object.versions d
      has_it t = ap not (one_fails P l (said ∙ ap not t)) ∙ sym none_has

      pub not_yet : r ≡ false → Passing (field b 5 1) (another b d) (i + 1)
      not_yet t = one_more P l (said ∙ ap not t)

    pub has_none : field b 5 1 ≤ i → false ≡ has_dot (decode_stored form_1 b).object.versions d
    has_none l = ap not (all_passed P l) ∙ sym none_has
