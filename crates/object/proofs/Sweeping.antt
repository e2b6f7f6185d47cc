-- A loop over a context that puts each entry anew, one after the other. Assumes nothing.
use Rattle.std.specs.Prelude.{if◌then◌else◌}
use Prim.Native.Nat.{ℕ, ◌+◌, ◌-◌, ◌≤◌, ◌<◌}
use mathlib.Core.Path.{◌≡◌, refl, ap, sym, ◌∙◌, subst}
use mathlib.Core.Bool.{Bool}
use mathlib.Core.List.{List, [], ◌∷◌}
use native.Mathlib.Omega.{arith}
use lib.ListN.{length, get_or}
use lib.Seq.{ext_get_or}
use lib.Dec.{ltb, eqb}
use borrow.Author.Tests.{ltb-true, ltb-false, lt-ltb, le-ltb, eqb-true, eqb-false}
use Rattle.numbers.specs.declared.Controller.{Controller}
use Rattle.numbers.specs.declared.Counter.{Counter}
use Rattle.numbers.specs.Numbers.{controller, counter, each}
use Rattle.numbers.proofs.Tests.{by_test}
use Rattle.numbers.proofs.Controllers.{each_entry}
use Rattle.block.specs.Fields.{put_at, upto}
use Rattle.block.specs.Block.{Laid}
use Rattle.block.proofs.Parts.{splice_length}
use Rattle.block.proofs.Arrays.{upto_length, upto_at}
use Rattle.block.proofs.Places.{place_below, place_here, place_above}
use Rattle.meaning.specs.Context.{Context, entry}
use Rattle.record_edits.specs.Written.{Written, lay_point, point_block, with_object, put_entry}

-- one of those below n put anew
upto_put : {A : Type 0} (n : ℕ) (g h : ℕ → A) (i : ℕ) → i < n → ((k : ℕ) → k < n → (k ≡ i → ⊥) → g k ≡ h k) → put_at (upto n g) i (h i) ≡ upto n h
upto_put n g h i l same =
    ext_get_or (h i) (put_at (upto n g) i (h i)) (upto n h)
    (size ∙ sym (upto_length n h))
    (λ k m. one k (omega (arith, m, size)) ∙ sym (upto_at n h (h i) k (omega (arith, m, size))))
  where
    fits : i + 1 ≤ length (upto n g)
    fits = omega (arith, upto_length n g)

    size : length (put_at (upto n g) i (h i)) ≡ n
    size = splice_length (upto n g) i 1 (h i ∷ []) fits refl ∙ upto_length n g

    other : (k : ℕ) → k < n → (k ≡ i → ⊥) → get_or (put_at (upto n g) i (h i)) k (h i) ≡ get_or (upto n g) k (h i)
    other k m e =
        by_test (ltb k i) (λ t. place_below (upto n g) i (h i) (omega (arith, fits)) 1 (h i ∷ []) k (ltb-true k i t))
        (λ t. place_above (upto n g) i (h i) (omega (arith, fits)) 1 (h i ∷ []) k (above (ltb-false k i t)) ∙ ap (λ (j : ℕ). get_or (upto n g) j (h i)) (back (ltb-false k i t)))
      where
        above : i ≤ k → i + 1 ≤ k
        above q = by_test (ltb i k) (λ t. omega (arith, ltb-true i k t)) (λ t. absurd (e (omega (arith, ltb-false i k t))))

        back : i ≤ k → k - 1 + 1 ≡ k
        back q = omega (arith, above q)

    one : (k : ℕ) → k < n → get_or (put_at (upto n g) i (h i)) k (h i) ≡ h k
    one k m =
        by_test (eqb k i)
        (λ t. subst (λ (j : ℕ). get_or (put_at (upto n g) i (h i)) j (h i) ≡ h j) (sym (eqb-true k i t)) (place_here (upto n g) i (h i) (omega (arith, fits)) 1 (h i) []))
        (λ t. other k m (eqb-false k i t) ∙ upto_at n g (h i) k m ∙ same k m (eqb-false k i t))

module _ (c : Context) (f : Controller → Counter) where
  abbrev at : ℕ → ℕ → Counter
  at i k = if ltb k i then f (controller (k + 1)) else entry c (controller (k + 1))

  -- the entries of the first i controllers are put anew
  unfoldable pub swept : ℕ → Context
  swept i = upto 8 (at i)

  swept_none : length c ≡ 8 → swept 0 ≡ c
  unfolding swept
  swept_none e = each_entry (counter 0) c e

  swept_all : swept 8 ≡ each f
  unfolding swept
  swept_all = refl

  swept_entry : (i : ℕ) → i < 8 → entry (swept i) (controller (i + 1)) ≡ entry c (controller (i + 1))
  unfolding swept
  swept_entry i l = ap (λ (k : ℕ). get_or (upto 8 (at i)) k (counter 0)) back ∙ upto_at 8 (at i) (counter 0) i l ∙ ap (λ (b : Bool). if b then f (controller (i + 1)) else entry c (controller (i + 1))) (le-ltb i i (omega arith))
    where
      back : i + 1 - 1 ≡ i
      back = omega arith

  swept_more : (i : ℕ) → i < 8 → put_at (swept i) (i + 1 - 1) (f (controller (i + 1))) ≡ swept (i + 1)
  unfolding swept
  swept_more i l =
      ap (λ (k : ℕ). put_at (upto 8 (at i)) k (f (controller (i + 1)))) back
      ∙ ap (put_at (upto 8 (at i)) i) (sym (ap (λ (b : Bool). if b then f (controller (i + 1)) else entry c (controller (i + 1))) (lt-ltb i (i + 1) (omega arith))))
      ∙ upto_put 8 (at i) (at (i + 1)) i l same
    where
      back : i + 1 - 1 ≡ i
      back = omega arith

      same : (k : ℕ) → k < 8 → (k ≡ i → ⊥) → at i k ≡ at (i + 1) k
      same k m e = ap (λ (b : Bool). if b then f (controller (k + 1)) else entry c (controller (k + 1))) tests
        where
          tests : ltb k i ≡ ltb k (i + 1)
          tests =
              by_test (ltb k i) (λ t. t ∙ sym (lt-ltb k (i + 1) (omega (arith, ltb-true k i t))))
              (λ t. t ∙ sym (le-ltb k (i + 1) (behind (ltb-false k i t))))
            where
              behind : i ≤ k → i + 1 ≤ k
              behind q = by_test (ltb i k) (λ t. omega (arith, ltb-true i k t)) (λ t. absurd (e (omega (arith, ltb-false i k t))))

-- ---- in a block

-- i entries are put anew, and the block is now b
pub record Swept (w : Written) (f : Controller → Counter) (i : ℕ) (b : List ℕ) : Type 0 where
  pub done : i ≤ 8
  pub size : length b ≡ 512
  pub is : point_block b ≡ with_object w (record { versions = w.point.object.versions; context = swept w.point.object.context f i })
  pub laid : Laid lay_point point_block b

module _ (w : Written) (f : Controller → Counter) where
  abbrev c₀ : Context
  c₀ = w.point.object.context

  pub sweeping_none : (b : List ℕ) → length b ≡ 512 → length w.point.object.context ≡ 8 → point_block b ≡ w → Laid lay_point point_block b → Swept w f 0 b
  sweeping_none b size e p l = record {
    done = omega arith;
    size = size;
    is = p ∙ ap (λ (k : Context). with_object w (record { versions = w.point.object.versions; context = k })) (sym (swept_none c₀ f e));
    laid = l;
  }

  module _ (i : ℕ) (b : List ℕ) (S : Swept w f i b) (more : i < 8) where
    -- what is read is still the old entry
    pub sweeping_entry : entry (point_block b).point.object.context (controller (i + 1)) ≡ entry w.point.object.context (controller (i + 1))
    sweeping_entry = ap (λ (v : Written). entry v.point.object.context (controller (i + 1))) S.is ∙ swept_entry c₀ f i more

    pub sweeping_more : (x : List ℕ) (e : Counter) → length x ≡ 512 → e ≡ f (controller (i + 1)) → (point_block x ≡ put_entry (point_block b) (controller (i + 1)) e) × Laid lay_point point_block x → Swept w f (i + 1) x
    sweeping_more x e size q r = record {
      done = omega arith;
      size = size;
      is =
          r.0 ∙ ap (λ (v : Written). put_entry v (controller (i + 1)) e) S.is
          ∙ ap (λ (k : Context). with_object w (record { versions = w.point.object.versions; context = k })) (ap (put_at (swept c₀ f i) (i + 1 - 1)) q ∙ swept_more c₀ f i more);
      laid = r.1;
    }

  -- the same by the next controller's number
  module _ (n : ℕ) (b : List ℕ) (S : Swept w f (n - 1) b) (low : 1 ≤ n) (high : n < 9) where
    back : n - 1 + 1 ≡ n
    back = omega arith

    pub swept_entry_of : entry (point_block b).point.object.context (controller n) ≡ entry w.point.object.context (controller n)
    swept_entry_of =
        subst (λ (k : ℕ). entry (point_block b).point.object.context (controller k) ≡ entry w.point.object.context (controller k)) back
        (sweeping_entry (n - 1) b S (omega arith))

    pub sweeping_next : (x : List ℕ) (e : Counter) → length x ≡ 512 → e ≡ f (controller n) → (point_block x ≡ put_entry (point_block b) (controller n) e) × Laid lay_point point_block x → Swept w f (n + 1 - 1) x
    sweeping_next x e size q r =
        subst (λ (k : ℕ). Swept w f k x) there
        (sweeping_more (n - 1) b S (omega arith) x e size (q ∙ ap (λ (k : ℕ). f (controller k)) (sym back))
        (r.0 ∙ ap (λ (k : ℕ). put_entry (point_block b) (controller k) e) (sym back), r.1))
      where
        there : n - 1 + 1 ≡ n + 1 - 1
        there = omega arith

  pub sweeping_all : (i : ℕ) (b : List ℕ) → Swept w f i b → 8 ≤ i → (point_block b ≡ with_object w (record { versions = w.point.object.versions; context = each f })) × Laid lay_point point_block b
  sweeping_all i b S l = (
    S.is ∙ ap (λ (k : Context). with_object w (record { versions = w.point.object.versions; context = k })) (ap (swept c₀ f) full ∙ swept_all c₀ f),
    S.laid,
  )
    where
      full : i ≡ 8
      full = omega (arith, S.done)
