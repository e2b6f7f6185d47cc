-- The stored points of an image, one by one: no dot is another point's. Assumes nothing.
use Prim.Native.Nat.{ℕ, ◌<◌}
use mathlib.Core.Path.{◌≡◌, ap, sym, ◌∙◌, subst}
use mathlib.Core.Logic.{⊎_elim}
use mathlib.Core.Bool.{Bool, true, false, ◌||◌, not}
use mathlib.Core.List.{List}
use native.Mathlib.Omega.{arith}
use lib.Dec.{ltb}
use borrow.Author.Tests.{ltb-true, ltb-false, not-true}
use Rattle.numbers.specs.declared.Dot.{Dot}
use Rattle.numbers.specs.declared.Key.{Key}
use Rattle.numbers.specs.Words.{every, all?}
use Rattle.numbers.specs.Dot.{same_dot}
use Rattle.numbers.specs.Key.{same_key}
use Rattle.numbers.proofs.Tests.{by_test, never, same_test, or_cases, or_inl, or_inr, ◌∈◌}
use Rattle.numbers.proofs.Lists.{all_in, in_all}
use Rattle.numbers.proofs.Orders.{Ascends}
use Rattle.numbers.proofs.Dots.{same_dots, dot_itself, same_keys, key_itself, key_order}
use Rattle.block.specs.Fields.{upto}
use Rattle.block.proofs.Arrays.{in_upto, upto_in}
use Rattle.block.proofs.ByIndex.{upto_ascends}
use Rattle.block.proofs.Passing.{every_true, every_at}
use Rattle.meaning.specs.Object.{Version}
use Rattle.meaning.specs.State.{Stored, stored_before, Listed, dots_of}
use Rattle.meaning.specs.Message.{dots_agree}
use Rattle.laws.proofs.Facts.{in_dots, dots_in, agree_at, at_agree}
use Rattle.apart.specs.Apart.{apart}
use Rattle.apart.proofs.Earlier.{no_shared, shares_none}
use Rattle.image.specs.Apart.{listed_for}

-- points that ascend have their dots apart just where no two of them share one
module _ (n : ℕ) (f : ℕ → Stored) (up : Ascends stored_before (upto n f)) where
  abbrev pairs : Bool
  pairs = every (upto n (λ j. every (upto j (λ i. apart (f i) (f j)))))

  other_keys : (i j : ℕ) → i < j → j < n → (f i).key ≡ (f j).key → ⊥
  other_keys i j l k e =
      never (upto_ascends stored_before n f up i j l k)
      (subst (λ (x : Key). Rattle.numbers.specs.Key.key_before (f i).key x ≡ false) e (key_order.itself (f i).key))

  agree→pairs : dots_agree (dots_of (upto n f)) (dots_of (upto n f)) ≡ true → pairs ≡ true
  agree→pairs t =
      every_true n (λ j. every (upto j (λ i. apart (f i) (f j))))
      (λ j k. every_true j (λ i. apart (f i) (f j))
      (λ i l. shares_none (f i) (f j)
      (λ v w mv mw e. other_keys i j l k
      (agree_at (dots_of (upto n f)) (dots_of (upto n f)) t _ _ (dots_in (upto n f) (upto_in n f i (omega arith)) mv) (dots_in (upto n f) (upto_in n f j k) mw) e))))

  pairs→agree : pairs ≡ true → dots_agree (dots_of (upto n f)) (dots_of (upto n f)) ≡ true
  pairs→agree t =
      at_agree (dots_of (upto n f)) (dots_of (upto n f))
      (λ l m p q e.
      let x = in_dots (upto n f) p in
      let y = in_dots (upto n f) q in
      let i = in_upto n f x.point_in in
      let j = in_upto n f y.point_in in
      let dots : x.version.dot ≡ y.version.dot = sym (ap (λ (z : Listed). z.dot) x.same) ∙ e ∙ ap (λ (z : Listed). z.dot) y.same in
      ap (λ (z : Listed). z.key) x.same ∙ keys i j (subst (λ (s : Stored). x.version ∈ s.object.versions) i.2 x.version_in) (subst (λ (s : Stored). y.version ∈ s.object.versions) j.2 y.version_in) dots
      ∙ sym (ap (λ (z : Listed). z.key) y.same))
    where
      tested : (i j : ℕ) → i < j → j < n → apart (f i) (f j) ≡ true
      tested i j l k = every_at j (λ x. apart (f x) (f j)) (every_at n (λ y. every (upto y (λ x. apart (f x) (f y)))) t j k) i l

      keys : {p q : Stored} {v w : Version} (i : (x : ℕ) × (x < n) × (p ≡ f x)) (j : (y : ℕ) × (y < n) × (q ≡ f y)) → v ∈ (f i.0).object.versions → w ∈ (f j.0).object.versions → v.dot ≡ w.dot → p.key ≡ q.key
      keys {p} {q} {v} {w} i j mv mw e =
          by_test (ltb i.0 j.0) (λ t. absurd (no_shared (f i.0) (f j.0) (tested i.0 j.0 (ltb-true i.0 j.0 t) j.1) v w mv mw e))
          (λ t. by_test (ltb j.0 i.0) (λ u. absurd (no_shared (f j.0) (f i.0) (tested j.0 i.0 (ltb-true j.0 i.0 u) i.1) w v mw mv (sym e)))
          (λ u. ap (λ (s : Stored). s.key) (i.2 ∙ ap f (omega (arith, ltb-false i.0 j.0 t, ltb-false j.0 i.0 u)) ∙ sym j.2)))

  pub pairs_agree : dots_agree (dots_of (upto n f)) (dots_of (upto n f)) ≡ pairs
  pairs_agree = same_test (dots_agree (dots_of (upto n f)) (dots_of (upto n f))) pairs agree→pairs pairs→agree

-- a list agrees with the points just where each of them has its listed dots listed for it
module _ (ls : List Listed) (ps : List Stored) where
  pub lists_agree : dots_agree ls (dots_of ps) ≡ all? (listed_for ls) ps
  unfolding listed_for
  lists_agree = same_test (dots_agree ls (dots_of ps)) (all? (listed_for ls) ps) to from
    where
      to : dots_agree ls (dots_of ps) ≡ true → all? (listed_for ls) ps ≡ true
      to t =
          in_all (listed_for ls) ps
          (λ p mp. in_all (λ v. all? (λ l. not (same_dot l.dot v.dot) || same_key l.key p.key) ls) p.object.versions
          (λ v mv. in_all (λ l. not (same_dot l.dot v.dot) || same_key l.key p.key) ls
          (λ l ml. by_test (same_dot l.dot v.dot)
          (λ u. or_inr (not (same_dot l.dot v.dot)) (same_key l.key p.key)
          (subst (λ (x : Key). same_key l.key x ≡ true) (agree_at ls (dots_of ps) t l (record { dot = v.dot; key = p.key }) ml (dots_in ps mp mv) (same_dots l.dot v.dot u)) (key_itself l.key)))
          (λ u. or_inl (not (same_dot l.dot v.dot)) (same_key l.key p.key) (ap not u)))))

      from : all? (listed_for ls) ps ≡ true → dots_agree ls (dots_of ps) ≡ true
      from t =
          at_agree ls (dots_of ps)
          (λ l m ml q e.
          let y = in_dots ps q in
          let same : l.dot ≡ y.version.dot = e ∙ ap (λ (z : Listed). z.dot) y.same in
          ⊎_elim (λ u. never (subst (λ (d : Dot). same_dot l.dot d ≡ true) same (dot_itself l.dot)) (not-true (same_dot l.dot y.version.dot) u))
          (λ u. same_keys l.key y.point.key u ∙ sym (ap (λ (z : Listed). z.key) y.same))
          (or_cases (not (same_dot l.dot y.version.dot)) (same_key l.key y.point.key)
          (all_in (λ x. not (same_dot x.dot y.version.dot) || same_key x.key y.point.key) ls
          (all_in (λ v. all? (λ x. not (same_dot x.dot v.dot) || same_key x.key y.point.key) ls) y.point.object.versions (all_in (listed_for ls) ps t y.point_in) y.version_in) ml)))
