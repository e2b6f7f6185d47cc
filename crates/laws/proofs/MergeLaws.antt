-- The laws of merge: its versions ascend, and it is commutative, idempotent and associative on well-formed objects. Assumes nothing.
use Prim.Native.Nat.{ℕ, max}
use mathlib.Core.Path.{◌≡◌, refl, sym, ap, ◌∙◌, subst}
use mathlib.Core.Logic.{◌⊎◌, inl, inr, ⊎_elim, ⊎_map}
use mathlib.Core.Bool.{Bool, true, false, ◌&&◌, ◌||◌, not, false≢true}
use mathlib.Core.List.{List}
use native.Mathlib.Omega.{arith}
use lib.ListN.{length}
use Rattle.numbers.specs.declared.Controller.{Controller}
use Rattle.numbers.specs.declared.Dot.{Dot}
use Rattle.numbers.specs.Numbers.{counter}
use Rattle.numbers.specs.Dot.{same_dot}
use Rattle.numbers.proofs.Tests.{by_test, same_test, and_left, and_right, and_both, or_cases, or_inl, or_inr, ◌∈◌}
use Rattle.numbers.proofs.Lists.{in_keep, keep_in, some_in, in_some, in_place_all, place_all_in}
use Rattle.numbers.proofs.Controllers.{Crew, each_same, each_entry}
use Rattle.numbers.proofs.Orders.{Order, by_pair, Ascends, one_place, keep_ascends, place_all_ascends, ascending_same}
use Rattle.numbers.proofs.Dots.{same_dots, dot_itself, tied_dots, dots_tied}
use Rattle.meaning.specs.Context.{Context, entry, covers, higher}
use Rattle.meaning.specs.Object.{Version, version_before, Object, has_dot, survivors, merge}
use Rattle.laws.proofs.ContextLaws.{same_counter, Within, covers_le, le_covers, not_covers_lt, covers_within, higher_entry}

pub version_order : Order version_before
version_order = by_pair (λ v. v.dot.who.0) (λ v. v.dot.count.0)

-- ---- an object's versions, by their dots

pub has_dot_of : (vs : List Version) (d : Dot) → has_dot vs d ≡ true → (v : Version) × (v ∈ vs) × (v.dot ≡ d)
unfolding has_dot
has_dot_of vs d t =
    let q = some_in (λ w. same_dot d w.dot) vs t in
    (q.0, q.1, sym (same_dots d q.0.dot q.2))

pub of_has_dot : (vs : List Version) {v : Version} → v ∈ vs → has_dot vs v.dot ≡ true
unfolding has_dot
of_has_dot vs {v} m = in_some (λ w. same_dot v.dot w.dot) vs m (dot_itself v.dot)

-- a version that survives is in the object, and the other object has its dot or does not cover it
pub in_survivors : (a b : Object) {v : Version} → v ∈ survivors a b
    → (v ∈ a.versions) × ((has_dot b.versions v.dot || not (covers b.context v.dot)) ≡ true)
unfolding survivors
in_survivors a b m = in_keep _ a.versions m

pub survivors_in : (a b : Object) {v : Version} → v ∈ a.versions
    → (has_dot b.versions v.dot || not (covers b.context v.dot)) ≡ true → v ∈ survivors a b
unfolding survivors
survivors_in a b m t = keep_in _ a.versions m t

pub in_merge : (a b : Object) {v : Version} → v ∈ (merge a b).versions → (v ∈ survivors a b) ⊎ (v ∈ survivors b a)
unfolding merge
in_merge a b m = in_place_all version_before (survivors a b) (survivors b a) m

-- a merge has no version that neither object has
pub merge_from : (a b : Object) {v : Version} → v ∈ (merge a b).versions → (v ∈ a.versions) ⊎ (v ∈ b.versions)
merge_from a b m = ⊎_map (λ h. (in_survivors a b h).0) (λ h. (in_survivors b a h).0) (in_merge a b m)

-- versions stay strictly ascending
pub merge_ascends : (a b : Object) → Ascends version_before b.versions → Ascends version_before (merge a b).versions
unfolding merge survivors
merge_ascends a b t = place_all_ascends version_before version_order (survivors a b) (survivors b a) (keep_ascends version_before _ b.versions t)

-- equal dots have equal contents
abbrev pub Agreeing : Object → Object → Type 0
Agreeing a b = (v w : Version) → v ∈ a.versions → w ∈ b.versions → v.dot ≡ w.dot → v ≡ w

-- where equal dots have equal contents, every survivor is in the merge
pub merge_in : (a b : Object) → Agreeing a a → Agreeing a b → Agreeing b b → {v : Version} → (v ∈ survivors a b) ⊎ (v ∈ survivors b a) → v ∈ (merge a b).versions
unfolding merge
merge_in a b aa ab bb m =
    place_all_in version_before (λ v. (v ∈ a.versions) ⊎ (v ∈ b.versions)) (λ v w p q t. one v w p q (tied_dots v.dot w.dot t)) (survivors a b) (survivors b a)
    (λ v h. inl (in_survivors a b h).0) (λ v h. inr (in_survivors b a h).0) m
  where
    one : (v w : Version) → (v ∈ a.versions) ⊎ (v ∈ b.versions) → (w ∈ a.versions) ⊎ (w ∈ b.versions) → v.dot ≡ w.dot → v ≡ w
    one v w (inl p) (inl q) e = aa v w p q e
    one v w (inl p) (inr q) e = ab v w p q e
    one v w (inr p) (inl q) e = sym (ab w v q p (sym e))
    one v w (inr p) (inr q) e = bb v w p q e

-- ---- well-formed objects

pub record WellFormed (o : Object) : Type 0 where
  pub ascending : Ascends version_before o.versions
  pub covered : (v : Version) → v ∈ o.versions → covers o.context v.dot ≡ true
  pub by_crew : (v : Version) → v ∈ o.versions → Crew v.dot.who
  pub eight : length o.context ≡ 8

pub agrees_with_itself : (o : Object) → WellFormed o → Agreeing o o
agrees_with_itself o W v w p q e = one_place version_before o.versions W.ascending p q (dots_tied v.dot w.dot e)

pub higher_within : (a b : Context) → Within a (higher a b)
higher_within a b n r = omega (arith, higher_entry a b n r)

pub higher_within' : (a b : Context) → Within b (higher a b)
higher_within' a b n r = omega (arith, higher_entry a b n r)

-- two contexts made by taking the higher entries are the same where their entries are
higher_same : (a b c d : Context) → ((n : Controller) → Crew n → max (entry a n).0 (entry b n).0 ≡ max (entry c n).0 (entry d n).0) → higher a b ≡ higher c d
unfolding higher
higher_same a b c d h =
    each_same (λ n. counter (max (entry a n).0 (entry b n).0)) (λ n. counter (max (entry c n).0 (entry d n).0)) (λ n r. same_counter _ _ (h n r))

higher_itself : (c : Context) → length c ≡ 8 → higher c c ≡ c
unfolding higher
higher_itself c e =
    each_same (λ n. counter (max (entry c n).0 (entry c n).0)) (entry c) (λ n r. same_counter _ (entry c n) (omega arith)) ∙ each_entry (counter 0) c e

pub merge_formed : (a b : Object) → WellFormed a → WellFormed b → WellFormed (merge a b)
merge_formed a b A B = record {
  ascending = merge_ascends a b B.ascending;
  covered = λ v m. unfold merge in ⊎_elim
      (λ h. covers_within a.context (higher a.context b.context) v.dot (higher_within a.context b.context) (A.by_crew v h) (A.covered v h))
      (λ h. covers_within b.context (higher a.context b.context) v.dot (higher_within' a.context b.context) (B.by_crew v h) (B.covered v h))
      (merge_from a b m);
  by_crew = λ v m. ⊎_elim (A.by_crew v) (B.by_crew v) (merge_from a b m);
  eight = unfold merge higher in refl;
}

-- ---- what an object knows of a dot: nothing (0), a version (1), or that there is none any more (2). Merge takes the higher

abbrev level_of : Bool → Bool → ℕ
level_of false h = 0
level_of true true = 1
level_of true false = 2

unfoldable level : Object → Dot → ℕ
level o d = level_of (covers o.context d) (has_dot o.versions d)

-- the higher of two levels, by the tests that merge makes
level_higher : (c h c' h' : Bool) → (h ≡ true → c ≡ true) → (h' ≡ true → c' ≡ true)
    → level_of (c || c') ((h && (h' || not c')) || (h' && (h || not c))) ≡ max (level_of c h) (level_of c' h')
level_higher false true c' h' f g = absurd (false≢true (f refl))
level_higher false false false true f g = absurd (false≢true (g refl))
level_higher false false false false f g = refl
level_higher false false true true f g = refl
level_higher false false true false f g = refl
level_higher true true false true f g = absurd (false≢true (g refl))
level_higher true true false false f g = refl
level_higher true true true true f g = refl
level_higher true true true false f g = refl
level_higher true false false true f g = absurd (false≢true (g refl))
level_higher true false false false f g = refl
level_higher true false true true f g = refl
level_higher true false true false f g = refl

module _ (a b : Object) (A : WellFormed a) (B : WellFormed b) (ab : Agreeing a b) (d : Dot) (crew : Crew d.who) where
  merge_covers : covers (merge a b).context d ≡ (covers a.context d || covers b.context d)
  unfolding merge
  merge_covers = same_test (covers up d) (covers a.context d || covers b.context d) to from
    where
      up : Context
      up = higher a.context b.context

      to : covers up d ≡ true → (covers a.context d || covers b.context d) ≡ true
      to h =
          by_test (covers a.context d) (λ t. or_inl (covers a.context d) (covers b.context d) t)
          (λ t. or_inr (covers a.context d) (covers b.context d)
          (le_covers b.context d (omega (arith, covers_le up d h, not_covers_lt a.context d t, higher_entry a.context b.context d.who crew))))

      from : (covers a.context d || covers b.context d) ≡ true → covers up d ≡ true
      from h =
          ⊎_elim (covers_within a.context up d (higher_within a.context b.context) crew)
          (covers_within b.context up d (higher_within' a.context b.context) crew) (or_cases (covers a.context d) (covers b.context d) h)

  -- one side of what survives, as a test of the dot
  abbrev side : Object → Object → Bool
  side x y = has_dot x.versions d && (has_dot y.versions d || not (covers y.context d))

  of_side : (x y : Object) {v : Version} → v.dot ≡ d → v ∈ survivors x y → side x y ≡ true
  of_side x y {v} e m =
      let q = in_survivors x y m in
      and_both (has_dot x.versions d) (has_dot y.versions d || not (covers y.context d))
      (subst (λ (z : Dot). has_dot x.versions z ≡ true) e (of_has_dot x.versions q.0))
      (subst (λ (z : Dot). (has_dot y.versions z || not (covers y.context z)) ≡ true) e q.1)

  side_of : (x y : Object) → side x y ≡ true → (v : Version) × (v ∈ survivors x y) × (v.dot ≡ d)
  side_of x y t =
      let q = has_dot_of x.versions d (and_left (has_dot x.versions d) (has_dot y.versions d || not (covers y.context d)) t) in (
        q.0,
        survivors_in x y q.1
            (subst (λ (z : Dot). (has_dot y.versions z || not (covers y.context z)) ≡ true) (sym q.2)
            (and_right (has_dot x.versions d) (has_dot y.versions d || not (covers y.context d)) t)),
        q.2,
      )

  merge_has : has_dot (merge a b).versions d ≡ (side a b || side b a)
  merge_has = same_test (has_dot (merge a b).versions d) (side a b || side b a) to from
    where
      to : has_dot (merge a b).versions d ≡ true → (side a b || side b a) ≡ true
      to h =
          let q = has_dot_of (merge a b).versions d h in
          ⊎_elim (λ m. or_inl (side a b) (side b a) (of_side a b q.2 m)) (λ m. or_inr (side a b) (side b a) (of_side b a q.2 m)) (in_merge a b q.1)

      found : (v : Version) → v ∈ (merge a b).versions → v.dot ≡ d → has_dot (merge a b).versions d ≡ true
      found v m e = subst (λ (z : Dot). has_dot (merge a b).versions z ≡ true) e (of_has_dot (merge a b).versions m)

      enter : {v : Version} → (v ∈ survivors a b) ⊎ (v ∈ survivors b a) → v ∈ (merge a b).versions
      enter h = merge_in a b (agrees_with_itself a A) ab (agrees_with_itself b B) h

      from : (side a b || side b a) ≡ true → has_dot (merge a b).versions d ≡ true
      from h =
          ⊎_elim (λ t. let q = side_of a b t in found q.0 (enter (inl q.1)) q.2) (λ t. let q = side_of b a t in found q.0 (enter (inr q.1)) q.2)
          (or_cases (side a b) (side b a) h)

  has_covered : (x : Object) → WellFormed x → has_dot x.versions d ≡ true → covers x.context d ≡ true
  has_covered x X h =
      let q = has_dot_of x.versions d h in
      subst (λ (z : Dot). covers x.context z ≡ true) q.2 (X.covered q.0 q.1)

  level_merge : level (merge a b) d ≡ max (level a d) (level b d)
  unfolding level
  level_merge =
      ap (λ (c : Bool). level_of c (has_dot (merge a b).versions d)) merge_covers
      ∙ ap (level_of (covers a.context d || covers b.context d)) merge_has
      ∙ level_higher (covers a.context d) (has_dot a.versions d) (covers b.context d) (has_dot b.versions d) (has_covered a A) (has_covered b B)

-- ---- two objects that know the same of every dot have the same versions

level_has : (o : Object) → WellFormed o → (v : Version) → v ∈ o.versions → level o v.dot ≡ 1
unfolding level
level_has o W v m = rw (W.covered v m, of_has_dot o.versions m)

has_level : (o : Object) (d : Dot) → level o d ≡ 1 → has_dot o.versions d ≡ true
unfolding level
has_level o d e = go (covers o.context d) (has_dot o.versions d) e
  where
    go : (c h : Bool) → level_of c h ≡ 1 → h ≡ true
    go false h x = absurd (omega arith)
    go true true x = refl
    go true false x = absurd (omega arith)

same_versions : (a b : Object) → WellFormed a → WellFormed b → Agreeing a b → ((d : Dot) → Crew d.who → level a d ≡ level b d) → a.versions ≡ b.versions
same_versions a b A B ab same =
    ascending_same version_before version_order a.versions b.versions A.ascending B.ascending (λ v. (to v, from v))
  where
    to : (v : Version) → v ∈ a.versions → v ∈ b.versions
    to v m =
        let q = has_dot_of b.versions v.dot (has_level b v.dot (sym (same v.dot (A.by_crew v m)) ∙ level_has a A v m)) in
        mathlib.Core.List.Memᴰ.cast (ab v q.0 m q.1 (sym q.2)) q.1

    from : (v : Version) → v ∈ b.versions → v ∈ a.versions
    from v m =
        let q = has_dot_of a.versions v.dot (has_level a v.dot (same v.dot (B.by_crew v m) ∙ level_has b B v m)) in
        mathlib.Core.List.Memᴰ.cast (sym (ab q.0 v q.1 m q.2)) q.1

object_path : (a b : Object) → a.versions ≡ b.versions → a.context ≡ b.context → a ≡ b
object_path a b p q i = record { versions = p i; context = q i }

pub merge_commutative : (a b : Object) → WellFormed a → WellFormed b → Agreeing a b → merge a b ≡ merge b a
merge_commutative a b A B ab =
    object_path (merge a b) (merge b a)
    (same_versions (merge a b) (merge b a) (merge_formed a b A B) (merge_formed b a B A) agree
    (λ d c. level_merge a b A B ab d c ∙ omega arith ∙ sym (level_merge b a B A ba d c)))
    (unfold merge in higher_same a.context b.context b.context a.context (λ n r. omega arith))
  where
    ba : Agreeing b a
    ba v w p q e = sym (ab w v q p (sym e))

    one : (v w : Version) → (v ∈ a.versions) ⊎ (v ∈ b.versions) → (w ∈ b.versions) ⊎ (w ∈ a.versions) → v.dot ≡ w.dot → v ≡ w
    one v w (inl p) (inl q) e = ab v w p q e
    one v w (inl p) (inr q) e = agrees_with_itself a A v w p q e
    one v w (inr p) (inl q) e = agrees_with_itself b B v w p q e
    one v w (inr p) (inr q) e = ba v w p q e

    agree : Agreeing (merge a b) (merge b a)
    agree v w p q e = one v w (merge_from a b p) (merge_from b a q) e

pub merge_idempotent : (a : Object) → WellFormed a → merge a a ≡ a
merge_idempotent a A =
    object_path (merge a a) a
    (same_versions (merge a a) a (merge_formed a a A A) A
    (λ v w p q e. agrees_with_itself a A v w (⊎_elim (λ h. h) (λ h. h) (merge_from a a p)) q e)
    (λ d c. level_merge a a A A (agrees_with_itself a A) d c ∙ omega arith))
    (unfold merge in higher_itself a.context A.eight)

-- equal dots of several objects have equal contents
pub record AllAgree (a b c : Object) : Type 0 where
  pub ab : Agreeing a b
  pub ac : Agreeing a c
  pub bc : Agreeing b c

pub merge_associative : (a b c : Object) → WellFormed a → WellFormed b → WellFormed c → AllAgree a b c → merge (merge a b) c ≡ merge a (merge b c)
merge_associative a b c A B C G =
    object_path (merge (merge a b) c) (merge a (merge b c))
    (same_versions (merge (merge a b) c) (merge a (merge b c)) (merge_formed (merge a b) c (merge_formed a b A B) C) (merge_formed a (merge b c) A (merge_formed b c B C)) agree
    (λ d r.
    level_merge (merge a b) c (merge_formed a b A B) C left d r
    ∙ omega (arith, level_merge a b A B G.ab d r, level_merge b c B C G.bc d r)
    ∙ sym (level_merge a (merge b c) A (merge_formed b c B C) right d r)))
    (unfold merge in
    higher_same (higher a.context b.context) c.context a.context (higher b.context c.context)
    (λ n r. omega (arith, higher_entry a.context b.context n r, higher_entry b.context c.context n r)))
  where
    In : Version → Type 0
    In v = (v ∈ a.versions) ⊎ ((v ∈ b.versions) ⊎ (v ∈ c.versions))

    one : (v w : Version) → In v → In w → v.dot ≡ w.dot → v ≡ w
    one v w (inl p) (inl q) e = agrees_with_itself a A v w p q e
    one v w (inl p) (inr (inl q)) e = G.ab v w p q e
    one v w (inl p) (inr (inr q)) e = G.ac v w p q e
    one v w (inr (inl p)) (inl q) e = sym (G.ab w v q p (sym e))
    one v w (inr (inl p)) (inr (inl q)) e = agrees_with_itself b B v w p q e
    one v w (inr (inl p)) (inr (inr q)) e = G.bc v w p q e
    one v w (inr (inr p)) (inl q) e = sym (G.ac w v q p (sym e))
    one v w (inr (inr p)) (inr (inl q)) e = sym (G.bc w v q p (sym e))
    one v w (inr (inr p)) (inr (inr q)) e = agrees_with_itself c C v w p q e

    left_in : (v : Version) → v ∈ (merge a b).versions → In v
    left_in v m = ⊎_map (λ h. h) inl (merge_from a b m)

    right_in : (v : Version) → v ∈ (merge b c).versions → In v
    right_in v m = inr (merge_from b c m)

    left : Agreeing (merge a b) c
    left v w p q e = one v w (left_in v p) (inr (inr q)) e

    right : Agreeing a (merge b c)
    right v w p q e = one v w (inl p) (right_in w q) e

    agree : Agreeing (merge (merge a b) c) (merge a (merge b c))
    agree v w p q e =
        one v w (⊎_elim (left_in v) (λ h. inr (inr h)) (merge_from (merge a b) c p)) (⊎_elim inl (right_in w) (merge_from a (merge b c) q)) e
