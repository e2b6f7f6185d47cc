-- The core of demand 3: a merge of two right objects is right for what both have seen. Assumes nothing.
use Prim.Native.Nat.{◌<◌, max}
use mathlib.Core.Path.{◌≡◌, refl, sym, ap, ◌∙◌, subst}
use mathlib.Core.Logic.{◌⊎◌, inl, inr, ⊎_elim, ⊎_map}
use mathlib.Core.Bool.{true, false, ◌||◌, not}
use native.Mathlib.Omega.{arith}
use Rattle.numbers.specs.declared.Controller.{Controller}
use Rattle.numbers.specs.declared.Dot.{Dot}
use Rattle.numbers.specs.declared.Key.{Key}
use Rattle.numbers.specs.Numbers.{is_counter}
use Rattle.numbers.proofs.Tests.{by_test, never, or_cases, or_inl, or_inr, not-true, ◌∈◌}
use Rattle.numbers.proofs.Lists.{place_all_in}
use Rattle.numbers.proofs.Controllers.{Crew}
use Rattle.numbers.proofs.Dots.{tied_dots}
use Rattle.row.proofs.Highest.{counter_positive}
use Rattle.meaning.specs.CrewTable.{CrewTable, holds}
use Rattle.meaning.specs.Context.{entry, covers}
use Rattle.meaning.specs.Object.{has_value, Version, version_before, Object, has_dot, survivors, merge}
use Rattle.meaning.specs.Write.{Write}
use Rattle.laws.proofs.ContextLaws.{Within, covers_le, le_covers, not_covers_lt, higher_entry}
use Rattle.laws.proofs.MergeLaws.{has_dot_of, of_has_dot, in_survivors, survivors_in, in_merge}
use Rattle.crew.specs.Demand.{version_of}

-- a set of writes
abbrev pub Writes : Type 1
Writes = Write → Type 0

infixl 20 ◌∪◌
abbrev pub ◌∪◌ : Writes → Writes → Writes
◌∪◌ S S' = λ w. S w ⊎ S' w

-- those of S that are of the point k
abbrev pub At : Writes → Key → Writes
At S k = λ w. S w × (w.key ≡ k)

-- the context given with no write of S covers w
abbrev pub Uncovered : Writes → Write → Type 0
Uncovered S w = (u : Write) → S u → covers u.given w.dot ≡ false

pub version_dot : (w : Write) → (version_of w).dot ≡ w.dot
unfolding version_of
version_dot w = refl

pub version_contents : (w : Write) → (version_of w).contents ≡ w.contents
unfolding version_of
version_contents w = refl

-- what is known of all writes of a run: a dot names a crew member and a counter from 1, and belongs to one write, of a job that its maker holds
pub record History (t : CrewTable) (All : Writes) : Type 0 where
  pub by_crew : (w : Write) → All w → Crew w.dot.who
  pub counter : (w : Write) → All w → is_counter w.dot.count ≡ true
  pub holder : (w : Write) → All w → holds t w.dot.who w.key.job ≡ true
  pub one_each : (v w : Write) → All v → All w → v.dot ≡ w.dot → v ≡ w

pub positive : (t : CrewTable) (All : Writes) → History t All → (w : Write) → All w → 0 < w.dot.count.0
positive t All H w al = counter_positive w.dot.count (H.counter w al)

-- the filled object o of the point k is right for the seen writes S: invariants 1 to 4
pub record Right (All : Writes) (k : Key) (S : Writes) (o : Object) : Type 0 where
  pub made : (w : Write) → S w → All w × (w.key ≡ k)
  pub closed : (w : Write) → All w → w.key ≡ k → covers o.context w.dot ≡ true → S w
  pub covered : (w : Write) → S w → covers o.context w.dot ≡ true
  pub within : (w : Write) → S w → Within w.given o.context
  pub honest : (v : Version) → v ∈ o.versions → (w : Write) × S w × (version_of w ≡ v) × Uncovered S w
  pub complete : (w : Write) → S w → has_value w.contents ≡ true → Uncovered S w → version_of w ∈ o.versions

-- the dot of the write that a version is
pub dot_of : (w : Write) (v : Version) → version_of w ≡ v → w.dot ≡ v.dot
unfolding version_of
dot_of w v e = ap (λ (x : Version). x.dot) e

-- one side of a merge
module _ (t : CrewTable) (All : Writes) (H : History t All) (k : Key) (S S' : Writes) (a b : Object) (R : Right All k S a) (R' : Right All k S' b) where
  -- a write of the other side covers only what the other side's context covers
  covers_given : (u w : Write) → S' u → Crew w.dot.who → covers u.given w.dot ≡ true → covers b.context w.dot ≡ true
  covers_given u w su c h = le_covers b.context w.dot (omega (arith, covers_le u.given w.dot h, R'.within u su w.dot.who c))

  -- a version of a that survives is covered by no write of either side
  survivor_honest : (v : Version) → v ∈ survivors a b → (w : Write) × S w × (version_of w ≡ v) × Uncovered S w × Uncovered S' w
  survivor_honest v m = (w, h.1, h.2, h.3, free)
    where
      q : (v ∈ a.versions) × ((has_dot b.versions v.dot || not (covers b.context v.dot)) ≡ true)
      q = in_survivors a b m

      h : (w : Write) × S w × (version_of w ≡ v) × Uncovered S w
      h = R.honest v q.0

      w : Write
      w = h.0

      at_v : w.dot ≡ v.dot
      at_v = dot_of w v h.2

      -- b has it too, so no write of the other side covers it
      both : has_dot b.versions v.dot ≡ true → Uncovered S' w
      both t u su =
          let f = has_dot_of b.versions v.dot t in
          let g = R'.honest f.0 f.1 in
          let same : g.0.dot ≡ w.dot = dot_of g.0 f.0 g.2 ∙ f.2 ∙ sym at_v in
          subst (λ (d : Dot). covers u.given d ≡ false) same (g.3 u su)

      -- b's context does not cover it, so no write of the other side does
      past : covers b.context v.dot ≡ false → Uncovered S' w
      past t u su =
          by_test (covers u.given w.dot)
          (λ c. never (covers_given u w su (H.by_crew w (R.made w h.1).0) c) (subst (λ (d : Dot). covers b.context d ≡ false) (sym at_v) t))
          (λ c. c)

      free : Uncovered S' w
      free =
          ⊎_elim both (λ t. past (not-true (covers b.context v.dot) t))
          (or_cases (has_dot b.versions v.dot) (not (covers b.context v.dot)) q.1)

  -- a write of S with a value that no write of either side covers survives
  survivor_complete : (w : Write) → S w → has_value w.contents ≡ true → Uncovered S w → Uncovered S' w → version_of w ∈ survivors a b
  survivor_complete w sw hv un un' = survivors_in a b (R.complete w sw hv un) passes
    where
      in_b : covers b.context w.dot ≡ true → version_of w ∈ b.versions
      in_b t = R'.complete w (R'.closed w (R.made w sw).0 (R.made w sw).1 t) hv un'

      passes : (has_dot b.versions (version_of w).dot || not (covers b.context (version_of w).dot)) ≡ true
      passes =
          by_test (covers b.context (version_of w).dot)
          (λ t. or_inl (has_dot b.versions (version_of w).dot) (not (covers b.context (version_of w).dot))
          (of_has_dot b.versions (in_b (subst (λ (d : Dot). covers b.context d ≡ true) (version_dot w) t))))
          (λ f. or_inr (has_dot b.versions (version_of w).dot) (not (covers b.context (version_of w).dot)) (ap not f))

-- a merge of two right objects is right for what both have seen
module _ (t : CrewTable) (All : Writes) (H : History t All) (k : Key) (S S' : Writes) (a b : Object) (R : Right All k S a) (R' : Right All k S' b) where
  crew : (w : Write) → S w ⊎ S' w → Crew w.dot.who
  crew w s = H.by_crew w (⊎_elim (λ h. (R.made w h).0) (λ h. (R'.made w h).0) s)

  merged_entry : (n : Controller) → Crew n → (entry (merge a b).context n).0 ≡ max (entry a.context n).0 (entry b.context n).0
  unfolding merge
  merged_entry n c = higher_entry a.context b.context n c

  cover_cases : (d : Dot) → Crew d.who → covers (merge a b).context d ≡ true → (covers a.context d ≡ true) ⊎ (covers b.context d ≡ true)
  cover_cases d c h =
      by_test (covers a.context d) inl
      (λ f. inr (le_covers b.context d (omega (arith, not_covers_lt a.context d f, covers_le (merge a b).context d h, merged_entry d.who c))))

  -- a version that is one of a write
  abbrev Made : Version → Type 0
  Made v = (w : Write) × All w × (version_of w ≡ v)

  one_made : (v w : Version) → Made v → Made w → v.dot ≡ w.dot → v ≡ w
  one_made v w p q t =
      sym p.2 ∙ ap version_of (H.one_each p.0 q.0 p.1 q.1 (dot_of p.0 v p.2 ∙ t ∙ sym (dot_of q.0 w q.2))) ∙ q.2

  merge_in : (v : Version) → (v ∈ survivors a b) ⊎ (v ∈ survivors b a) → v ∈ (merge a b).versions
  unfolding merge
  merge_in v m =
      place_all_in version_before Made (λ x y p q e. one_made x y p q (tied_dots x.dot y.dot e)) (survivors a b) (survivors b a)
      (λ x h. let p = survivor_honest t All H k S S' a b R R' x h in (p.0, (R.made p.0 p.1).0, p.2))
      (λ x h. let p = survivor_honest t All H k S' S b a R' R x h in (p.0, (R'.made p.0 p.1).0, p.2)) m

  pub merge_right : Right All k (S ∪ S') (merge a b)
  merge_right = record {
    made = λ w. ⊎_elim (R.made w) (R'.made w);
    closed = λ w al e c. ⊎_map (R.closed w al e) (R'.closed w al e) (cover_cases w.dot (H.by_crew w al) c);
    covered = λ w s.
        le_covers (merge a b).context w.dot
        (⊎_elim (λ h. omega (arith, merged_entry w.dot.who (crew w s), covers_le a.context w.dot (R.covered w h)))
        (λ h. omega (arith, merged_entry w.dot.who (crew w s), covers_le b.context w.dot (R'.covered w h))) s);
    within = λ w s n c.
        ⊎_elim (λ h. omega (arith, merged_entry n c, R.within w h n c)) (λ h. omega (arith, merged_entry n c, R'.within w h n c)) s;
    honest = λ v m.
        ⊎_elim
        (λ h. let p = survivor_honest t All H k S S' a b R R' v h in (p.0, inl p.1, p.2, λ u. ⊎_elim (p.3 u) (p.4 u)))
        (λ h. let p = survivor_honest t All H k S' S b a R' R v h in (p.0, inr p.1, p.2, λ u. ⊎_elim (p.4 u) (p.3 u)))
        (in_merge a b m);
    complete = λ w s hv un.
        merge_in (version_of w)
        (⊎_map (λ h. survivor_complete t All H k S S' a b R R' w h hv (λ u x. un u (inl x)) (λ u x. un u (inr x)))
        (λ h. survivor_complete t All H k S' S b a R' R w h hv (λ u x. un u (inr x)) (λ u x. un u (inl x))) s);
  }
