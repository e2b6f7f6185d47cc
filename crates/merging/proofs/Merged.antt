-- What a merge's versions are: the local ones that stay, with those of the message that the local context does not cover. No bytes. Assumes nothing.
use Prim.Native.Nat.{suc, ◌+◌}
use mathlib.Core.Path.{◌≡◌, refl, ap, sym, ◌∙◌, subst}
use mathlib.Core.Bool.{Bool, true, false, ◌&&◌, ◌||◌, not}
use mathlib.Core.List.Memᴰ
use mathlib.Core.List.{List, [], ◌∷◌}
use mathlib.Core.Logic.{◌⊎◌, inl, inr, ⊎_elim}
use native.Mathlib.Omega.{arith}
use lib.ListN.{length}
use Rattle.numbers.specs.declared.Dot.{Dot}
use Rattle.numbers.specs.Words.{some?, all?, ascends?, place, place_all}
use Rattle.numbers.specs.Dot.{same_dot}
use Rattle.numbers.proofs.Tests.{by_test, never, same_test, and_one, or_cases, or_inl, or_inr, not-true, ◌∈◌, here, there}
use Rattle.numbers.proofs.Lists.{Tied, in_keep, keep_in, some_in, in_some, all_in, in_place_all, place_all_in}
use Rattle.numbers.proofs.Orders.{Ascends, ascends_first, ascends_rest, one_place, keep_ascends, place_all_ascends, ascending_same}
use Rattle.numbers.proofs.Dots.{dot_itself, tied_dots, dots_tied}
use Rattle.block.proofs.Same.{of_same}
use Rattle.block.proofs.Passing.{HangsOn}
use Rattle.meaning.specs.Context.{Context, covers, higher, is_empty, strip_context}
use Rattle.meaning.specs.Clock.{Clock}
use Rattle.meaning.specs.Object.{Contents, value, deleted, has_value, same_contents, Version, version_before, Object, has_dot, strip, survivors, merge, gone}
use Rattle.meaning.specs.Message.{covers_all}
use Rattle.laws.proofs.MergeLaws.{version_order, has_dot_of, of_has_dot, in_survivors, survivors_in, in_merge, merge_in, merge_ascends, Agreeing}
use Rattle.merging.specs.Merging.{arriving, agreeing}

-- ---- versions of one dot that say the same are the same

pub contents_same : (a b : Contents) → same_contents a b ≡ true → a ≡ b
contents_same (value v) (value w) t = ap value (of_same v w t)
contents_same (value v) deleted t = absurd (mathlib.Core.Bool.false≢true t)
contents_same deleted (value w) t = absurd (mathlib.Core.Bool.false≢true t)
contents_same deleted deleted t = refl

pub agreeing_is : (a m : Object) → agreeing a.versions m.versions ≡ true → Agreeing a m
unfolding agreeing
agreeing_is a m t v w p q e = λ i. record { dot = e i; contents = contents i }
  where
    tested : (not (same_dot w.dot v.dot) || same_contents w.contents v.contents) ≡ true
    tested =
        all_in (λ y. not (same_dot w.dot y.dot) || same_contents w.contents y.contents) a.versions
        (all_in (λ x. all? (λ y. not (same_dot x.dot y.dot) || same_contents x.contents y.contents) a.versions) m.versions t q) p

    one_dot : same_dot w.dot v.dot ≡ true
    one_dot = subst (λ (d : Dot). same_dot w.dot d ≡ true) (sym e) (dot_itself w.dot)

    contents : v.contents ≡ w.contents
    contents =
        sym (contents_same w.contents v.contents
        (⊎_elim (λ n. never one_dot (not-true (same_dot w.dot v.dot) n)) (λ s. s) (or_cases (not (same_dot w.dot v.dot)) (same_contents w.contents v.contents) tested)))

-- ---- the two objects

module _ (a m : Object) (A : ascends? version_before a.versions ≡ true) (M : ascends? version_before m.versions ≡ true) (same : agreeing a.versions m.versions ≡ true) where
  abbrev fresh : List Version
  fresh = arriving a.context m.versions

  agree : Agreeing a m
  agree = agreeing_is a m same

  itself : (o : Object) → ascends? version_before o.versions ≡ true → Agreeing o o
  itself o t v w p q e = one_place version_before o.versions t p q (dots_tied v.dot w.dot e)

  -- one of the message's versions that survives is one that arrives, or one of both
  from_message : {v : Version} → v ∈ survivors m a → (v ∈ arriving a.context m.versions) ⊎ (v ∈ survivors a m)
  from_message {v} h =
      let q = in_survivors m a h in
      ⊎_elim (λ t. inr (both q.0 t)) (λ t. inl (keep_in (λ x. not (covers a.context x.dot)) m.versions q.0 t))
      (or_cases (has_dot a.versions v.dot) (not (covers a.context v.dot)) q.1)
    where
      both : v ∈ m.versions → has_dot a.versions v.dot ≡ true → v ∈ survivors a m
      both k t =
          let u = has_dot_of a.versions v.dot t in
          let here_too : v ∈ a.versions = Memᴰ.cast (sym (agree u.0 v u.1 k u.2)) u.1 in
          survivors_in a m here_too (or_inl (has_dot m.versions v.dot) (not (covers m.context v.dot)) (of_has_dot m.versions k))

  arrives_in : {v : Version} → v ∈ arriving a.context m.versions → v ∈ survivors m a
  arrives_in {v} h =
      let q = in_keep (λ x. not (covers a.context x.dot)) m.versions h in
      survivors_in m a q.0 (or_inr (has_dot a.versions v.dot) (not (covers a.context v.dot)) q.1)

  -- each version of the merge is one that stays or one that arrives, and none of these is lost
  pub merged_of : {v : Version} → v ∈ (merge a m).versions → (v ∈ arriving a.context m.versions) ⊎ (v ∈ survivors a m)
  merged_of h = ⊎_elim inr from_message (in_merge a m h)

  pub of_merged : {v : Version} → (v ∈ arriving a.context m.versions) ⊎ (v ∈ survivors a m) → v ∈ (merge a m).versions
  of_merged h = merge_in a m (itself a A) agree (itself m M) (⊎_elim (λ k. inr (arrives_in k)) inl h)

  survivors_ascend : ascends? version_before (survivors a m) ≡ true
  unfolding survivors
  survivors_ascend = keep_ascends version_before _ a.versions A

  -- those that arrive, put among those that stay
  pub merged_versions : place_all version_before (arriving a.context m.versions) (survivors a m) ≡ (merge a m).versions
  merged_versions =
      ascending_same version_before version_order (place_all version_before fresh (survivors a m)) (merge a m).versions
      (place_all_ascends version_before version_order fresh (survivors a m) survivors_ascend) (merge_ascends a m M)
      (λ v. (λ h. of_merged (in_place_all version_before fresh (survivors a m) h), λ h. enter (merged_of h)))
    where
      In : Version → Type 0
      In v = (v ∈ a.versions) ⊎ (v ∈ m.versions)

      one : (v w : Version) → In v → In w → Tied version_before v w → v ≡ w
      one v w (inl p) (inl q) t = itself a A v w p q (tied_dots v.dot w.dot t)
      one v w (inl p) (inr q) t = agree v w p q (tied_dots v.dot w.dot t)
      one v w (inr p) (inl q) t = sym (agree w v q p (sym (tied_dots v.dot w.dot t)))
      one v w (inr p) (inr q) t = itself m M v w p q (tied_dots v.dot w.dot t)

      enter : {v : Version} → (v ∈ arriving a.context m.versions) ⊎ (v ∈ survivors a m) → v ∈ place_all version_before fresh (survivors a m)
      enter h =
          place_all_in version_before In one fresh (survivors a m)
          (λ v k. inr (in_keep (λ x. not (covers a.context x.dot)) m.versions k).0) (λ v k. inl (in_survivors a m k).0) h

  -- a test that none of the merge's versions passes
  pub merged_none : (g : Version → Bool) → not (some? g (merge a m).versions) ≡ (not (some? g (arriving a.context m.versions)) && not (some? g (survivors a m)))
  merged_none g = ap not (same_test (some? g (merge a m).versions) (some? g fresh || some? g (survivors a m)) to from) ∙ not_or (some? g fresh) (some? g (survivors a m))
    where
      not_or : (x y : Bool) → not (x || y) ≡ (not x && not y)
      not_or true y = refl
      not_or false y = refl

      to : some? g (merge a m).versions ≡ true → (some? g fresh || some? g (survivors a m)) ≡ true
      to t =
          let q = some_in g (merge a m).versions t in
          ⊎_elim (λ h. or_inl (some? g fresh) (some? g (survivors a m)) (in_some g fresh h q.2)) (λ h. or_inr (some? g fresh) (some? g (survivors a m)) (in_some g (survivors a m) h q.2)) (merged_of q.1)

      from : (some? g fresh || some? g (survivors a m)) ≡ true → some? g (merge a m).versions ≡ true
      from t =
          ⊎_elim (λ h. let q = some_in g fresh h in in_some g (merge a m).versions (of_merged (inl q.1)) q.2)
          (λ h. let q = some_in g (survivors a m) h in in_some g (merge a m).versions (of_merged (inr q.1)) q.2) (or_cases (some? g fresh) (some? g (survivors a m)) t)

  -- "A record goes when its stripped context is empty and no version has a value": what the merge would leave
  pub goes_tests : (k : Clock)
      → HangsOn (gone (strip k (merge a m)))
      (is_empty (strip_context k (higher a.context m.context))
      ∷ not (some? (λ v. has_value v.contents) (arriving a.context m.versions))
      ∷ not (some? (λ v. has_value v.contents) (survivors a m))
      ∷ [])
  unfolding gone strip merge
  goes_tests k = record {
    hangs =
        ap (λ (t : Bool). is_empty (strip_context k (higher a.context m.context)) && t)
        (merged_none (λ v. has_value v.contents)
        ∙ ap (λ (t : Bool). not (some? (λ v. has_value v.contents) fresh) && t) (sym (and_one (not (some? (λ v. has_value v.contents) (survivors a m))))));
  }

-- where there is no local version
pub goes_alone_tests : (c : Context) (m : Object) (k : Clock)
    → HangsOn (gone (strip k (merge (record { versions = []; context = c }) m)))
    (is_empty (strip_context k (higher c m.context)) ∷ not (some? (λ v. has_value v.contents) (arriving c m.versions)) ∷ [])
unfolding gone strip merge survivors has_dot
goes_alone_tests c m k = record {
  hangs = ap (λ (t : Bool). is_empty (strip_context k (higher c m.context)) && t) (sym (and_one (not (some? (λ v. has_value v.contents) (arriving c m.versions)))));
}

-- ---- how many there are

-- one that stands at the place of none makes one more
module _ {A : Type 0} (b : A → A → Bool) where
  place_new : (x : A) (ys : List A) → ((y : A) → y ∈ ys → Tied b x y → ⊥) → length (place b x ys) ≡ suc (length ys)
  place_new x [] h = refl
  place_new x (y ∷ ys) h =
      let rest = place_new x ys (λ z k. h z (there k)) in
      by_test (b y x) (λ p. rw p (omega arith)) (λ p. by_test (b x y) (λ q. rw (p, q) refl) (λ q. absurd (h y (here refl) (q, p))))

  place_all_new : (xs ys : List A) → Ascends b xs → ((x y : A) → x ∈ xs → y ∈ ys → Tied b x y → ⊥) → length (place_all b xs ys) ≡ length xs + length ys
  place_all_new [] ys t h = omega arith
  place_all_new (x ∷ xs) ys t h =
      place_new x (place_all b xs ys)
      (λ y k. ⊎_elim (λ q e. never (ascends_first b x xs t q) e.0) (λ q e. h x y (here refl) q e) (in_place_all b xs ys k))
      ∙ omega (arith, place_all_new xs ys (ascends_rest b x xs t) (λ z y p q. h z y (there p) q))

module _ (a m : Object) (A : ascends? version_before a.versions ≡ true) (M : ascends? version_before m.versions ≡ true) (same : agreeing a.versions m.versions ≡ true)
    (covered : covers_all a.context a.versions ≡ true) where
  -- none that arrives has the dot of one that stays, which the local context covers
  apart : (x y : Version) → x ∈ arriving a.context m.versions → y ∈ survivors a m → Tied version_before x y → ⊥
  unfolding covers_all
  apart x y p q t =
      let known : covers a.context y.dot ≡ true = all_in (λ v. covers a.context v.dot) a.versions covered (in_survivors a m q).0 in
      let new : covers a.context x.dot ≡ false = not-true (covers a.context x.dot) (in_keep (λ v. not (covers a.context v.dot)) m.versions p).1 in
      never (subst (λ (d : Dot). covers a.context d ≡ true) (sym (tied_dots x.dot y.dot t)) known) new

  pub merged_count : length (merge a m).versions ≡ length (survivors a m) + length (arriving a.context m.versions)
  merged_count =
      ap length (sym (merged_versions a m A M same))
      ∙ place_all_new version_before (arriving a.context m.versions) (survivors a m) (keep_ascends version_before _ m.versions M) apart
      ∙ omega arith
