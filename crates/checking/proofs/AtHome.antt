-- "No dot stands in two records": where the record of a message's point has a version's dot it settles whether that version clashes, and elsewhere
-- whoever has the dot clashes. Assumes nothing.
use Rattle.std.specs.Prelude.{if◌then◌else◌, Ok, Err}
use Prim.Native.Nat.{ℕ}
use mathlib.Core.Path.{◌≡◌, ap, sym, ◌∙◌, subst}
use mathlib.Core.Bool.{Bool, true, false, ◌&&◌, not}
use mathlib.Core.List.{List}
use lib.ListN.{get_or}
use Rattle.numbers.specs.declared.Key.{Key}
use Rattle.numbers.specs.Words.{some?}
use Rattle.numbers.specs.Dot.{same_dot, dot_before}
use Rattle.numbers.specs.Key.{same_key}
use Rattle.numbers.proofs.Tests.{by_test, never, same_test, and_left, and_one, not-true, ◌∈◌}
use Rattle.numbers.proofs.Lists.{some_in, in_some, none_in, all_in}
use Rattle.numbers.proofs.Orders.{Ascends, one_place}
use Rattle.numbers.proofs.Dots.{same_dots, dot_itself, dot_order, dots_tied, same_keys, key_itself, keys_tied}
use Rattle.block.proofs.Arrays.{get_or_in}
use Rattle.block.proofs.Placed.{all_others}
use Rattle.meaning.specs.Object.{same_contents, Version, version_before, has_dot}
use Rattle.meaning.specs.State.{Stored, stored_before, State}
use Rattle.laws.proofs.Goodness.{Good}
use Rattle.laws.proofs.MergeLaws.{has_dot_of, of_has_dot}
use Rattle.object.specs.Versions.{no_version, VersionIn}
use Rattle.store.specs.HasRecord.{has_record}
use Rattle.checking.specs.Points.{versions_clash, record_clashes, stored_somewhere, clashes_beside}
use Rattle.checking.proofs.Otherwise.{some_turned}

-- ---- a version v of a message for the point k, and one record

module _ (k : Key) (p : Stored) (v : Version) where
  -- of another point it clashes just where it has the dot
  another_point : same_key k p.key ≡ false → record_clashes k p v ≡ has_dot p.object.versions v.dot
  unfolding record_clashes versions_clash has_dot
  another_point f =
      ap (λ (t : Bool). some? (λ w. same_dot v.dot w.dot && not (t && same_contents v.contents w.contents)) p.object.versions) f
      ∙ ap (λ (g : Version → Bool). some? g p.object.versions) (λ i w. and_one (same_dot v.dot w.dot) i)

  -- what clashes has the dot
  clash_has : record_clashes k p v ≡ true → has_dot p.object.versions v.dot ≡ true
  unfolding record_clashes versions_clash has_dot
  clash_has t =
      let q = some_in (λ w. same_dot v.dot w.dot && not (same_key k p.key && same_contents v.contents w.contents)) p.object.versions t in
      in_some (λ w. same_dot v.dot w.dot) p.object.versions q.1 (and_left (same_dot v.dot q.0.dot) (not (same_key k p.key && same_contents v.contents q.0.contents)) q.2)

  same_point : same_key k p.key ≡ true → record_clashes k p v ≡ some? (versions_clash true v) p.object.versions
  unfolding record_clashes
  same_point t = ap (λ (u : Bool). some? (versions_clash u v) p.object.versions) t

-- ---- and all of them

module _ (k : Key) (v : Version) (ps : List Stored) where
  abbrev clashing : Bool
  clashing = some? (λ p. record_clashes k p v) ps

  clash_somewhere : some? (λ p. record_clashes k p v) ps ≡ true → stored_somewhere ps v.dot ≡ true
  clash_somewhere t = let q = some_in (λ p. record_clashes k p v) ps t in in_some (λ p. has_dot p.object.versions v.dot) ps q.1 (clash_has k q.0 v q.2)

  -- where no record of the point has the dot
  no_such_home : ((p : Stored) → p ∈ ps → same_key k p.key ≡ true → has_dot p.object.versions v.dot ≡ false) → some? (λ p. record_clashes k p v) ps ≡ stored_somewhere ps v.dot
  no_such_home h =
      same_test clashing (some? (λ p. has_dot p.object.versions v.dot) ps) clash_somewhere
      (λ t. let q = some_in (λ p. has_dot p.object.versions v.dot) ps t in
      by_test (same_key k q.0.key) (λ u. never q.2 (h q.0 q.1 u)) (λ u. in_some (λ p. record_clashes k p v) ps q.1 (another_point k q.0 v u ∙ q.2)))

module _ (s : State) (G : Good s) (k : Key) (q : Stored) (there : q ∈ s.points) (its : q.key ≡ k) (v : Version) where
  abbrev ps : List Stored
  ps = s.points

  abbrev ws : List Version
  ws = q.object.versions

  -- it is the only one of its point
  alone : (p : Stored) → p ∈ s.points → p.key ≡ q.key → p ≡ q
  alone p m e = one_place stored_before s.points G.points_asc m there (keys_tied p.key q.key e)

  mine : same_key k q.key ≡ true
  mine = ap (same_key k) its ∙ key_itself k

  at_home : has_dot q.object.versions v.dot ≡ true → some? (λ p. record_clashes k p v) s.points ≡ some? (versions_clash true v) q.object.versions
  at_home t =
      same_test (some? (λ p. record_clashes k p v) ps) (some? (versions_clash true v) ws)
      (λ c. let r = some_in (λ p. record_clashes k p v) ps c in
      let here = has_dot_of ws v.dot t in
      let other = has_dot_of r.0.object.versions v.dot (clash_has k r.0 v r.2) in
      let one = alone r.0 r.1 (G.apart r.0 q other.0 here.0 r.1 there other.1 here.1 (other.2 ∙ sym here.2)) in
      sym (same_point k q v mine) ∙ subst (λ (p : Stored). record_clashes k p v ≡ true) one r.2)
      (λ c. in_some (λ p. record_clashes k p v) ps there (same_point k q v mine ∙ c))

  beside : some? (λ p. record_clashes k p v) s.points ≡ clashes_beside s.points q.object.versions v
  unfolding clashes_beside
  beside =
      by_test (has_dot ws v.dot)
      (λ t. at_home t ∙ sym (ap (λ (b : Bool). if b then some? (versions_clash true v) ws else stored_somewhere ps v.dot) t))
      (λ f. no_such_home k v ps (λ p m u. ap (λ (x : Stored). has_dot x.object.versions v.dot) (alone p m (sym (same_keys k p.key u) ∙ sym its)) ∙ f)
      ∙ sym (ap (λ (b : Bool). if b then some? (versions_clash true v) ws else stored_somewhere ps v.dot) f))

-- ---- all versions of a message

module _ (k : Key) (ps : List Stored) (vs : List Version) where
  turned : (g : Version → Bool) → ((v : Version) → some? (λ p. record_clashes k p v) ps ≡ g v) → some? g vs ≡ some? (λ p. some? (record_clashes k p) vs) ps
  turned g e = sym (some_turned (λ p v. record_clashes k p v) ps vs ∙ ap (λ (f : Version → Bool). some? f vs) (λ i v. e v i))

  pub of_none : has_record k ps ≡ false → some? (λ v. stored_somewhere ps v.dot) vs ≡ some? (λ p. some? (record_clashes k p) vs) ps
  unfolding has_record
  of_none none = turned (λ v. stored_somewhere ps v.dot) (λ v. no_such_home k v ps (λ p m u. never u (none_in (λ r. same_key k r.key) ps none m)))

pub of_record : (s : State) → Good s → (k : Key) (q : Stored) → q ∈ s.points → q.key ≡ k → (vs : List Version) → some? (clashes_beside s.points q.object.versions) vs ≡ some? (λ p. some? (record_clashes k p) vs) s.points
of_record s G k q there its vs = turned k s.points vs (clashes_beside s.points q.object.versions) (λ v. beside s G k q there its v)

-- ---- a version among those of its own record, as it was looked for

module _ (ps : List Stored) (ws : List Version) (v : Version) (i : ℕ) where
  -- within a record a dot stands once
  pub found_here : Ascends version_before ws → VersionIn ws v.dot (Ok i) → not (same_contents v.contents (get_or ws i no_version).contents) ≡ clashes_beside ps ws v
  unfolding clashes_beside versions_clash
  found_here up at = sym (ap (λ (b : Bool). if b then some? clash ws else stored_somewhere ps v.dot) has ∙ same_test (some? clash ws) (not (same_contents v.contents w.contents)) to from)
    where
      w : Version
      w = get_or ws i no_version

      clash : Version → Bool
      clash x = same_dot v.dot x.dot && not (true && same_contents v.contents x.contents)

      inside : w ∈ ws
      inside = get_or_in ws i no_version at.0

      has : has_dot ws v.dot ≡ true
      has = ap (has_dot ws) (sym at.1) ∙ of_has_dot ws inside

      one_dot : same_dot v.dot w.dot ≡ true
      one_dot = ap (same_dot v.dot) at.1 ∙ dot_itself v.dot

      clash_is : clash w ≡ not (same_contents v.contents w.contents)
      clash_is = ap (λ (b : Bool). b && not (same_contents v.contents w.contents)) one_dot

      to : some? clash ws ≡ true → not (same_contents v.contents w.contents) ≡ true
      to t =
          let q = some_in clash ws t in
          let d = same_dots v.dot q.0.dot (and_left (same_dot v.dot q.0.dot) (not (same_contents v.contents q.0.contents)) q.2) in
          let one = one_place version_before ws up q.1 inside (dots_tied q.0.dot w.dot (sym d ∙ sym at.1)) in
          sym clash_is ∙ subst (λ (x : Version). clash x ≡ true) one q.2

      from : not (same_contents v.contents w.contents) ≡ true → some? clash ws ≡ true
      from t = in_some clash ws inside (clash_is ∙ t)

  pub not_here : VersionIn ws v.dot (Err i) → stored_somewhere ps v.dot ≡ clashes_beside ps ws v
  unfolding clashes_beside has_dot
  not_here new = sym (ap (λ (b : Bool). if b then some? (versions_clash true v) ws else stored_somewhere ps v.dot) none)
    where
      none : some? (λ w. same_dot v.dot w.dot) ws ≡ false
      none =
          by_test (some? (λ w. same_dot v.dot w.dot) ws)
          (λ t. let q = some_in (λ w. same_dot v.dot w.dot) ws t in
          never q.2 (not-true (same_dot v.dot q.0.dot) (all_in (λ w. not (same_dot v.dot w.dot)) ws (all_others (λ w. w.dot) dot_before dot_order same_dot same_dots dot_itself v.dot ws i new.1 new.2) q.1)))
          (λ t. t)
