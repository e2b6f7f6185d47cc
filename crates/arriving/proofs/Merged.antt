-- What the results of a take in or a repair bring to the clock and to the lists: the versions that arrive, and no other. Assumes nothing.
use Prim.Native.Nat.{◌≤◌, ◌<◌}
use mathlib.Core.Path.{◌≡◌, refl, ap, ap₂, sym, ◌∙◌, subst}
use mathlib.Core.Logic.{◌⊎◌, inl, inr, ⊎_elim, ⊎_map}
use mathlib.Core.Bool.{true, false, ◌&&◌, ◌||◌, not}
use mathlib.Core.List.{List}
use native.Mathlib.Omega.{arith}
use lib.Dec.{ltb}
use borrow.Author.Tests.{ltb-true, lt-ltb, not-false, not-true, eq-eqb}
use Rattle.numbers.specs.declared.Controller.{Controller}
use Rattle.numbers.specs.declared.Counter.{Counter}
use Rattle.numbers.specs.declared.Dot.{Dot}
use Rattle.numbers.specs.declared.Key.{Key}
use Rattle.numbers.specs.Words.{some?, keep, map, fold}
use Rattle.numbers.specs.Numbers.{same_controller, each, Crew}
use Rattle.numbers.specs.Dot.{same_dot}
use Rattle.numbers.specs.Key.{same_key}
use Rattle.numbers.proofs.Tests.{by_test, and_left, and_right, and_both, and_false, or_cases, or_inr, ◌∈◌}
use Rattle.numbers.proofs.Lists.{in_keep, keep_in, in_map, map_in, in_concat_map, concat_map_in, none_in}
use Rattle.numbers.proofs.Controllers.{same_controllers}
use Rattle.numbers.proofs.Dots.{dot_itself}
use Rattle.row.specs.Row.{has, add}
use Rattle.row.proofs.Members.{row_determined}
use Rattle.row.proofs.Adding.{add_all, add_all_has, add_all_clear, Positive}
use Rattle.row.proofs.Highest.{counter_positive, sound_clear}
use Rattle.meaning.specs.Clock.{Clock, row, in_clock}
use Rattle.meaning.specs.Context.{entry, covers}
use Rattle.meaning.specs.Object.{Contents, same_contents, Version, Object, has_dot, merge}
use Rattle.meaning.specs.State.{Stored, Listed, State, dots_of, local}
use Rattle.meaning.specs.Settle.{entered}
use Rattle.meaning.specs.Exchange.{clashes}
use Rattle.laws.proofs.ContextLaws.{covers_le, not_covers_lt}
use Rattle.laws.proofs.MergeLaws.{has_dot_of, in_survivors, survivors_in, in_merge, Agreeing, merge_in, agrees_with_itself}
use Rattle.laws.proofs.Facts.{in_dots, dots_in}
use Rattle.laws.proofs.Goodness.{Good}
use Rattle.laws.proofs.Entering.{row_each, counts, entered_row, entered_eight, in_counts, counts_in, same_clocks}
use Rattle.laws.proofs.Local.{LocalFacts, local_facts}
use Rattle.laws.proofs.Settling.{Results}
use Rattle.laws.proofs.Merging.{Carried, Clocked, no_clash, well_formed, merged_fit}
use Rattle.arriving.specs.Sent.{arrives, counters_arriving, arriving_with, with_arrivals}
use Rattle.merging.proofs.Merged.{contents_same}

-- a message's version that has the dot of a stored one is that one
pub stored_same : (s : State) (k : Key) (v : Version) → clashes s k v ≡ false → (p : Stored) (w : Version) → p ∈ s.points → w ∈ p.object.versions → v.dot ≡ w.dot → v ≡ w
stored_same s k v free p w mp mw e =
    ap₂ (λ (d : Dot) (c : Contents). record { dot = d; contents = c }) e
    (contents_same v.contents w.contents
    (and_right (same_key k p.key) (same_contents v.contents w.contents)
    (not-false (same_key k p.key && same_contents v.contents w.contents)
    (and_false (same_dot v.dot w.dot) (not (same_key k p.key && same_contents v.contents w.contents))
    (none_in (λ x. same_dot v.dot x.dot && not (same_key k p.key && same_contents v.contents x.contents)) p.object.versions
    (none_in (λ q. some? (λ x. same_dot v.dot x.dot && not (same_key k q.key && same_contents v.contents x.contents)) q.object.versions) s.points (no_clash s k v free).0 mp) mw)
    (subst (λ (d : Dot). same_dot v.dot d ≡ true) e (dot_itself v.dot))))))

-- ---- one carried object, and the local one

module _ (s : State) (G : Good s) (k : Key) (o : Object) (C : Carried s k o) where
  L : LocalFacts s k (local s k)
  L = local_facts s G k C.held

  pub agree : Agreeing (local s k) o
  agree v w mv mw e = let q = L.stored v mv in sym (stored_same s k w (C.free w mw) q.0 v q.1 q.3 (sym e))

  -- a version of the merge is known already, or it arrives
  pub known_or_arrives : (v : Version) → v ∈ (merge (local s k) o).versions → (in_clock s.clock v.dot ≡ true) ⊎ ((v ∈ o.versions) × (covers (local s k).context v.dot ≡ false))
  known_or_arrives v m = ⊎_elim (λ h. inl (L.known v (in_survivors (local s k) o h).0)) (λ h. of_theirs (in_survivors o (local s k) h)) (in_merge (local s k) o m)
    where
      of_theirs : (v ∈ o.versions) × ((has_dot (local s k).versions v.dot || not (covers (local s k).context v.dot)) ≡ true)
          → (in_clock s.clock v.dot ≡ true) ⊎ ((v ∈ o.versions) × (covers (local s k).context v.dot ≡ false))
      of_theirs q =
          ⊎_map (λ t. let w = has_dot_of (local s k).versions v.dot t in subst (λ (d : Dot). in_clock s.clock d ≡ true) w.2 (L.known w.0 w.1))
          (λ t. (q.0, not-true (covers (local s k).context v.dot) t)) (or_cases (has_dot (local s k).versions v.dot) (not (covers (local s k).context v.dot)) q.1)

  pub arrives_in : (v : Version) → v ∈ o.versions → covers (local s k).context v.dot ≡ false → v ∈ (merge (local s k) o).versions
  arrives_in v m t =
      merge_in (local s k) o (agrees_with_itself (local s k) (well_formed s k (local s k) L.object)) agree (agrees_with_itself o (well_formed s k o C.object))
      (inr (survivors_in o (local s k) m (or_inr (has_dot (local s k).versions v.dot) (not (covers (local s k).context v.dot)) (ap not t))))

-- ---- the clock

module _ (s : State) (G : Good s) (k : Clock) (K : Clocked s k) (ps : List Stored) (g : Stored → Object) (same : (p : Stored) → (g p).versions ≡ p.object.versions)
    (C : (p : Stored) → p ∈ ps → Carried s p.key (g p))
    (apart : (p q : Stored) (v w : Version) → p ∈ ps → q ∈ ps → v ∈ (g p).versions → w ∈ (g q).versions → v.dot ≡ w.dot → p.key ≡ q.key) where
  abbrev merged : Stored → Stored
  merged p = record { key = p.key; object = merge (local s p.key) (g p) }

  abbrev rs : List Stored
  rs = map merged ps

  abbrev here : Controller → Stored → Counter
  here n p = entry (local s p.key).context n

  R : Results s k rs
  R = merged_fit s G k K ps g C apart

  positive : (n : Controller) → Positive (counts n (dots_of rs))
  positive n c m =
      let q = in_counts n (dots_of rs) m in
      let d = in_dots rs q.1 in
      subst (λ (x : Counter). 0 < x.0) (sym (ap (λ (l : Listed). l.dot.count) d.same) ∙ q.3)
      (counter_positive d.version.dot.count ((R.versions d.point d.point_in).each d.version d.version_in).counter)

  positive_arriving : (n : Controller) → Positive (arriving_with s n ps)
  unfolding arriving_with counters_arriving
  positive_arriving n c m =
      let q = in_concat_map (λ (p : Stored). map (λ (v : Version). v.dot.count) (keep (arrives n (here n p)) p.object.versions)) ps m in
      let u = in_map (λ (v : Version). v.dot.count) (keep (arrives n (here n q.0)) q.0.object.versions) q.2 in
      let t = (in_keep (arrives n (here n q.0)) q.0.object.versions u.1).1 in
      omega (arith, ap (λ (x : Counter). x.0) u.2, ltb-true (here n q.0).0 u.0.dot.count.0 (and_right (same_controller u.0.dot.who n) (ltb (here n q.0).0 u.0.dot.count.0) t))

  -- a result's counter is in the row already, or it arrives
  from_results : (n : Controller) → Crew n → (c : Counter) → c ∈ counts n (dots_of rs) → (has (row k n) c ≡ true) ⊎ (c ∈ arriving_with s n ps)
  from_results n crew c m =
      let q = in_counts n (dots_of rs) m in
      let d = in_dots rs q.1 in
      let p = in_map merged ps d.point_in in
      let v = d.version in
      let who : v.dot.who ≡ n = sym (ap (λ (l : Listed). l.dot.who) d.same) ∙ q.2 in
      let count : v.dot.count ≡ c = sym (ap (λ (l : Listed). l.dot.count) d.same) ∙ q.3 in
      go n crew c p.0 p.1 v who count (known_or_arrives s G p.0.key (g p.0) (C p.0 p.1) v (subst (λ (r : Stored). v ∈ r.object.versions) p.2 d.version_in))
    where
      go : (n : Controller) → Crew n → (c : Counter) (p : Stored) → p ∈ ps → (v : Version) → v.dot.who ≡ n → v.dot.count ≡ c
          → (in_clock s.clock v.dot ≡ true) ⊎ ((v ∈ (g p).versions) × (covers (local s p.key).context v.dot ≡ false)) → (has (row k n) c ≡ true) ⊎ (c ∈ arriving_with s n ps)
      go n crew c p mp v who count (inl t) =
          inl (unfold in_clock in
          subst (λ (x : Counter). has (row k n) x ≡ true) count (subst (λ (m : Controller). has (row k m) v.dot.count ≡ true) who (K.growing v.dot (subst Crew (sym who) crew) t)))
      go n crew c p mp v who count (inr t) =
          inr (unfold arriving_with counters_arriving in
          concat_map_in (λ (q : Stored). map (λ (w : Version). w.dot.count) (keep (arrives n (here n q)) q.object.versions)) ps mp
          (subst (λ (x : Counter). x ∈ map (λ (w : Version). w.dot.count) (keep (arrives n (here n p)) p.object.versions)) count
          (map_in (λ (w : Version). w.dot.count) (keep (arrives n (here n p)) p.object.versions)
          (keep_in (arrives n (here n p)) p.object.versions (subst (λ (vs : List Version). v ∈ vs) (same p) t.0)
          (and_both (same_controller v.dot.who n) (ltb (here n p).0 v.dot.count.0) (eq-eqb v.dot.who.0 n.0 (ap (λ (m : Controller). m.0) who))
          (lt-ltb (here n p).0 v.dot.count.0 (subst (λ (m : Controller). (entry (local s p.key).context m).0 < v.dot.count.0) who (not_covers_lt (local s p.key).context v.dot t.1))))))))

  -- what arrives is a result's
  to_results : (n : Controller) (c : Counter) → c ∈ arriving_with s n ps → c ∈ counts n (dots_of rs)
  unfolding arriving_with counters_arriving
  to_results n c m =
      let q = in_concat_map (λ (p : Stored). map (λ (v : Version). v.dot.count) (keep (arrives n (here n p)) p.object.versions)) ps m in
      let p = q.0 in
      let u = in_map (λ (v : Version). v.dot.count) (keep (arrives n (here n p)) p.object.versions) q.2 in
      let v = u.0 in
      let t = in_keep (arrives n (here n p)) p.object.versions u.1 in
      let who : v.dot.who ≡ n = same_controllers v.dot.who n (and_left (same_controller v.dot.who n) (ltb (here n p).0 v.dot.count.0) t.1) in
      let above = ltb-true (here n p).0 v.dot.count.0 (and_right (same_controller v.dot.who n) (ltb (here n p).0 v.dot.count.0) t.1) in
      let uncovered : covers (local s p.key).context v.dot ≡ false =
      by_test (covers (local s p.key).context v.dot)
      (λ h. absurd (omega (arith, above, subst (λ (x : Controller). v.dot.count.0 ≤ (entry (local s p.key).context x).0) who (covers_le (local s p.key).context v.dot h)))) (λ h. h) in
      let in_merged = arrives_in s G p.key (g p) (C p q.1) v (subst (λ (vs : List Version). v ∈ vs) (sym (same p)) t.0) uncovered in
      subst (λ (x : Counter). x ∈ counts n (dots_of rs)) (sym u.2)
      (subst (λ (x : Controller). v.dot.count ∈ counts x (dots_of rs)) who (counts_in (dots_of rs) (dots_in rs (map_in merged ps q.1) in_merged)))

  pub entered_is : entered k rs ≡ with_arrivals s k ps
  unfolding with_arrivals
  entered_is =
      same_clocks (entered k rs) (each (λ n. fold add (row k n) (arriving_with s n ps))) (entered_eight k rs K.eight) refl
      (λ n crew. entered_row k rs n crew ∙ one n crew ∙ sym (row_each (λ m. fold add (row k m) (arriving_with s m ps)) n crew))
    where
      one : (n : Controller) → Crew n → add_all (row k n) (counts n (dots_of rs)) ≡ fold add (row k n) (arriving_with s n ps)
      one n crew =
          let clear = sound_clear (row k n) (K.rows n crew) in
          row_determined (add_all (row k n) (counts n (dots_of rs))) (add_all (row k n) (arriving_with s n ps)) (add_all_clear (row k n) _ clear) (add_all_clear (row k n) _ clear)
          (λ c. (
            λ h. (add_all_has (row k n) (arriving_with s n ps) c (positive_arriving n)).1 (⊎_elim inl (from_results n crew c) ((add_all_has (row k n) (counts n (dots_of rs)) c (positive n)).0 h)),
            λ h. (add_all_has (row k n) (counts n (dots_of rs)) c (positive n)).1 (⊎_map (λ x. x) (to_results n c) ((add_all_has (row k n) (arriving_with s n ps) c (positive_arriving n)).0 h)),
          ))
          ∙ (unfold add_all in refl)
