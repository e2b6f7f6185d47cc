-- A write and a delete: the object that they store is a fit result. Assumes nothing.
use Rattle.std.specs.Prelude.{if◌then◌else◌}
use Prim.Native.Nat.{◌+◌, ◌≤◌, ◌<◌}
use mathlib.Core.Path.{◌≡◌, refl, sym, ap, ◌∙◌, subst}
use mathlib.Core.Logic.{◌⊎◌, ⊎_elim, ⊎_map}
use mathlib.Core.Bool.{true, false, not}
use mathlib.Core.List.Memᴰ
use mathlib.Core.List.{List, [], ◌∷◌, append-nil}
use native.Mathlib.Omega.{arith}
use lib.ListN.{length}
use lib.Dec.{leb}
use borrow.Author.Tests.{le-leb}
use Rattle.numbers.specs.declared.Controller.{Controller}
use Rattle.numbers.specs.declared.Counter.{Counter}
use Rattle.numbers.specs.declared.Dot.{Dot}
use Rattle.numbers.specs.declared.Key.{Key}
use Rattle.numbers.specs.Words.{keep, map}
use Rattle.numbers.specs.Numbers.{counter, last_counter, is_counter, same_controller, each}
use Rattle.numbers.specs.Key.{is_key}
use Rattle.numbers.proofs.Tests.{by_test, never, and_both, ◌∈◌, here}
use Rattle.numbers.proofs.Lists.{in_keep, in_place, place_here}
use Rattle.numbers.proofs.Controllers.{Crew, same_controllers, controller_itself}
use Rattle.numbers.proofs.Orders.{Ascends, keep_ascends, place_ascends, one_thing, map_ascends, place_all_length}
use Rattle.row.specs.Row.{has}
use Rattle.row.proofs.Members.{low_has, whole_has}
use Rattle.meaning.specs.CrewTable.{holds}
use Rattle.meaning.specs.Clock.{row, in_clock}
use Rattle.meaning.specs.Context.{Context, entry, covers}
use Rattle.meaning.specs.Object.{Contents, Version, version_before, Object}
use Rattle.meaning.specs.State.{Stored, Listed, listed_before, State, own_base, dots_of, local}
use Rattle.meaning.specs.Message.{contents_formed}
use Rattle.meaning.specs.Settle.{most_listed, entered, newly_listed, own_listed}
use Rattle.meaning.specs.OwnSteps.{next_dot, written}
use Rattle.laws.proofs.ContextLaws.{entry_each, Within, covers_within, le_covers}
use Rattle.laws.proofs.MergeLaws.{version_order}
use Rattle.laws.proofs.Facts.{VersionFacts, VersionsFacts, ContextFacts, in_dots, dots_in}
use Rattle.laws.proofs.Goodness.{Good}
use Rattle.laws.proofs.Entering.{entered_row, counts, in_counts, add_all_whole, entered_dots}
use Rattle.laws.proofs.Putting.{listed_order, in_newly}
use Rattle.laws.proofs.Settling.{Results}
use Rattle.laws.proofs.Local.{LocalFacts, local_facts}

-- an own dot that is in the clock is at most the own base
pub own_known : (s : State) → Good s → (d : Dot) → d.who ≡ s.own → in_clock s.clock d ≡ true → d.count.0 ≤ own_base s
unfolding in_clock
own_known s G d e h = whole_has (row s.clock s.own) d.count G.own_whole (subst (λ (n : Controller). has (row s.clock n) d.count ≡ true) e h)

-- and one up to the own base is in the clock
pub known_own : (s : State) (d : Dot) → d.who ≡ s.own → 0 < d.count.0 → d.count.0 ≤ own_base s → in_clock s.clock d ≡ true
unfolding in_clock
known_own s d e pos low = subst (λ (n : Controller). has (row s.clock n) d.count ≡ true) (sym e) (low_has (row s.clock s.own) d.count pos low)

module _ (s : State) (G : Good s) (k : Key) (b : Contents) (c : Context)
    (key_good : is_key k ≡ true) (held : holds s.table s.own k.job ≡ true) (said : contents_formed b ≡ true)
    (room : length s.own_dots < most_listed) (left : own_base s < last_counter) where
  L : LocalFacts s k (local s k)
  L = local_facts s G k held

  abbrev fresh : Version
  fresh = record { dot = next_dot s; contents = b }

  abbrev o : Object
  o = written s k b c

  abbrev result : Stored
  result = record { key = k; object = o }

  -- a version after the write is the new one, or one that was there
  from : (v : Version) → v ∈ o.versions → (v ≡ fresh) ⊎ (v ∈ (local s k).versions)
  unfolding written
  from v m = ⊎_map (λ e. e) (λ h. (in_keep (λ w. not (covers c w.dot)) (local s k).versions h).0) (in_place version_before fresh (keep (λ w. not (covers c w.dot)) (local s k).versions) m)

  fresh_in : fresh ∈ o.versions
  unfolding written
  fresh_in = place_here version_before fresh (keep (λ w. not (covers c w.dot)) (local s k).versions)

  fresh_facts : VersionFacts s.table k.job fresh
  unfolding next_dot is_counter
  fresh_facts = record {
    crew = G.own_crew;
    holder = held;
    counter = and_both (leb 1 (own_base s + 1)) (leb (own_base s + 1) last_counter) (le-leb 1 (own_base s + 1) (omega arith)) (le-leb (own_base s + 1) last_counter (omega arith));
    contents = said;
  }

  versions : VersionsFacts s.table k.job o.versions
  unfolding written
  versions = record {
    each = λ v m. ⊎_elim (λ e. subst (λ (x : Version). VersionFacts s.table k.job x) (sym e) fresh_facts) (L.object.versions.each v) (from v m);
    ascend = place_ascends version_before version_order fresh (keep (λ w. not (covers c w.dot)) (local s k).versions)
        (keep_ascends version_before (λ w. not (covers c w.dot)) (local s k).versions L.object.versions.ascend);
  }

  entry_own : (entry o.context s.own).0 ≡ own_base s + 1
  unfolding written next_dot
  entry_own =
      ap (λ (x : Counter). x.0) (entry_each (λ n. if same_controller n s.own then counter (own_base s + 1) else entry (local s k).context n) s.own G.own_crew ∙ rw (controller_itself s.own))

  entry_other : (n : Controller) → Crew n → same_controller n s.own ≡ false → (entry o.context n).0 ≡ (entry (local s k).context n).0
  unfolding written next_dot
  entry_other n r f =
      ap (λ (x : Counter). x.0) (entry_each (λ m. if same_controller m s.own then counter (own_base s + 1) else entry (local s k).context m) n r ∙ rw f)

  -- an entry is the own one, or as it was
  by_entry : (P : Controller → Type 0) → P s.own → ((n : Controller) → Crew n → same_controller n s.own ≡ false → P n) → (n : Controller) → Crew n → P n
  by_entry P own other n r = by_test (same_controller n s.own) (λ t. subst P (sym (same_controllers n s.own t)) own) (other n r)

  context : ContextFacts s.table k.job o.context
  context = record {
    eight = unfold written in refl;
    in_range = by_entry (λ n. (entry o.context n).0 ≤ last_counter) (omega (arith, entry_own, left)) (λ n r f. omega (arith, entry_other n r f, L.object.context.in_range n r));
    named = λ n r. by_entry (λ m. holds s.table m k.job ≡ false → (entry o.context m).0 ≡ 0) (λ h. never held h)
        (λ m q f h. entry_other m q f ∙ L.object.context.named m q h) n r;
  }

  within : Within (local s k).context o.context
  within = by_entry (λ n. (entry (local s k).context n).0 ≤ (entry o.context n).0) (omega (arith, entry_own, L.object.own_entry)) (λ n r f. omega (arith, entry_other n r f))

  fresh_covered : covers o.context (next_dot s) ≡ true
  unfolding next_dot
  fresh_covered = le_covers o.context (next_dot s) (omega (arith, entry_own))

  covered : (v : Version) → v ∈ o.versions → covers o.context v.dot ≡ true
  covered v m =
      ⊎_elim (λ e. subst (λ (x : Version). covers o.context x.dot ≡ true) (sym e) fresh_covered)
      (λ h. covers_within (local s k).context o.context v.dot within (L.object.versions.each v h).crew (L.object.covered v h)) (from v m)

  -- the new dot was not in the clock
  unknown : in_clock s.clock (next_dot s) ≡ true → ⊥
  unfolding next_dot
  unknown h = omega (arith, own_known s G (next_dot s) refl h)

  unknown_dot : (v : Version) → v ≡ fresh → in_clock s.clock v.dot ≡ true → ⊥
  unknown_dot v e h = unknown (subst (λ (x : Version). in_clock s.clock x.dot ≡ true) e h)

  fresh_next : (next_dot s).count.0 ≤ own_base s + 1
  unfolding next_dot
  fresh_next = omega arith

  own_next : (v : Version) → v ∈ o.versions → v.dot.who ≡ s.own → v.dot.count.0 ≤ own_base s + 1
  own_next v m w =
      ⊎_elim (λ e. subst (λ (x : Version). x.dot.count.0 ≤ own_base s + 1) (sym e) fresh_next)
      (λ h. omega (arith, own_known s G v.dot w (L.known v h))) (from v m)

  only : (r : Stored) → r ∈ result ∷ [] → r ≡ result
  only r m = Memᴰ.eq_of_singleton m

  -- after the write the own row has the new counter, and no bits
  own_entry : (entry o.context s.own).0 ≤ (row (entered s.clock (result ∷ [])) s.own).base
  own_entry = omega (arith, entry_own, whole_has (row (entered s.clock (result ∷ [])) s.own) (counter (own_base s + 1)) whole has_it)
    where
      counted : (l : Listed) → l ∈ dots_of (result ∷ []) → is_counter l.dot.count ≡ true
      counted l m =
          let q = in_dots (result ∷ []) m in
          let e = only q.point q.point_in in
          subst (λ (x : Listed). is_counter x.dot.count ≡ true) (sym q.same)
          (versions.each q.version (subst (λ (r : Stored). q.version ∈ r.object.versions) e q.version_in)).counter

      small : (x : Counter) → x ∈ counts s.own (dots_of (result ∷ [])) → x.0 ≤ (row s.clock s.own).base + 1
      small x m =
          let p = in_counts s.own (dots_of (result ∷ [])) m in
          let q = in_dots (result ∷ []) p.1 in
          let d = ap (λ (z : Listed). z.dot) q.same in
          subst (λ (y : Counter). y.0 ≤ (row s.clock s.own).base + 1) (sym (ap (λ (z : Dot). z.count) d) ∙ p.3)
          (own_next q.version (subst (λ (r : Stored). q.version ∈ r.object.versions) (only q.point q.point_in) q.version_in) (sym (ap (λ (z : Dot). z.who) d) ∙ p.2))

      whole : (row (entered s.clock (result ∷ [])) s.own).bits ≡ 0
      whole = rw (entered_row s.clock (result ∷ []) s.own G.own_crew) (add_all_whole (row s.clock s.own) (counts s.own (dots_of (result ∷ []))) G.own_whole small)

      has_it : has (row (entered s.clock (result ∷ [])) s.own) (counter (own_base s + 1)) ≡ true
      has_it = unfold in_clock next_dot in
          (entered_dots s.clock (result ∷ []) counted (record { dot = fresh.dot; key = k }) (dots_in (result ∷ []) {p = result} (here refl) fresh_in) G.own_crew)

  dots_ascend : Ascends listed_before (dots_of (result ∷ []))
  unfolding dots_of
  dots_ascend =
      subst (λ (ls : List Listed). Ascends listed_before ls) (sym (append-nil (map (λ v. record { dot = v.dot; key = k }) o.versions)))
      (map_ascends version_before listed_before (λ v. record { dot = v.dot; key = k }) (λ x y h. h) o.versions versions.ascend)

  newly_ascends : Ascends listed_before (newly_listed s (result ∷ []))
  unfolding newly_listed
  newly_ascends = keep_ascends listed_before (λ l. not (in_clock s.clock l.dot)) (dots_of (result ∷ [])) dots_ascend

  -- only the new dot is listed anew
  own_room : length (own_listed s (result ∷ [])) ≤ most_listed
  unfolding own_listed
  own_room =
      omega (
        arith,
        place_all_length listed_before mine s.own_dots,
        one_thing listed_before listed_order (record { dot = fresh.dot; key = k }) mine ascending one,
      )
    where
      mine : List Listed
      mine = keep (λ l. same_controller l.dot.who s.own) (newly_listed s (result ∷ []))

      ascending : Ascends listed_before mine
      ascending = keep_ascends listed_before (λ l. same_controller l.dot.who s.own) (newly_listed s (result ∷ [])) newly_ascends

      one : (l : Listed) → l ∈ mine → l ≡ record { dot = fresh.dot; key = k }
      one l m =
          let n = in_newly s (result ∷ []) (in_keep (λ x. same_controller x.dot.who s.own) (newly_listed s (result ∷ [])) m).0 in
          let q = in_dots (result ∷ []) n.0 in
          let e = only q.point q.point_in in
          let v_in : q.version ∈ o.versions = subst (λ (r : Stored). q.version ∈ r.object.versions) e q.version_in in
          q.same
          ∙ ⊎_elim (λ f i. record { dot = (f i).dot; key = (e i).key })
          (λ h. never (L.known q.version h) (subst (λ (x : Listed). in_clock s.clock x.dot ≡ false) q.same n.1)) (from q.version v_in)

  pub written_fits : Results s s.clock (record { key = k; object = written s k b c } ∷ [])
  written_fits = record {
    eight = G.clock_eight;
    rows = λ n r. (G.row_sound n r).1;
    rising = λ n r. omega arith;
    growing = λ d r h. h;
    own_row = refl;
    of_peers = G.rows_peers;
    key_good = λ r m. subst (λ (x : Stored). is_key x.key ≡ true) (sym (only r m)) key_good;
    held = λ r m. subst (λ (x : Stored). holds s.table s.own x.key.job ≡ true) (sym (only r m)) held;
    versions = λ r m. subst (λ (x : Stored). VersionsFacts s.table x.key.job x.object.versions) (sym (only r m)) versions;
    context = λ r m. subst (λ (x : Stored). ContextFacts s.table x.key.job x.object.context) (sym (only r m)) context;
    covered = λ r v m h. subst (λ (x : Stored). v ∈ x.object.versions → covers x.object.context v.dot ≡ true) (sym (only r m)) (covered v) h;
    own_next = λ r v m h. own_next v (subst (λ (x : Stored). v ∈ x.object.versions) (only r m) h);
    own_entry = λ r m. subst (λ (x : Stored). (entry x.object.context s.own).0 ≤ (row (entered s.clock (result ∷ [])) s.own).base) (sym (only r m)) own_entry;
    own_room = own_room;
    apart = λ p q v w mp mq mv mw e. ap (λ (x : Stored). x.key) (only p mp ∙ sym (only q mq));
    from_stored = λ r p v w mr mp mv mw e.
        ap (λ (x : Stored). x.key) (only r mr)
        ∙ ⊎_elim
        (λ f. absurd (unknown_dot v f (subst (λ (d : Dot). in_clock s.clock d ≡ true) (sym e) ((G.points p mp).known w mw))))
        (λ h. let q = L.stored v h in sym q.2 ∙ G.apart q.0 p v w q.1 mp q.3 mw e)
        (from v (subst (λ (x : Stored). v ∈ x.object.versions) (only r mr) mv));
    from_listed = λ l r v ml mr mv e.
        ⊎_elim
        (λ f. absurd (unknown_dot v f (subst (λ (d : Dot). in_clock s.clock d ≡ true) e (G.lists l ml).known)))
        (λ h. let q = L.stored v h in G.listed_apart l q.0 v ml q.1 q.3 e ∙ q.2)
        (from v (subst (λ (x : Stored). v ∈ x.object.versions) (only r mr) mv))
        ∙ sym (ap (λ (x : Stored). x.key) (only r mr));
  }
