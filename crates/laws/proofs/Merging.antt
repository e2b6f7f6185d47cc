-- A message's objects, merged with the local ones, are fit results: in a take in (one object) and in a repair (many). Assumes nothing.
use Prim.Native.Nat.{◌+◌, ◌≤◌}
use mathlib.Core.Path.{◌≡◌, refl, sym, ap, ◌∙◌, subst}
use mathlib.Core.Logic.{◌⊎◌, inl, inr, ⊎_elim}
use mathlib.Core.Bool.{true, false, ◌&&◌, not}
use mathlib.Core.List.{List}
use native.Mathlib.Omega.{arith}
use lib.ListN.{length}
use borrow.Author.Tests.{not-false}
use Rattle.numbers.specs.declared.Controller.{Controller}
use Rattle.numbers.specs.declared.Dot.{Dot}
use Rattle.numbers.specs.declared.Key.{Key}
use Rattle.numbers.specs.Words.{some?, place_all, map}
use Rattle.numbers.specs.Numbers.{same_controller}
use Rattle.numbers.specs.Dot.{same_dot}
use Rattle.numbers.specs.Key.{is_key, same_key}
use Rattle.numbers.proofs.Tests.{by_test, never, and_left, and_false, or_false, ◌∈◌}
use Rattle.numbers.proofs.Lists.{none_in, keep_none, in_map}
use Rattle.numbers.proofs.Controllers.{Crew, same_controllers}
use Rattle.numbers.proofs.Dots.{dot_itself, same_keys}
use Rattle.row.specs.declared.Row.{Row}
use Rattle.row.specs.Row.{none_seen, sound}
use Rattle.row.proofs.Highest.{counter_positive}
use Rattle.meaning.specs.CrewTable.{holds}
use Rattle.meaning.specs.Clock.{Clock, row, in_clock}
use Rattle.meaning.specs.Context.{entry, covers, higher}
use Rattle.meaning.specs.Object.{same_contents, Version, Object, merge}
use Rattle.meaning.specs.State.{Stored, Listed, listed_before, State, peers, own_base, listed, local}
use Rattle.meaning.specs.Settle.{most_listed, entered, newly_listed, own_listed}
use Rattle.meaning.specs.Exchange.{clashes}
use Rattle.laws.proofs.ContextLaws.{Rising, higher_entry, higher_named}
use Rattle.laws.proofs.MergeLaws.{merge_from, merge_ascends, WellFormed, merge_formed}
use Rattle.laws.proofs.Facts.{VersionsFacts, ContextFacts, in_dots}
use Rattle.laws.proofs.Goodness.{Good}
use Rattle.laws.proofs.Entering.{entered_base}
use Rattle.laws.proofs.Putting.{in_newly}
use Rattle.laws.proofs.Settling.{Growing, Results}
use Rattle.laws.proofs.Local.{ObjectFacts, LocalFacts, local_facts}
use Rattle.laws.proofs.Writing.{own_known, known_own}

-- ---- no clash

module _ (s : State) (k : Key) (v : Version) (free : clashes s k v ≡ false) where
  pub no_clash : (some? (λ p. some? (λ w. same_dot v.dot w.dot && not (same_key k p.key && same_contents v.contents w.contents)) p.object.versions) s.points ≡ false)
      × (some? (λ l. same_dot v.dot l.dot && not (same_key k l.key)) (listed s) ≡ false)
  unfolding clashes
  no_clash = or_false _ _ free

  pub stored_here : (p : Stored) (w : Version) → p ∈ s.points → w ∈ p.object.versions → v.dot ≡ w.dot → k ≡ p.key
  stored_here p w mp mw e =
      same_keys k p.key
      (and_left (same_key k p.key) (same_contents v.contents w.contents)
      (not-false (same_key k p.key && same_contents v.contents w.contents)
      (and_false (same_dot v.dot w.dot) (not (same_key k p.key && same_contents v.contents w.contents))
      (none_in (λ x. same_dot v.dot x.dot && not (same_key k p.key && same_contents v.contents x.contents)) p.object.versions
      (none_in (λ q. some? (λ x. same_dot v.dot x.dot && not (same_key k q.key && same_contents v.contents x.contents)) q.object.versions) s.points no_clash.0 mp) mw)
      (subst (λ (d : Dot). same_dot v.dot d ≡ true) e (dot_itself v.dot)))))

  pub listed_here : (l : Listed) → l ∈ listed s → l.dot ≡ v.dot → l.key ≡ k
  listed_here l ml e =
      sym (same_keys k l.key
      (not-false (same_key k l.key)
      (and_false (same_dot v.dot l.dot) (not (same_key k l.key))
      (none_in (λ x. same_dot v.dot x.dot && not (same_key k x.key)) (listed s) no_clash.1 ml)
      (subst (λ (d : Dot). same_dot v.dot d ≡ true) (sym e) (dot_itself v.dot)))))

-- what the refusals 4 to 10 leave of one object of a message, filled where it is a reply's
pub record Carried (s : State) (k : Key) (o : Object) : Type 0 where
  pub key_good : is_key k ≡ true
  pub held : holds s.table s.own k.job ≡ true
  pub object : ObjectFacts s k o
  pub own_dots : (v : Version) → v ∈ o.versions → v.dot.who ≡ s.own → v.dot.count.0 ≤ own_base s
  pub free : (v : Version) → v ∈ o.versions → clashes s k v ≡ false

pub well_formed : (s : State) (k : Key) (o : Object) → ObjectFacts s k o → WellFormed o
well_formed s k o F = record { ascending = F.versions.ascend; covered = F.covered; by_crew = λ v m. (F.versions.each v m).crew; eight = F.context.eight }

-- two such objects merged
module _ (s : State) (k : Key) (a b : Object) (own_crew : Crew s.own) (A : ObjectFacts s k a) (B : ObjectFacts s k b) where
  merge_facts : ObjectFacts s k (merge a b)
  merge_facts = record {
    versions = record {
      each = λ v m. ⊎_elim (A.versions.each v) (B.versions.each v) (merge_from a b m);
      ascend = merge_ascends a b B.versions.ascend;
    };
    context = unfold merge in (record {
      eight = unfold higher in refl;
      in_range = λ n r. omega (arith, higher_entry a.context b.context n r, A.context.in_range n r, B.context.in_range n r);
      named = higher_named s.table k.job a.context b.context A.context.named B.context.named;
    });
    covered = (merge_formed a b (well_formed s k a A) (well_formed s k b B)).covered;
    own_entry = unfold merge in omega (arith, higher_entry a.context b.context s.own own_crew, A.own_entry, B.own_entry);
  }

-- the clock that the results enter: that before the step, with a peer's row united at most
pub record Clocked (s : State) (k : Clock) : Type 0 where
  pub eight : length k ≡ 8
  pub rows : (n : Controller) → Crew n → sound (row k n) ≡ true
  pub rising : Rising s.clock k
  pub growing : Growing s.clock k
  pub own_row : row k s.own ≡ row s.clock s.own
  pub of_peers : (n : Controller) → Crew n → peers s s.own n ≡ false → row k n ≡ none_seen

-- the results of some carried points, whose objects g gives
module _ (s : State) (G : Good s) (k : Clock) (K : Clocked s k) (ps : List Stored) (g : Stored → Object)
    (C : (p : Stored) → p ∈ ps → Carried s p.key (g p))
    (agree : (p q : Stored) (v w : Version) → p ∈ ps → q ∈ ps → v ∈ (g p).versions → w ∈ (g q).versions → v.dot ≡ w.dot → p.key ≡ q.key) where
  abbrev merged : Stored → Stored
  merged p = record { key = p.key; object = merge (local s p.key) (g p) }

  abbrev rs : List Stored
  rs = map merged ps

  L : (p : Stored) → p ∈ ps → LocalFacts s p.key (local s p.key)
  L p m = local_facts s G p.key (C p m).held

  facts : (p : Stored) → p ∈ ps → ObjectFacts s p.key (merged p).object
  facts p m = merge_facts s p.key (local s p.key) (g p) G.own_crew (L p m).object (C p m).object

  -- what holds of each merged point holds of each result
  of_result : (P : Stored → Type 0) → ((p : Stored) → p ∈ ps → P (merged p)) → (r : Stored) → r ∈ rs → P r
  of_result P h r m = let q = in_map merged ps m in subst P (sym q.2) (h q.0 q.1)

  own_dots : (p : Stored) → p ∈ ps → (v : Version) → v ∈ (merged p).object.versions → v.dot.who ≡ s.own → v.dot.count.0 ≤ own_base s
  own_dots p m v h e =
      ⊎_elim (λ x. own_known s G v.dot e ((L p m).known v x)) (λ x. (C p m).own_dots v x e) (merge_from (local s p.key) (g p) h)

  -- where the dots of two results agree, so do their keys
  apart : (p q : Stored) → p ∈ ps → q ∈ ps → (v w : Version) → v ∈ (merged p).object.versions → w ∈ (merged q).object.versions → v.dot ≡ w.dot → p.key ≡ q.key
  apart p q mp mq v w mv mw e = go (merge_from (local s p.key) (g p) mv) (merge_from (local s q.key) (g q) mw)
    where
      go : (v ∈ (local s p.key).versions) ⊎ (v ∈ (g p).versions) → (w ∈ (local s q.key).versions) ⊎ (w ∈ (g q).versions) → p.key ≡ q.key
      go (inl x) (inl y) =
          let a = (L p mp).stored v x in
          let b = (L q mq).stored w y in
          sym a.2 ∙ G.apart a.0 b.0 v w a.1 b.1 a.3 b.3 e ∙ b.2
      go (inl x) (inr y) =
          let a = (L p mp).stored v x in
          sym a.2 ∙ sym (stored_here s q.key w ((C q mq).free w y) a.0 v a.1 a.3 (sym e))
      go (inr x) (inl y) =
          let b = (L q mq).stored w y in
          stored_here s p.key v ((C p mp).free v x) b.0 w b.1 b.3 e ∙ b.2
      go (inr x) (inr y) = agree p q v w mp mq x y e

  from_stored : (p : Stored) → p ∈ ps → (q : Stored) (v w : Version) → q ∈ s.points → v ∈ (merged p).object.versions → w ∈ q.object.versions → v.dot ≡ w.dot → p.key ≡ q.key
  from_stored p mp q v w mq mv mw e =
      ⊎_elim (λ x. let a = (L p mp).stored v x in sym a.2 ∙ G.apart a.0 q v w a.1 mq a.3 mw e)
      (λ x. stored_here s p.key v ((C p mp).free v x) q w mq mw e) (merge_from (local s p.key) (g p) mv)

  from_listed : (p : Stored) → p ∈ ps → (l : Listed) (v : Version) → l ∈ listed s → v ∈ (merged p).object.versions → l.dot ≡ v.dot → l.key ≡ p.key
  from_listed p mp l v ml mv e =
      ⊎_elim (λ x. let a = (L p mp).stored v x in G.listed_apart l a.0 v ml a.1 a.3 e ∙ a.2)
      (λ x. listed_here s p.key v ((C p mp).free v x) l ml e) (merge_from (local s p.key) (g p) mv)

  -- no own dot is new
  none_own : (l : Listed) → l ∈ newly_listed s rs → same_controller l.dot.who s.own ≡ false
  none_own l m = by_test (same_controller l.dot.who s.own) (λ t. absurd (known (same_controllers l.dot.who s.own t))) (λ t. t)
    where
      known : l.dot.who ≡ s.own → ⊥
      known e =
          let n = in_newly s rs m in
          let d = in_dots rs n.0 in
          let q = in_map merged ps d.point_in in
          let dot = ap (λ (z : Listed). z.dot) d.same in
          let v_in : d.version ∈ (merged q.0).object.versions = subst (λ (r : Stored). d.version ∈ r.object.versions) q.2 d.version_in in
          let who : d.version.dot.who ≡ s.own = sym (ap (λ (z : Dot). z.who) dot) ∙ e in
          let low : d.version.dot.count.0 ≤ own_base s = own_dots q.0 q.1 d.version v_in who in
          let pos = counter_positive d.version.dot.count ((facts q.0 q.1).versions.each d.version v_in).counter in
          never (known_own s d.version.dot who pos low) (subst (λ (z : Dot). in_clock s.clock z ≡ false) dot n.1)

  own_room : length (own_listed s rs) ≤ most_listed
  unfolding own_listed
  own_room =
      subst (λ (ls : List Listed). length (place_all listed_before ls s.own_dots) ≤ most_listed)
      (sym (keep_none (λ l. same_controller l.dot.who s.own) (newly_listed s rs) none_own)) G.own_few

  pub merged_fit : Results s k rs
  merged_fit = record {
    eight = K.eight;
    rows = K.rows;
    rising = K.rising;
    growing = K.growing;
    own_row = K.own_row;
    of_peers = K.of_peers;
    key_good = of_result (λ r. is_key r.key ≡ true) (λ p m. (C p m).key_good);
    held = of_result (λ r. holds s.table s.own r.key.job ≡ true) (λ p m. (C p m).held);
    versions = of_result (λ r. VersionsFacts s.table r.key.job r.object.versions) (λ p m. (facts p m).versions);
    context = of_result (λ r. ContextFacts s.table r.key.job r.object.context) (λ p m. (facts p m).context);
    covered = λ r v m. of_result (λ x. v ∈ x.object.versions → covers x.object.context v.dot ≡ true) (λ p q. (facts p q).covered v) r m;
    own_next = λ r v m. of_result (λ x. v ∈ x.object.versions → v.dot.who ≡ s.own → v.dot.count.0 ≤ own_base s + 1) (λ p q h e. omega (arith, own_dots p q v h e)) r m;
    own_entry = of_result (λ r. (entry r.object.context s.own).0 ≤ (row (entered k rs) s.own).base)
        (λ p m. omega (arith, (facts p m).own_entry, entered_base k rs s.own G.own_crew, ap (λ (x : Row). x.base) K.own_row));
    own_room = own_room;
    apart = λ p q v w mp mq.
        of_result (λ x. v ∈ x.object.versions → w ∈ q.object.versions → v.dot ≡ w.dot → x.key ≡ q.key)
        (λ a ma. of_result (λ y. v ∈ (merged a).object.versions → w ∈ y.object.versions → v.dot ≡ w.dot → a.key ≡ y.key) (λ b mb. apart a b ma mb v w) q mq) p mp;
    from_stored = λ r p v w mr mp. of_result (λ x. v ∈ x.object.versions → w ∈ p.object.versions → v.dot ≡ w.dot → x.key ≡ p.key) (λ a ma. from_stored a ma p v w mp) r mr;
    from_listed = λ l r v ml mr. of_result (λ x. v ∈ x.object.versions → l.dot ≡ v.dot → l.key ≡ x.key) (λ a ma. from_listed a ma l v ml) r mr;
  }
