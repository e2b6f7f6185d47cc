-- A good state as facts, clause by clause: the test `good_state` passes exactly where they hold. Assumes nothing.
use Prim.Native.Nat.{ℕ, ◌≤◌}
use mathlib.Core.Path.{◌≡◌, sym, ap, ◌∙◌}
use mathlib.Core.Logic.{◌⊎◌, ⊎_elim}
use mathlib.Core.Bool.{Bool, true, false, ◌&&◌, ◌||◌, not}
use mathlib.Core.List.{List, [], ◌∷◌}
use lib.ListN.{length}
use lib.Dec.{leb, eqb}
use borrow.Author.Tests.{leb-true, le-leb, eqb-true, eq-eqb, not-true}
use Rattle.numbers.specs.declared.Controller.{Controller}
use Rattle.numbers.specs.Words.{all?, ascends?}
use Rattle.numbers.specs.Numbers.{last_counter, is_controller, same_controller, controllers}
use Rattle.numbers.proofs.Tests.{by_test, never, and_left, and_right, and_both, or_cases, or_inl, or_inr, ◌∈◌}
use Rattle.numbers.proofs.Lists.{all_in, in_all, clause, passed, ◌and_also◌, all_passed}
use Rattle.numbers.proofs.Controllers.{Crew, crew_is, is_crew}
use Rattle.numbers.proofs.Orders.{Ascends}
use Rattle.row.specs.Row.{none_seen, fits, sound}
use Rattle.meaning.specs.CrewTable.{CrewTable, is_table, holds}
use Rattle.meaning.specs.Clock.{Clock, row, in_clock}
use Rattle.meaning.specs.Context.{entry, covers, fill_context}
use Rattle.meaning.specs.Object.{Version, gone}
use Rattle.meaning.specs.State.{Stored, stored_before, Listed, listed_before, mark, State, peers, own_base, listed, dots_of}
use Rattle.meaning.specs.Message.{point_formed, covers_all, is_none, dots_agree}
use Rattle.meaning.specs.Settle.{most_points, most_listed}
use Rattle.meaning.specs.Good.{sized, rows_sound, own_row_whole, points_formed, points_ascend, listed_formed, lists_formed, lists_ascend, lists_apart, jobs_held, versions_covered, versions_in_clock, lists_in_clock, dots_apart, rows_of_peers, marks_of_peers, own_marks_known, own_entries_known, records_needed, clauses, good_state}
use Rattle.laws.proofs.Facts.{each_controller, every_controller, PointFacts, point_facts, point_of_facts, covers_each, each_covered, none_is, is_none_seen, row_at, at_every_row, in_dots, dots_in, agree_at, at_agree}

-- what is known of one record, but that it is needed
pub record RecordFacts (t : CrewTable) (own : Controller) (k : Clock) (p : Stored) : Type 0 where
  pub formed : PointFacts t p.key p.object
  pub held : holds t own p.key.job ≡ true
  pub covered : (v : Version) → v ∈ p.object.versions → covers (fill_context t p.key.job k p.object.context) v.dot ≡ true
  pub known : (v : Version) → v ∈ p.object.versions → in_clock k v.dot ≡ true
  pub own_entry : (entry p.object.context own).0 ≤ (row k own).base

-- what is known of one listed dot
pub record ListedFacts (t : CrewTable) (own : Controller) (k : Clock) (l : Listed) : Type 0 where
  pub formed : listed_formed t l ≡ true
  pub held : holds t own l.key.job ≡ true
  pub known : in_clock k l.dot ≡ true

pub record Good (s : State) : Type 0 where
  pub own_crew : Crew s.own
  pub table_good : is_table s.table ≡ true
  pub clock_eight : length s.clock ≡ 8
  pub marks_eight : length s.watermark ≡ 8
  pub marks_rows : all? (λ r. eqb (length r) 8) s.watermark ≡ true
  pub own_few : length s.own_dots ≤ most_listed
  pub foreign_few : length s.foreign_dots ≤ most_listed
  pub points_few : length s.points ≤ most_points
  pub row_sound : (n : Controller) → Crew n → (fits (row s.clock n) ≡ true) × (sound (row s.clock n) ≡ true)
  pub own_whole : (row s.clock s.own).bits ≡ 0
  pub points_asc : Ascends stored_before s.points
  pub own_asc : Ascends listed_before s.own_dots
  pub foreign_asc : Ascends listed_before s.foreign_dots
  pub own_own : (l : Listed) → l ∈ s.own_dots → same_controller l.dot.who s.own ≡ true
  pub foreign_other : (l : Listed) → l ∈ s.foreign_dots → same_controller l.dot.who s.own ≡ false
  pub points : (p : Stored) → p ∈ s.points → RecordFacts s.table s.own s.clock p
  pub needed : (p : Stored) → p ∈ s.points → gone p.object ≡ false
  pub lists : (l : Listed) → l ∈ listed s → ListedFacts s.table s.own s.clock l
  pub apart : (p q : Stored) (v w : Version) → p ∈ s.points → q ∈ s.points → v ∈ p.object.versions → w ∈ q.object.versions → v.dot ≡ w.dot → p.key ≡ q.key
  pub listed_apart : (l : Listed) (p : Stored) (v : Version) → l ∈ listed s → p ∈ s.points → v ∈ p.object.versions → l.dot ≡ v.dot → l.key ≡ p.key
  pub rows_peers : (n : Controller) → Crew n → peers s s.own n ≡ false → row s.clock n ≡ none_seen
  pub marks_range : (m n : Controller) → Crew m → Crew n → mark s.watermark m n ≤ last_counter
  pub marks_peers : (m n : Controller) → Crew m → Crew n → (peers s s.own m && peers s s.own n) ≡ false → mark s.watermark m n ≡ 0
  pub marks_own_row : (n : Controller) → Crew n → mark s.watermark s.own n ≤ (row s.clock n).base
  pub marks_own_column : (m : Controller) → Crew m → mark s.watermark m s.own ≤ own_base s

module _ (s : State) (t : good_state s ≡ true) where
  c : (i : ℕ) → lib.ListN.get_or (clauses s) i true ≡ true
  unfolding good_state
  c = clause (clauses s) t

  abbrev sizes : List Bool
  sizes =
      is_controller s.own ∷ is_table s.table ∷ eqb (length s.clock) 8 ∷ eqb (length s.watermark) 8
      ∷ all? (λ r. eqb (length r) 8) s.watermark ∷ leb (length s.own_dots) most_listed ∷ leb (length s.foreign_dots) most_listed
      ∷ leb (length s.points) most_points ∷ []

  size : (i : ℕ) → lib.ListN.get_or sizes i true ≡ true
  unfolding clauses sized
  size i = clause sizes (c 0) i

  row_facts : (n : Controller) → Crew n → (fits (row s.clock n) && sound (row s.clock n)) ≡ true
  unfolding clauses rows_sound
  row_facts = row_at (λ r. fits r && sound r) s.clock (c 1)

  record_facts : (p : Stored) → p ∈ s.points → RecordFacts s.table s.own s.clock p
  unfolding clauses points_formed jobs_held versions_covered versions_in_clock own_entries_known
  record_facts p m = record {
    formed = point_facts s.table p.key p.object (all_in (λ q. point_formed s.table q.key q.object) s.points (c 3) m);
    held = all_in (λ q. holds s.table s.own q.key.job) s.points (and_left (all? (λ q. holds s.table s.own q.key.job) s.points) (all? (λ l. holds s.table s.own l.key.job) (listed s)) (c 8)) m;
    covered = covers_each _ _ (all_in (λ q. covers_all (fill_context s.table q.key.job s.clock q.object.context) q.object.versions) s.points (c 9) m);
    known = λ v k. all_in (λ w. in_clock s.clock w.dot) p.object.versions (all_in (λ q. all? (λ w. in_clock s.clock w.dot) q.object.versions) s.points (c 10) m) k;
    own_entry = leb-true _ _ (all_in (λ q. leb (entry q.object.context s.own).0 (own_base s)) s.points
        (and_left (all? (λ q. leb (entry q.object.context s.own).0 (own_base s)) s.points) (all? (λ m. leb (mark s.watermark m s.own) (own_base s)) controllers) (c 16)) m);
  }

  listed_facts : (l : Listed) → l ∈ listed s → ListedFacts s.table s.own s.clock l
  unfolding clauses lists_formed jobs_held lists_in_clock
  listed_facts l m = record {
    formed = all_in (listed_formed s.table) (listed s) (c 5) m;
    held = all_in (λ x. holds s.table s.own x.key.job) (listed s) (and_right (all? (λ q. holds s.table s.own q.key.job) s.points) (all? (λ x. holds s.table s.own x.key.job) (listed s)) (c 8)) m;
    known = all_in (λ x. in_clock s.clock x.dot) (listed s) (c 11) m;
  }

  marks : (m n : Controller) → Crew m → Crew n
      → (leb (mark s.watermark m n) last_counter && ((peers s s.own m && peers s s.own n) || eqb (mark s.watermark m n) 0)) ≡ true
  unfolding clauses marks_of_peers
  marks m n x y =
      each_controller (λ b. leb (mark s.watermark m b) last_counter && ((peers s s.own m && peers s s.own b) || eqb (mark s.watermark m b) 0))
      (each_controller (λ a. all? (λ b. leb (mark s.watermark a b) last_counter && ((peers s s.own a && peers s s.own b) || eqb (mark s.watermark a b) 0)) controllers) (c 14) m x) n y

  apart_facts : (dots_agree (dots_of s.points) (dots_of s.points) ≡ true) × (dots_agree (listed s) (dots_of s.points) ≡ true)
  unfolding clauses dots_apart
  apart_facts = (
    and_left (dots_agree (dots_of s.points) (dots_of s.points)) (dots_agree (listed s) (dots_of s.points)) (c 12),
    and_right (dots_agree (dots_of s.points) (dots_of s.points)) (dots_agree (listed s) (dots_of s.points)) (c 12),
  )

  pub good_facts : Good s
  unfolding clauses own_row_whole points_ascend lists_ascend lists_apart rows_of_peers own_marks_known own_entries_known records_needed
  good_facts = record {
    own_crew = crew_is s.own (size 0);
    table_good = size 1;
    clock_eight = eqb-true (length s.clock) 8 (size 2);
    marks_eight = eqb-true (length s.watermark) 8 (size 3);
    marks_rows = size 4;
    own_few = leb-true (length s.own_dots) most_listed (size 5);
    foreign_few = leb-true (length s.foreign_dots) most_listed (size 6);
    points_few = leb-true (length s.points) most_points (size 7);
    row_sound = λ n x. (
      and_left (fits (row s.clock n)) (sound (row s.clock n)) (row_facts n x),
      and_right (fits (row s.clock n)) (sound (row s.clock n)) (row_facts n x),
    );
    own_whole = eqb-true (row s.clock s.own).bits 0 (c 2);
    points_asc = c 4;
    own_asc = and_left (ascends? listed_before s.own_dots) (ascends? listed_before s.foreign_dots) (c 6);
    foreign_asc = and_right (ascends? listed_before s.own_dots) (ascends? listed_before s.foreign_dots) (c 6);
    own_own = λ l m. all_in (λ x. same_controller x.dot.who s.own) s.own_dots
        (and_left (all? (λ x. same_controller x.dot.who s.own) s.own_dots) (all? (λ x. not (same_controller x.dot.who s.own)) s.foreign_dots) (c 7)) m;
    foreign_other = λ l m. not-true (same_controller l.dot.who s.own) (all_in (λ x. not (same_controller x.dot.who s.own)) s.foreign_dots
        (and_right (all? (λ x. same_controller x.dot.who s.own) s.own_dots) (all? (λ x. not (same_controller x.dot.who s.own)) s.foreign_dots) (c 7)) m);
    points = record_facts;
    needed = λ p m. not-true (gone p.object) (all_in (λ q. not (gone q.object)) s.points (c 17) m);
    lists = listed_facts;
    apart = λ p q v w mp mq mv mw e. agree_at (dots_of s.points) (dots_of s.points) apart_facts.0 _ _ (dots_in s.points mp mv) (dots_in s.points mq mw) e;
    listed_apart = λ l p v ml mp mv e. agree_at (listed s) (dots_of s.points) apart_facts.1 l _ ml (dots_in s.points mp mv) e;
    rows_peers = λ n x f.
        ⊎_elim (λ h. never h f) (none_is (row s.clock n))
        (or_cases (peers s s.own n) (is_none (row s.clock n)) (each_controller (λ m. peers s s.own m || is_none (row s.clock m)) (c 13) n x));
    marks_range = λ m n x y. leb-true (mark s.watermark m n) last_counter (and_left (leb (mark s.watermark m n) last_counter) ((peers s s.own m && peers s s.own n) || eqb (mark s.watermark m n) 0) (marks m n x y));
    marks_peers = λ m n x y f.
        ⊎_elim (λ h. never h f) (eqb-true (mark s.watermark m n) 0)
        (or_cases (peers s s.own m && peers s s.own n) (eqb (mark s.watermark m n) 0)
        (and_right (leb (mark s.watermark m n) last_counter) ((peers s s.own m && peers s s.own n) || eqb (mark s.watermark m n) 0) (marks m n x y)));
    marks_own_row = λ n x. leb-true (mark s.watermark s.own n) (row s.clock n).base (each_controller (λ m. leb (mark s.watermark s.own m) (row s.clock m).base) (c 15) n x);
    marks_own_column = λ m x. leb-true (mark s.watermark m s.own) (own_base s) (each_controller (λ n. leb (mark s.watermark n s.own) (own_base s))
        (and_right (all? (λ p. leb (entry p.object.context s.own).0 (own_base s)) s.points) (all? (λ n. leb (mark s.watermark n s.own) (own_base s)) controllers) (c 16)) m x);
  }

-- ---- and back

module _ (s : State) (G : Good s) where
  is_sized : sized s ≡ true
  unfolding sized
  is_sized =
      all_passed
      (is_crew s.own G.own_crew and_also G.table_good and_also eq-eqb (length s.clock) 8 G.clock_eight
      and_also eq-eqb (length s.watermark) 8 G.marks_eight and_also G.marks_rows
      and_also le-leb (length s.own_dots) most_listed G.own_few and_also le-leb (length s.foreign_dots) most_listed G.foreign_few
      and_also le-leb (length s.points) most_points G.points_few and_also passed)

  are_rows_sound : rows_sound s ≡ true
  unfolding rows_sound
  are_rows_sound =
      at_every_row (λ r. fits r && sound r) s.clock (λ n x. and_both (fits (row s.clock n)) (sound (row s.clock n)) (G.row_sound n x).0 (G.row_sound n x).1)

  are_points_formed : points_formed s ≡ true
  unfolding points_formed
  are_points_formed = in_all (λ q. point_formed s.table q.key q.object) s.points (λ p m. point_of_facts s.table p.key p.object (G.points p m).formed)

  are_lists_apart : lists_apart s ≡ true
  unfolding lists_apart
  are_lists_apart =
      and_both (all? (λ x. same_controller x.dot.who s.own) s.own_dots) (all? (λ x. not (same_controller x.dot.who s.own)) s.foreign_dots)
      (in_all (λ x. same_controller x.dot.who s.own) s.own_dots G.own_own)
      (in_all (λ x. not (same_controller x.dot.who s.own)) s.foreign_dots (λ l m. ap not (G.foreign_other l m)))

  are_jobs_held : jobs_held s ≡ true
  unfolding jobs_held
  are_jobs_held =
      and_both (all? (λ q. holds s.table s.own q.key.job) s.points) (all? (λ x. holds s.table s.own x.key.job) (listed s))
      (in_all (λ q. holds s.table s.own q.key.job) s.points (λ p m. (G.points p m).held))
      (in_all (λ x. holds s.table s.own x.key.job) (listed s) (λ l m. (G.lists l m).held))

  are_dots_apart : dots_apart s ≡ true
  unfolding dots_apart
  are_dots_apart =
      and_both (dots_agree (dots_of s.points) (dots_of s.points)) (dots_agree (listed s) (dots_of s.points))
      (at_agree (dots_of s.points) (dots_of s.points)
      (λ l m p q e. let x = in_dots s.points p in let y = in_dots s.points q in
      ap (λ (z : Listed). z.key) x.same
      ∙ G.apart x.point y.point x.version y.version x.point_in y.point_in x.version_in y.version_in
      (sym (ap (λ (z : Listed). z.dot) x.same) ∙ e ∙ ap (λ (z : Listed). z.dot) y.same)
      ∙ sym (ap (λ (z : Listed). z.key) y.same)))
      (at_agree (listed s) (dots_of s.points)
      (λ l m p q e. let y = in_dots s.points q in
      G.listed_apart l y.point y.version p y.point_in y.version_in (e ∙ ap (λ (z : Listed). z.dot) y.same) ∙ sym (ap (λ (z : Listed). z.key) y.same)))

  are_marks_of_peers : marks_of_peers s ≡ true
  unfolding marks_of_peers
  are_marks_of_peers =
      every_controller (λ a. all? (λ b. leb (mark s.watermark a b) last_counter && ((peers s s.own a && peers s s.own b) || eqb (mark s.watermark a b) 0)) controllers)
      (λ m x. every_controller (λ b. leb (mark s.watermark m b) last_counter && ((peers s s.own m && peers s s.own b) || eqb (mark s.watermark m b) 0))
      (λ n y. and_both (leb (mark s.watermark m n) last_counter) ((peers s s.own m && peers s s.own n) || eqb (mark s.watermark m n) 0)
      (le-leb (mark s.watermark m n) last_counter (G.marks_range m n x y))
      (by_test (peers s s.own m && peers s s.own n) (λ h. or_inl (peers s s.own m && peers s s.own n) (eqb (mark s.watermark m n) 0) h)
      (λ h. or_inr (peers s s.own m && peers s s.own n) (eqb (mark s.watermark m n) 0) (eq-eqb (mark s.watermark m n) 0 (G.marks_peers m n x y h))))))

  are_own_entries_known : own_entries_known s ≡ true
  unfolding own_entries_known
  are_own_entries_known =
      and_both (all? (λ p. leb (entry p.object.context s.own).0 (own_base s)) s.points) (all? (λ n. leb (mark s.watermark n s.own) (own_base s)) controllers)
      (in_all (λ p. leb (entry p.object.context s.own).0 (own_base s)) s.points (λ p m. le-leb (entry p.object.context s.own).0 (own_base s) (G.points p m).own_entry))
      (every_controller (λ n. leb (mark s.watermark n s.own) (own_base s)) (λ n x. le-leb (mark s.watermark n s.own) (own_base s) (G.marks_own_column n x)))

  are_rows_of_peers : rows_of_peers s ≡ true
  unfolding rows_of_peers
  are_rows_of_peers =
      every_controller (λ m. peers s s.own m || is_none (row s.clock m))
      (λ n x. by_test (peers s s.own n) (λ h. or_inl (peers s s.own n) (is_none (row s.clock n)) h)
      (λ h. or_inr (peers s s.own n) (is_none (row s.clock n)) (is_none_seen (row s.clock n) (G.rows_peers n x h))))

  pub facts_good : good_state s ≡ true
  unfolding good_state clauses own_row_whole points_ascend lists_formed lists_ascend versions_covered versions_in_clock lists_in_clock own_marks_known records_needed
  facts_good =
      all_passed
      (is_sized
      and_also are_rows_sound
      and_also eq-eqb (row s.clock s.own).bits 0 G.own_whole
      and_also are_points_formed
      and_also G.points_asc
      and_also in_all (listed_formed s.table) (listed s) (λ l m. (G.lists l m).formed)
      and_also and_both (ascends? listed_before s.own_dots) (ascends? listed_before s.foreign_dots) G.own_asc G.foreign_asc
      and_also are_lists_apart
      and_also are_jobs_held
      and_also in_all (λ q. covers_all (fill_context s.table q.key.job s.clock q.object.context) q.object.versions) s.points (λ p m. each_covered _ _ (G.points p m).covered)
      and_also in_all (λ q. all? (λ w. in_clock s.clock w.dot) q.object.versions) s.points (λ p m. in_all (λ w. in_clock s.clock w.dot) p.object.versions (G.points p m).known)
      and_also in_all (λ x. in_clock s.clock x.dot) (listed s) (λ l m. (G.lists l m).known)
      and_also are_dots_apart
      and_also are_rows_of_peers
      and_also are_marks_of_peers
      and_also every_controller (λ m. leb (mark s.watermark s.own m) (row s.clock m).base) (λ n x. le-leb (mark s.watermark s.own n) (row s.clock n).base (G.marks_own_row n x))
      and_also are_own_entries_known
      and_also in_all (λ q. not (gone q.object)) s.points (λ p m. ap not (G.needed p m))
      and_also passed)
