-- A state of the right shape is good just where its parts are. Assumes nothing.
use Prim.Native.Nat.{ℕ, ◌≤◌}
use mathlib.Core.Path.{◌≡◌, refl, sym, ap, ◌∙◌}
use mathlib.Core.Bool.{Bool, true, false, ◌&&◌, not}
use mathlib.Core.List.{List, [], ◌∷◌, ◌++◌}
use lib.ListN.{length, get_or}
use lib.Dec.{leb, eqb}
use borrow.Author.Tests.{le-leb, eq-eqb}
use Rattle.numbers.specs.Words.{all?, ascends?}
use Rattle.numbers.specs.Numbers.{is_controller, same_controller, controllers}
use Rattle.numbers.proofs.Tests.{same_test, and_left, and_right, and_both, and_group, ◌∈◌}
use Rattle.numbers.proofs.Lists.{all_in, in_all, clause, passed, ◌and_also◌, all_passed}
use Rattle.meaning.specs.CrewTable.{is_table, holds}
use Rattle.meaning.specs.Clock.{row, in_clock}
use Rattle.meaning.specs.Context.{entry, fill_context}
use Rattle.meaning.specs.Object.{gone}
use Rattle.meaning.specs.State.{Stored, stored_before, Listed, listed_before, State, mark, peers, own_base, listed}
use Rattle.meaning.specs.Message.{point_formed, covers_all}
use Rattle.meaning.specs.Settle.{most_points, most_listed}
use Rattle.meaning.specs.Good.{sized, rows_sound, own_row_whole, points_formed, points_ascend, listed_formed, lists_formed, lists_ascend, lists_apart, jobs_held, versions_covered, versions_in_clock, lists_in_clock, dots_apart, rows_of_peers, marks_of_peers, own_marks_known, own_entries_known, records_needed, clauses, good_state}
use Rattle.layout.specs.Image.{head_of}
use Rattle.head.specs.HeadGood.{bare, own_column_known, head_good}
use Rattle.dots.specs.DotsGood.{in_its_list, dots_good}
use Rattle.record.specs.RecordGood.{record_good}
use Rattle.image.specs.Parts.{parts_good}

-- what every decoded image has
pub record Shape (s : State) : Type 0 where
  pub table_good : is_table s.table ≡ true
  pub clock_eight : length s.clock ≡ 8
  pub marks_eight : length s.watermark ≡ 8
  pub marks_rows : all? (λ r. eqb (length r) 8) s.watermark ≡ true
  pub own_few : length s.own_dots ≤ most_listed
  pub foreign_few : length s.foreign_dots ≤ most_listed
  pub points_few : length s.points ≤ most_points

-- ---- tests over two lists one after the other

pub all_append : {A : Type 0} (f : A → Bool) (xs ys : List A) → all? f (xs ++ ys) ≡ (all? f xs && all? f ys)
all_append f [] ys = refl
all_append f (x ∷ xs) ys = ap (λ (t : Bool). f x && t) (all_append f xs ys) ∙ and_group (f x) (all? f xs) (all? f ys)

all_left : {A : Type 0} (f : A → Bool) (xs ys : List A) → all? f (xs ++ ys) ≡ true → all? f xs ≡ true
all_left f xs ys t = and_left (all? f xs) (all? f ys) (sym (all_append f xs ys) ∙ t)

all_right : {A : Type 0} (f : A → Bool) (xs ys : List A) → all? f (xs ++ ys) ≡ true → all? f ys ≡ true
all_right f xs ys t = and_right (all? f xs) (all? f ys) (sym (all_append f xs ys) ∙ t)

all_both : {A : Type 0} (f : A → Bool) (xs ys : List A) → all? f xs ≡ true → all? f ys ≡ true → all? f (xs ++ ys) ≡ true
all_both f xs ys p q = all_append f xs ys ∙ and_both (all? f xs) (all? f ys) p q

-- ---- from the clauses to the parts

module _ (s : State) (t : good_state s ≡ true) where
  c : (i : ℕ) → get_or (clauses s) i true ≡ true
  unfolding good_state
  c = clause (clauses s) t

  abbrev sizes : List Bool
  sizes =
      is_controller s.own ∷ is_table s.table ∷ eqb (length s.clock) 8 ∷ eqb (length s.watermark) 8
      ∷ all? (λ r. eqb (length r) 8) s.watermark ∷ leb (length s.own_dots) most_listed ∷ leb (length s.foreign_dots) most_listed
      ∷ leb (length s.points) most_points ∷ []

  own_good : is_controller s.own ≡ true
  unfolding clauses sized
  own_good = clause sizes (c 0) 0

  abbrev entries_in_points : Bool
  entries_in_points = all? (λ p. leb (entry p.object.context s.own).0 (own_base s)) s.points

  abbrev entries_in_marks : Bool
  entries_in_marks = all? (λ m. leb (mark s.watermark m s.own) (own_base s)) controllers

  the_head : head_good (head_of s) ≡ true
  unfolding head_good clauses own_column_known rows_sound own_row_whole rows_of_peers marks_of_peers own_marks_known own_entries_known peers
  the_head =
      all_passed
      (own_good and_also c 1 and_also c 2 and_also c 13 and_also c 14 and_also c 15 and_also and_right entries_in_points entries_in_marks (c 16) and_also passed)

  abbrev held_points : Bool
  held_points = all? (λ p. holds s.table s.own p.key.job) s.points

  abbrev held_lists : Bool
  held_lists = all? (λ l. holds s.table s.own l.key.job) (listed s)

  abbrev own_alone : Bool
  own_alone = all? (λ l. same_controller l.dot.who s.own) s.own_dots

  abbrev foreign_alone : Bool
  foreign_alone = all? (λ l. not (same_controller l.dot.who s.own)) s.foreign_dots

  the_own_dots : dots_good true s.own s.table s.clock s.own_dots ≡ true
  unfolding dots_good clauses lists_formed lists_ascend lists_apart jobs_held lists_in_clock
  the_own_dots =
      all_passed
      (all_left (listed_formed s.table) s.own_dots s.foreign_dots (c 5)
      and_also and_left (ascends? listed_before s.own_dots) (ascends? listed_before s.foreign_dots) (c 6)
      and_also and_left own_alone foreign_alone (c 7)
      and_also all_left (λ l. holds s.table s.own l.key.job) s.own_dots s.foreign_dots (and_right held_points held_lists (c 8))
      and_also all_left (λ l. in_clock s.clock l.dot) s.own_dots s.foreign_dots (c 11)
      and_also passed)

  the_foreign_dots : dots_good false s.own s.table s.clock s.foreign_dots ≡ true
  unfolding dots_good clauses lists_formed lists_ascend lists_apart jobs_held lists_in_clock
  the_foreign_dots =
      all_passed
      (all_right (listed_formed s.table) s.own_dots s.foreign_dots (c 5)
      and_also and_right (ascends? listed_before s.own_dots) (ascends? listed_before s.foreign_dots) (c 6)
      and_also and_right own_alone foreign_alone (c 7)
      and_also all_right (λ l. holds s.table s.own l.key.job) s.own_dots s.foreign_dots (and_right held_points held_lists (c 8))
      and_also all_right (λ l. in_clock s.clock l.dot) s.own_dots s.foreign_dots (c 11)
      and_also passed)

  the_records : all? (record_good s.own s.table s.clock) s.points ≡ true
  unfolding record_good clauses points_formed jobs_held versions_covered versions_in_clock own_entries_known records_needed
  the_records =
      in_all (record_good s.own s.table s.clock) s.points
      (λ p m.
      all_passed
      (all_in (λ q. point_formed s.table q.key q.object) s.points (c 3) m
      and_also all_in (λ q. holds s.table s.own q.key.job) s.points (and_left held_points held_lists (c 8)) m
      and_also all_in (λ q. covers_all (fill_context s.table q.key.job s.clock q.object.context) q.object.versions) s.points (c 9) m
      and_also all_in (λ q. all? (λ v. in_clock s.clock v.dot) q.object.versions) s.points (c 10) m
      and_also all_in (λ q. leb (entry q.object.context s.own).0 (own_base s)) s.points (and_left entries_in_points entries_in_marks (c 16)) m
      and_also all_in (λ q. not (gone q.object)) s.points (c 17) m
      and_also passed))

  to_parts : parts_good s ≡ true
  unfolding parts_good clauses points_ascend
  to_parts = all_passed (the_head and_also the_own_dots and_also the_foreign_dots and_also the_records and_also c 4 and_also c 12 and_also passed)

-- ---- and back

module _ (s : State) (S : Shape s) (t : parts_good s ≡ true) where
  abbrev tests : List Bool
  tests =
      head_good (head_of s)
      ∷ dots_good true s.own s.table s.clock s.own_dots
      ∷ dots_good false s.own s.table s.clock s.foreign_dots
      ∷ all? (record_good s.own s.table s.clock) s.points
      ∷ ascends? stored_before s.points
      ∷ dots_apart s
      ∷ []

  part : (i : ℕ) → get_or tests i true ≡ true
  unfolding parts_good
  part i = clause tests t i

  abbrev head_tests : List Bool
  head_tests =
      is_controller s.own ∷ rows_sound (bare (head_of s)) ∷ own_row_whole (bare (head_of s)) ∷ rows_of_peers (bare (head_of s)) ∷ marks_of_peers (bare (head_of s))
      ∷ own_marks_known (bare (head_of s)) ∷ own_column_known (bare (head_of s)) ∷ []

  head : (i : ℕ) → get_or head_tests i true ≡ true
  unfolding head_good
  head i = clause head_tests (part 0) i

  abbrev list_tests : Bool → List Listed → List Bool
  list_tests mine ls =
      all? (listed_formed s.table) ls ∷ ascends? listed_before ls ∷ all? (in_its_list mine s.own) ls
      ∷ all? (λ l. holds s.table s.own l.key.job) ls ∷ all? (λ l. in_clock s.clock l.dot) ls ∷ []

  own : (i : ℕ) → get_or (list_tests true s.own_dots) i true ≡ true
  unfolding dots_good
  own i = clause (list_tests true s.own_dots) (part 1) i

  foreign : (i : ℕ) → get_or (list_tests false s.foreign_dots) i true ≡ true
  unfolding dots_good
  foreign i = clause (list_tests false s.foreign_dots) (part 2) i

  abbrev record_tests : Stored → List Bool
  record_tests p =
      point_formed s.table p.key p.object ∷ holds s.table s.own p.key.job
      ∷ covers_all (fill_context s.table p.key.job s.clock p.object.context) p.object.versions
      ∷ all? (λ v. in_clock s.clock v.dot) p.object.versions ∷ leb (entry p.object.context s.own).0 (row s.clock s.own).base
      ∷ not (gone p.object) ∷ []

  one_record : (p : Stored) → p ∈ s.points → (i : ℕ) → get_or (record_tests p) i true ≡ true
  unfolding record_good
  one_record p m i = clause (record_tests p) (all_in (record_good s.own s.table s.clock) s.points (part 3) m) i

  from_parts : good_state s ≡ true
  unfolding good_state clauses sized points_formed points_ascend lists_formed lists_ascend lists_apart jobs_held versions_covered versions_in_clock lists_in_clock own_entries_known records_needed rows_sound own_row_whole rows_of_peers marks_of_peers own_marks_known own_column_known peers
  from_parts =
      all_passed
      (all_passed
      (head 0 and_also S.table_good and_also eq-eqb (length s.clock) 8 S.clock_eight and_also eq-eqb (length s.watermark) 8 S.marks_eight and_also S.marks_rows
      and_also le-leb (length s.own_dots) most_listed S.own_few and_also le-leb (length s.foreign_dots) most_listed S.foreign_few
      and_also le-leb (length s.points) most_points S.points_few and_also passed)
      and_also head 1
      and_also head 2
      and_also in_all (λ p. point_formed s.table p.key p.object) s.points (λ p m. one_record p m 0)
      and_also part 4
      and_also all_both (listed_formed s.table) s.own_dots s.foreign_dots (own 0) (foreign 0)
      and_also and_both (ascends? listed_before s.own_dots) (ascends? listed_before s.foreign_dots) (own 1) (foreign 1)
      and_also and_both (all? (λ l. same_controller l.dot.who s.own) s.own_dots) (all? (λ l. not (same_controller l.dot.who s.own)) s.foreign_dots) (own 2) (foreign 2)
      and_also and_both (all? (λ p. holds s.table s.own p.key.job) s.points) (all? (λ l. holds s.table s.own l.key.job) (listed s))
      (in_all (λ p. holds s.table s.own p.key.job) s.points (λ p m. one_record p m 1))
      (all_both (λ l. holds s.table s.own l.key.job) s.own_dots s.foreign_dots (own 3) (foreign 3))
      and_also in_all (λ p. covers_all (fill_context s.table p.key.job s.clock p.object.context) p.object.versions) s.points (λ p m. one_record p m 2)
      and_also in_all (λ p. all? (λ v. in_clock s.clock v.dot) p.object.versions) s.points (λ p m. one_record p m 3)
      and_also all_both (λ l. in_clock s.clock l.dot) s.own_dots s.foreign_dots (own 4) (foreign 4)
      and_also part 5
      and_also head 3
      and_also head 4
      and_also head 5
      and_also and_both (all? (λ p. leb (entry p.object.context s.own).0 (own_base s)) s.points) (all? (λ m. leb (mark s.watermark m s.own) (own_base s)) controllers)
      (in_all (λ p. leb (entry p.object.context s.own).0 (own_base s)) s.points (λ p m. one_record p m 4)) (head 6)
      and_also in_all (λ p. not (gone p.object)) s.points (λ p m. one_record p m 5)
      and_also passed)

pub good_by_parts : (s : State) → Shape s → good_state s ≡ parts_good s
good_by_parts s S = same_test (good_state s) (parts_good s) (to_parts s) (from_parts s S)
