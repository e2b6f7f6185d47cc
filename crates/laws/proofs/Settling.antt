-- Storing keeps a state good: for results that are well-formed, held, covered and apart from what is stored and listed. Assumes nothing.
use Prim.Native.Nat.{ℕ, ◌+◌, ◌≤◌}
use mathlib.Core.Path.{◌≡◌, refl, sym, ap, ◌∙◌, subst}
use mathlib.Core.Logic.{◌⊎◌, inl, inr, ⊎_elim}
use mathlib.Core.Bool.{true, false}
use mathlib.Core.List.{List, [], ◌∷◌}
use native.Mathlib.Omega.{arith}
use lib.ListN.{length}
use Rattle.numbers.specs.declared.Controller.{Controller}
use Rattle.numbers.specs.declared.Counter.{Counter}
use Rattle.numbers.specs.declared.Dot.{Dot}
use Rattle.numbers.specs.Words.{fold}
use Rattle.numbers.specs.Numbers.{is_controller, is_counter, same_controller}
use Rattle.numbers.specs.Key.{is_key}
use Rattle.numbers.proofs.Tests.{never, ◌∈◌, here}
use Rattle.numbers.proofs.Lists.{passed, ◌and_also◌, all_passed, clause}
use Rattle.numbers.proofs.Controllers.{Crew, crew_is, is_crew}
use Rattle.row.specs.declared.Row.{Row}
use Rattle.row.specs.Row.{none_seen, fits, sound}
use Rattle.row.proofs.Adding.{add_all}
use Rattle.meaning.specs.CrewTable.{CrewTable, holds}
use Rattle.meaning.specs.Clock.{Clock, row, in_clock}
use Rattle.meaning.specs.Context.{Context, entry, covers, fill_context, strip_context}
use Rattle.meaning.specs.Object.{Version, strip, gone}
use Rattle.meaning.specs.State.{Stored, Listed, State, peers, own_base, listed, dots_of}
use Rattle.meaning.specs.Message.{most_versions}
use Rattle.meaning.specs.Settle.{most_points, most_listed, entered, stripped, put, newly_listed, own_listed, foreign_listed, settled}
use Rattle.meaning.specs.Good.{listed_formed}
use Rattle.laws.proofs.ContextLaws.{Rising, covers_within, strip_within, strip_named, fill_strip, fill_raises, fill_monotone}
use Rattle.laws.proofs.Facts.{holders_peers, VersionFacts, VersionsFacts, ContextFacts, in_dots, dots_in}
use Rattle.laws.proofs.Goodness.{RecordFacts, ListedFacts, Good}
use Rattle.laws.proofs.Entering.{entered_row, entered_eight, counts, in_counts, add_all_sound, add_all_whole, entered_more, entered_dots, entered_base}
use Rattle.laws.proofs.Putting.{From, stays, comes, put_all_ascends, in_put_all, in_newly, in_own_listed, in_foreign_listed, in_listed, own_listed_ascends, foreign_listed_ascends, foreign_listed_few}

-- every dot that is in the clock k is in the clock l
abbrev pub Growing : Clock → Clock → Type 0
Growing k l = (d : Dot) → Crew d.who → in_clock k d ≡ true → in_clock l d ≡ true

-- ---- one record

strip_context_facts : (t : CrewTable) (j : ℕ) (k : Clock) (c : Context) → ContextFacts t j c → ContextFacts t j (strip_context k c)
strip_context_facts t j k c F = record {
  eight = unfold strip_context in refl;
  in_range = λ n r. omega (arith, strip_within k c n r, F.in_range n r);
  named = strip_named t j k c F.named;
}

module _ (t : CrewTable) (own : Controller) (crew : Crew own) where
  -- what is known of a record is known of it once it is stripped
  pub strip_record : (k : Clock) (p : Stored) → RecordFacts t own k p → RecordFacts t own k (stripped k p)
  strip_record k p F = unfold strip in record {
    formed = record {
      key_good = F.formed.key_good;
      few = F.formed.few;
      versions = F.formed.versions;
      context = strip_context_facts t p.key.job k p.object.context F.formed.context;
    };
    held = F.held;
    covered = λ v m. rw (fill_strip t p.key.job k p.object.context F.formed.context.named) (F.covered v m);
    known = F.known;
    own_entry = omega (arith, strip_within k p.object.context own crew, F.own_entry);
  }

  -- and under a clock that has more
  pub later_record : (k l : Clock) (p : Stored) → Rising k l → Growing k l → RecordFacts t own k p → RecordFacts t own l p
  later_record k l p up more F = record {
    formed = F.formed;
    held = F.held;
    covered = λ v m.
        covers_within (fill_context t p.key.job k p.object.context) (fill_context t p.key.job l p.object.context) v.dot
        (fill_monotone t p.key.job k l p.object.context p.object.context up (λ n r. omega arith)) (F.formed.versions.each v m).crew (F.covered v m);
    known = λ v m. more v.dot (F.formed.versions.each v m).crew (F.known v m);
    own_entry = omega (arith, F.own_entry, up own crew);
  }

-- ---- the results of a step

-- what a step has to show of its results rs, and of the clock k that they enter
pub record Results (s : State) (k : Clock) (rs : List Stored) : Type 0 where
  -- the clock is that before the step, with a peer's row united at most
  pub eight : length k ≡ 8
  pub rows : (n : Controller) → Crew n → sound (row k n) ≡ true
  pub rising : Rising s.clock k
  pub growing : Growing s.clock k
  pub own_row : row k s.own ≡ row s.clock s.own
  pub of_peers : (n : Controller) → Crew n → peers s s.own n ≡ false → row k n ≡ none_seen
  -- each result is well-formed, of a held job and covered by its own context
  pub key_good : (r : Stored) → r ∈ rs → is_key r.key ≡ true
  pub held : (r : Stored) → r ∈ rs → holds s.table s.own r.key.job ≡ true
  pub versions : (r : Stored) → r ∈ rs → VersionsFacts s.table r.key.job r.object.versions
  pub context : (r : Stored) → r ∈ rs → ContextFacts s.table r.key.job r.object.context
  pub covered : (r : Stored) (v : Version) → r ∈ rs → v ∈ r.object.versions → covers r.object.context v.dot ≡ true
  -- own dots are at most the next one, and own entries those that the new clock has
  pub own_next : (r : Stored) (v : Version) → r ∈ rs → v ∈ r.object.versions → v.dot.who ≡ s.own → v.dot.count.0 ≤ own_base s + 1
  pub own_entry : (r : Stored) → r ∈ rs → (entry r.object.context s.own).0 ≤ (row (entered k rs) s.own).base
  pub own_room : length (own_listed s rs) ≤ most_listed
  -- no dot is another point's
  pub apart : (p q : Stored) (v w : Version) → p ∈ rs → q ∈ rs → v ∈ p.object.versions → w ∈ q.object.versions → v.dot ≡ w.dot → p.key ≡ q.key
  pub from_stored : (r p : Stored) (v w : Version) → r ∈ rs → p ∈ s.points → v ∈ r.object.versions → w ∈ p.object.versions → v.dot ≡ w.dot → r.key ≡ p.key
  pub from_listed : (l : Listed) (r : Stored) (v : Version) → l ∈ listed s → r ∈ rs → v ∈ r.object.versions → l.dot ≡ v.dot → l.key ≡ r.key

-- and what the limits 11 to 13 have tested
pub record Limits (s : State) (k : Clock) (rs : List Stored) : Type 0 where
  pub rows_fit : (n : Controller) → Crew n → fits (row (entered k rs) n) ≡ true
  pub versions_few : (r : Stored) → r ∈ rs → length r.object.versions ≤ most_versions
  pub points_few : length (settled s k rs).points ≤ most_points

module _ (s : State) (k : Clock) (rs : List Stored) (G : Good s) (R : Results s k rs) (L : Limits s k rs) where
  after : Clock
  after = entered k rs

  dot_facts : (l : Listed) (m : l ∈ dots_of rs) → VersionFacts s.table (in_dots rs m).point.key.job (in_dots rs m).version
  dot_facts l m = let q = in_dots rs m in (R.versions q.point q.point_in).each q.version q.version_in

  -- a dot of the results, as the version that it is of
  same_dot_of : (l : Listed) (m : l ∈ dots_of rs) → l.dot ≡ (in_dots rs m).version.dot
  same_dot_of l m = ap (λ (z : Listed). z.dot) (in_dots rs m).same

  same_key_of : (l : Listed) (m : l ∈ dots_of rs) → l.key ≡ (in_dots rs m).point.key
  same_key_of l m = ap (λ (z : Listed). z.key) (in_dots rs m).same

  counted : (l : Listed) → l ∈ dots_of rs → is_counter l.dot.count ≡ true
  counted l m = subst (λ (d : Dot). is_counter d.count ≡ true) (sym (same_dot_of l m)) (dot_facts l m).counter

  by_crew : (l : Listed) → l ∈ dots_of rs → Crew l.dot.who
  by_crew l m = subst (λ (d : Dot). Crew d.who) (sym (same_dot_of l m)) (dot_facts l m).crew

  -- ---- the clock

  rising : Rising s.clock after
  unfolding after
  rising n c = omega (arith, R.rising n c, entered_base k rs n c)

  growing : Growing s.clock after
  unfolding after
  growing d c h = entered_more k rs counted d c (R.growing d c h)

  entering : (r : Stored) (v : Version) → r ∈ rs → v ∈ r.object.versions → in_clock after v.dot ≡ true
  unfolding after
  entering r v m h = entered_dots k rs counted (record { dot = v.dot; key = r.key }) (dots_in rs m h) ((R.versions r m).each v h).crew

  rows_sound : (n : Controller) → Crew n → sound (row after n) ≡ true
  unfolding after
  rows_sound n c =
      rw (entered_row k rs n c)
      (add_all_sound (row k n) (counts n (dots_of rs)) (R.rows n c)
      (λ x m. let q = in_counts n (dots_of rs) m in subst (λ (y : Counter). is_counter y ≡ true) q.3 (counted q.0 q.1)))

  own_count : (x : Counter) → x ∈ counts s.own (dots_of rs) → x.0 ≤ (row s.clock s.own).base + 1
  own_count x m =
      let q = in_counts s.own (dots_of rs) m in
      let d = in_dots rs q.1 in
      let e = same_dot_of q.0 q.1 in
      subst (λ (y : Counter). y.0 ≤ (row s.clock s.own).base + 1) (sym (ap (λ (z : Dot). z.count) e) ∙ q.3)
      (R.own_next d.point d.version d.point_in d.version_in (sym (ap (λ (z : Dot). z.who) e) ∙ q.2))

  own_whole : (row after s.own).bits ≡ 0
  unfolding after
  own_whole =
      rw (entered_row k rs s.own G.own_crew, R.own_row) (add_all_whole (row s.clock s.own) (counts s.own (dots_of rs)) G.own_whole own_count)

  -- a dot of the results is a peer's
  dot_peer : (l : Listed) → l ∈ dots_of rs → peers s s.own l.dot.who ≡ true
  dot_peer l m =
      let q = in_dots rs m in
      subst (λ (d : Dot). peers s s.own d.who ≡ true) (sym (same_dot_of l m))
      (holders_peers s s.own q.version.dot.who q.point.key (R.key_good q.point q.point_in) (R.held q.point q.point_in) (dot_facts l m).holder)

  no_counts : (n : Controller) (xs : List Counter) → ((x : Counter) → x ∈ xs → ⊥) → (r : Row) → add_all r xs ≡ r
  unfolding add_all
  no_counts n [] h r = refl
  no_counts n (x ∷ xs) h r = absurd (h x (here refl))

  rows_peers : (n : Controller) → Crew n → peers s s.own n ≡ false → row after n ≡ none_seen
  unfolding after
  rows_peers n c f =
      entered_row k rs n c
      ∙ no_counts n (counts n (dots_of rs))
      (λ x m. let q = in_counts n (dots_of rs) m in never (subst (λ (y : Controller). peers s s.own y ≡ true) q.2 (dot_peer q.0 q.1)) f) (row k n)
      ∙ R.of_peers n c f

  -- ---- the records

  result_facts : (r : Stored) → r ∈ rs → RecordFacts s.table s.own after r
  unfolding after
  result_facts r m = record {
    formed = record { key_good = R.key_good r m; few = L.versions_few r m; versions = R.versions r m; context = R.context r m };
    held = R.held r m;
    covered = λ v h. covers_within r.object.context (fill_context s.table r.key.job after r.object.context) v.dot
        (fill_raises s.table r.key.job after r.object.context) ((R.versions r m).each v h).crew (R.covered r v m h);
    known = λ v h. entering r v m h;
    own_entry = R.own_entry r m;
  }

  points : List Stored
  points = fold (put after) s.points rs

  from : (p : Stored) → p ∈ points → From after s.points rs p
  unfolding points
  from p m = in_put_all after s.points rs G.points_asc m

  point_facts : (p : Stored) → p ∈ points → RecordFacts s.table s.own after p
  point_facts p m = go (from p m)
    where
      go : From after s.points rs p → RecordFacts s.table s.own after p
      go (stays h o) = later_record s.table s.own G.own_crew s.clock after p rising growing (G.points p h)
      go (comes r h e g) = subst (λ (x : Stored). RecordFacts s.table s.own after x) (sym e) (strip_record s.table s.own G.own_crew after r (result_facts r h))

  needed : (p : Stored) → p ∈ points → gone p.object ≡ false
  needed p m = go (from p m)
    where
      go : From after s.points rs p → gone p.object ≡ false
      go (stays h o) = G.needed p h
      go (comes r h e g) = subst (λ (x : Stored). gone x.object ≡ false) (sym e) g

  -- a record has the key and the versions of one that was there, or of a result
  pub data Source (p : Stored) : Type 0 where
    old : p ∈ s.points → Source p
    new : (r : Stored) → r ∈ rs → p.key ≡ r.key → ((v : Version) → v ∈ p.object.versions → v ∈ r.object.versions) → Source p

  source : (p : Stored) → p ∈ points → Source p
  source p m = go (from p m)
    where
      go : From after s.points rs p → Source p
      go (stays h o) = old h
      go (comes r h e g) = new r h (ap (λ (x : Stored). x.key) e) (λ v x. unfold strip in (subst (λ (y : Stored). v ∈ y.object.versions) e x))

  apart : (p q : Stored) (v w : Version) → Source p → Source q → v ∈ p.object.versions → w ∈ q.object.versions → v.dot ≡ w.dot → p.key ≡ q.key
  apart p q v w (old a) (old b) mv mw e = G.apart p q v w a b mv mw e
  apart p q v w (old a) (new r b f g) mv mw e = sym (R.from_stored r p w v b a (g w mw) mv (sym e)) ∙ sym f
  apart p q v w (new r a f g) (old b) mv mw e = f ∙ R.from_stored r q v w a b (g v mv) mw e
  apart p q v w (new r a f g) (new x b h i) mv mw e = f ∙ R.apart r x v w a b (g v mv) (i w mw) e ∙ sym h

  listed_apart : (l : Listed) (p : Stored) (v : Version) → (l ∈ newly_listed s rs) ⊎ (l ∈ listed s) → Source p → v ∈ p.object.versions → l.dot ≡ v.dot → l.key ≡ p.key
  listed_apart l p v (inr a) (old b) mv e = G.listed_apart l p v a b mv e
  listed_apart l p v (inr a) (new r b f g) mv e = R.from_listed l r v a b (g v mv) e ∙ sym f
  listed_apart l p v (inl a) (old b) mv e =
      let m = (in_newly s rs a).0 in
      let d = in_dots rs m in
      same_key_of l m ∙ R.from_stored d.point p d.version v d.point_in b d.version_in mv (sym (same_dot_of l m) ∙ e)
  listed_apart l p v (inl a) (new r b f g) mv e =
      let m = (in_newly s rs a).0 in
      let d = in_dots rs m in
      same_key_of l m ∙ R.apart d.point r d.version v d.point_in b d.version_in (g v mv) (sym (same_dot_of l m) ∙ e) ∙ sym f

  -- ---- the lists

  listed_facts : (l : Listed) → (l ∈ newly_listed s rs) ⊎ (l ∈ listed s) → ListedFacts s.table s.own after l
  listed_facts l (inr m) = let F = G.lists l m in record { formed = F.formed; held = F.held; known = growing l.dot (crew_of l F.formed) F.known }
    where
      crew_of : (x : Listed) → listed_formed s.table x ≡ true → Crew x.dot.who
      crew_of x e = unfold listed_formed in (crew_is x.dot.who (clause (is_key x.key ∷ is_controller x.dot.who ∷ holds s.table x.dot.who x.key.job ∷ is_counter x.dot.count ∷ []) e 1))
  listed_facts l (inl m) = new_facts l (in_newly s rs m).0
    where
      new_facts : (x : Listed) → x ∈ dots_of rs → ListedFacts s.table s.own after x
      new_facts x h =
          let d = in_dots rs h in
          subst (λ (z : Listed). ListedFacts s.table s.own after z) (sym d.same)
          (record {
            formed = unfold listed_formed in (all_passed (R.key_good d.point d.point_in and_also is_crew d.version.dot.who (dot_facts x h).crew and_also (dot_facts x h).holder and_also (dot_facts x h).counter and_also passed));
            held = R.held d.point d.point_in;
            known = entering d.point d.version d.point_in d.version_in;
          })

  own_own : (l : Listed) → l ∈ own_listed s rs → same_controller l.dot.who s.own ≡ true
  own_own l m = ⊎_elim (λ h. h.1) (G.own_own l) (in_own_listed s rs m)

  foreign_other : (l : Listed) → l ∈ foreign_listed s rs → same_controller l.dot.who s.own ≡ false
  foreign_other l m = ⊎_elim (λ h. h.1) (G.foreign_other l) (in_foreign_listed s rs m)

  pub settled_good : Good (settled s k rs)
  unfolding settled after points peers
  settled_good = record {
    own_crew = G.own_crew;
    table_good = G.table_good;
    clock_eight = entered_eight k rs R.eight;
    marks_eight = G.marks_eight;
    marks_rows = G.marks_rows;
    own_few = R.own_room;
    foreign_few = foreign_listed_few s rs G.foreign_few;
    points_few = L.points_few;
    row_sound = λ n c. (L.rows_fit n c, rows_sound n c);
    own_whole = own_whole;
    points_asc = put_all_ascends after s.points rs G.points_asc;
    own_asc = own_listed_ascends s rs G.own_asc;
    foreign_asc = foreign_listed_ascends s rs G.foreign_asc;
    own_own = own_own;
    foreign_other = foreign_other;
    points = point_facts;
    needed = needed;
    lists = λ l m. listed_facts l (in_listed s rs m);
    apart = λ p q v w mp mq mv mw e. apart p q v w (source p mp) (source q mq) mv mw e;
    listed_apart = λ l p v ml mp mv e. listed_apart l p v (in_listed s rs ml) (source p mp) mv e;
    rows_peers = rows_peers;
    marks_range = G.marks_range;
    marks_peers = G.marks_peers;
    marks_own_row = λ n c. omega (arith, G.marks_own_row n c, rising n c);
    marks_own_column = λ m c. omega (arith, G.marks_own_column m c, rising s.own G.own_crew);
  }
