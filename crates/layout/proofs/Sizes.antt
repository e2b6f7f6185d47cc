-- A good state and a well-formed message are within their sizes, so the codec gives them back. Assumes nothing.
use Prim.Native.Nat.{ℕ, ◌-◌, ◌^◌, ◌≤◌, ◌<◌}
use mathlib.Core.Path.{◌≡◌, sym, ap, ◌∙◌, subst}
use mathlib.Core.Bool.{true, ◌&&◌}
use mathlib.Core.List.{List, [], ◌∷◌}
use native.Mathlib.Omega.{arith}
use lib.ListN.{length, get_or}
use lib.Dec.{leb, ltb, eqb}
use borrow.Author.Tests.{leb-true, ltb-true, eqb-true}
use Rattle.numbers.specs.declared.Controller.{Controller}
use Rattle.numbers.specs.declared.Counter.{Counter}
use Rattle.numbers.specs.declared.Key.{Key}
use Rattle.numbers.specs.Words.{every, all?}
use Rattle.numbers.specs.Numbers.{counter, last_counter, is_controller, is_counter, is_point, is_job, each, controllers}
use Rattle.numbers.specs.Key.{is_key}
use Rattle.numbers.proofs.Tests.{and_left, and_right, ◌∈◌}
use Rattle.numbers.proofs.Lists.{all_in, in_map, in_left, in_right, clause}
use Rattle.numbers.proofs.Controllers.{Crew, crew_is, in_crew, each_entry}
use Rattle.row.specs.declared.Row.{Row}
use Rattle.row.specs.Row.{none_seen, fits, sound}
use Rattle.row.proofs.Highest.{sound_base}
use Rattle.meaning.specs.CrewTable.{CrewTable, is_table, holds}
use Rattle.meaning.specs.Clock.{Clock, row}
use Rattle.meaning.specs.Context.{Context}
use Rattle.meaning.specs.Object.{Contents, value, deleted, Version}
use Rattle.meaning.specs.State.{Stored, Listed, mark, State, listed}
use Rattle.meaning.specs.Message.{Outgoing, Ask, Reply, longest_value, contents_formed, outgoing_formed, ask_formed, reply_formed}
use Rattle.meaning.specs.Settle.{most_listed}
use Rattle.meaning.specs.Good.{listed_formed}
use Rattle.laws.proofs.Facts.{VersionFacts, ContextFacts, PointFacts, point_facts}
use Rattle.laws.proofs.Goodness.{Good}
use Rattle.laws.proofs.Formed.{FormedClock, formed_outgoing, formed_ask, formed_reply}
use Rattle.layout.specs.PointBlock.{form_1, said_bytes, unsent}
use Rattle.layout.proofs.PointBack.{SlotSized, ContextSized, PointSized}
use Rattle.layout.proofs.ImageBack.{RowSized, ClockSized, MarksSized, EntrySized, DotsSized, StoredSized, Sized}
use Rattle.layout.proofs.MessagesBack.{AskSized, ReplySized}

-- ---- one of eight

-- a member of a list of eight is one controller's
pub one_of_eight : {A : Type 0} (d : A) (l : List A) → length l ≡ 8 → {x : A} → x ∈ l → (n : Controller) × Crew n × (x ≡ get_or l (n.0 - 1) d)
one_of_eight d l e {x} m =
    let q = in_map (λ n. get_or l (n.0 - 1) d) controllers {y = x} (subst (λ (k : List _). x ∈ k) (sym (each_entry d l e)) m) in
    (q.0, in_crew q.0 q.1, q.2)

-- ---- numbers

key_sized : (k : Key) → is_key k ≡ true → (k.job < 256) × (k.point.0 < 256 ^ 2)
unfolding is_key is_job is_point
key_sized k t = (
  omega (arith, leb-true k.job 7 (and_left (leb k.job 7) (leb 1 k.point.0 && leb k.point.0 65535) t)),
  omega (arith, leb-true k.point.0 65535 (and_right (leb 1 k.point.0) (leb k.point.0 65535) (and_right (leb k.job 7) (leb 1 k.point.0 && leb k.point.0 65535) t))),
)

counter_sized : (c : Counter) → is_counter c ≡ true → c.0 < 256 ^ 4
unfolding is_counter
counter_sized c t = omega (arith, leb-true c.0 last_counter (and_right (leb 1 c.0) (leb c.0 last_counter) t))

-- ---- a point

said_sized : (c : Contents) → contents_formed c ≡ true → length (said_bytes c) ≤ longest_value
unfolding contents_formed
said_sized (value v) t = leb-true (length v) longest_value (and_left (leb (length v) longest_value) (all? (λ b. ltb b 256) v) t)
said_sized deleted t = omega arith

slot_sized : (t : CrewTable) (j : ℕ) (v : Version) → VersionFacts t j v → SlotSized form_1 v
slot_sized t j v F = record {
  who = omega (arith, F.crew.1);
  count = counter_sized v.dot.count F.counter;
  said = said_sized v.contents F.contents;
}

context_sized : (t : CrewTable) (j : ℕ) (c : Context) → ContextFacts t j c → ContextSized c
context_sized t j c F = record {
  eight = F.eight;
  small = λ e m. let q = one_of_eight (counter 0) c F.eight m in subst (λ (x : Counter). x.0 < 256 ^ 4) (sym q.2) (omega (arith, F.in_range q.0 q.1));
}

pub point_sized : (t : CrewTable) (m : Outgoing) → m.sender.0 < 256 → PointFacts t m.key m.object → PointSized form_1 m
point_sized t m small F = record {
  sender = small;
  job = (key_sized m.key F.key_good).0;
  point = (key_sized m.key F.key_good).1;
  few = F.few;
  context = context_sized t m.key.job m.object.context F.context;
  versions = λ v h. slot_sized t m.key.job v (F.versions.each v h);
}

pub stored_sized : (t : CrewTable) (p : Stored) → PointFacts t p.key p.object → StoredSized p
stored_sized t p F = point_sized t (unsent p) (omega arith) F

-- ---- a clock

pub clock_sized : (k : Clock) → length k ≡ 8 → ((n : Controller) → Crew n → (fits (row k n) ≡ true) × (sound (row k n) ≡ true)) → ClockSized k
clock_sized k e h = record {
  eight = e;
  rows = λ r m. let q = one_of_eight none_seen k e m in subst (λ (x : Row). RowSized x) (sym q.2) (one q.0 (h q.0 q.1));
}
  where
    one : (n : Controller) → (fits (row k n) ≡ true) × (sound (row k n) ≡ true) → RowSized (row k n)
    one n t = (omega (arith, sound_base (row k n) t.1), unfold fits in (omega (arith, ltb-true (row k n).bits (2 ^ 64) t.0)))

-- ---- a state

module _ (s : State) (G : Good s) where
  marks_sized : MarksSized s.watermark
  marks_sized = record {
    eight = G.marks_eight;
    rows = λ r m. eqb-true (length r) 8 (all_in (λ x. eqb (length x) 8) s.watermark G.marks_rows m);
    small = λ r x m h.
        let p = one_of_eight [] s.watermark G.marks_eight m in
        let q = one_of_eight 0 r (eqb-true (length r) 8 (all_in (λ y. eqb (length y) 8) s.watermark G.marks_rows m)) h in
        let here : x ≡ mark s.watermark p.0 q.0 = q.2 ∙ ap (λ (l : List ℕ). get_or l (q.0.0 - 1) 0) p.2 in
        omega (arith, here, G.marks_range p.0 q.0 p.1 q.1);
  }

  dots_sized : (ls : List Listed) → length ls ≤ most_listed → ((l : Listed) → l ∈ ls → l ∈ listed s) → DotsSized ls
  dots_sized ls few inside = record { few = few; each = λ l m. one l (G.lists l (inside l m)).formed }
    where
      one : (l : Listed) → listed_formed s.table l ≡ true → EntrySized l
      one l e =
          let bs = is_key l.key ∷ is_controller l.dot.who ∷ holds s.table l.dot.who l.key.job ∷ is_counter l.dot.count ∷ [] in
          let t : every bs ≡ true = unfold listed_formed in e in
          record {
            who = omega (arith, (crew_is l.dot.who (clause bs t 1)).1);
            count = counter_sized l.dot.count (clause bs t 3);
            job = (key_sized l.key (clause bs t 0)).0;
            point = (key_sized l.key (clause bs t 0)).1;
          }

  table_sized : (length s.table ≡ 8) × ((b : ℕ) → b ∈ s.table → b < 256)
  table_sized =
      let t : (eqb (length s.table) 8 && all? (λ b. ltb b 256) s.table) ≡ true = unfold is_table in G.table_good in (
        eqb-true (length s.table) 8 (and_left (eqb (length s.table) 8) (all? (λ b. ltb b 256) s.table) t),
        λ b m. ltb-true b 256 (all_in (λ x. ltb x 256) s.table (and_right (eqb (length s.table) 8) (all? (λ x. ltb x 256) s.table) t) m),
      )

  pub good_sized : Sized s
  good_sized = record {
    head = record {
      own = omega (arith, G.own_crew.1);
      table_eight = table_sized.0;
      table_bytes = table_sized.1;
      clock = clock_sized s.clock G.clock_eight G.row_sound;
      marks = marks_sized;
    };
    own = dots_sized s.own_dots G.own_few (λ l m. in_left s.own_dots s.foreign_dots m);
    foreign = dots_sized s.foreign_dots G.foreign_few (λ l m. in_right s.own_dots s.foreign_dots m);
    few = G.points_few;
    points = λ p m. stored_sized s.table p (G.points p m).formed;
  }

-- ---- messages

formed_clock_sized : (k : Clock) → FormedClock k → ClockSized k
formed_clock_sized k F = clock_sized k F.eight (λ n c. (F.row_fits n c, F.row_sound n c))

pub outgoing_sized : (t : CrewTable) (m : Outgoing) → outgoing_formed t m ≡ true → PointSized form_1 m
outgoing_sized t m e = let F = formed_outgoing t m e in point_sized t m (omega (arith, F.sender.1)) (point_facts t m.key m.object F.point)

pub ask_sized : (t : CrewTable) (a : Ask) → ask_formed t a ≡ true → AskSized a
ask_sized t a e = let F = formed_ask t a e in record { small = (omega (arith, F.sender.1), omega (arith, F.addressee.1)); clock = formed_clock_sized a.clock F.clock }

pub reply_sized : (t : CrewTable) (r : Reply) → reply_formed t r ≡ true → ReplySized r
reply_sized t r e =
    let F = formed_reply t r e in
    record {
      small = (omega (arith, F.sender.1), omega (arith, F.addressee.1));
      clock = formed_clock_sized r.clock F.clock;
      points = λ p m. stored_sized t p (point_facts t p.key p.object (F.point p m));
    }
