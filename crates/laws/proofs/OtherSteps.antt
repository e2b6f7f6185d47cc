-- The states that storing does not make: a fresh one, one after a strip pass, and one whose watermark and lists a repair has tidied.
-- Each is good. Assumes nothing.
use Rattle.std.specs.Prelude.{if◌then◌else◌}
use Prim.Native.Nat.{ℕ, ◌-◌, ◌≤◌, max}
use mathlib.Core.Path.{◌≡◌, refl, sym, ap, ◌∙◌, subst}
use mathlib.Core.Logic.{⊎_elim}
use mathlib.Core.Bool.{Bool, true, false, ◌&&◌, not}
use mathlib.Core.List.Memᴰ
use mathlib.Core.List.{List, [], ◌++◌}
use native.Mathlib.Omega.{arith}
use native.Mathlib.Nat.{le_trans}
use lib.ListN.{length, get_or}
use Rattle.numbers.specs.declared.Controller.{Controller}
use Rattle.numbers.specs.Words.{keep, fold}
use Rattle.numbers.specs.Numbers.{last_counter, is_controller, same_controller, each}
use Rattle.numbers.proofs.Tests.{by_test, never, and_left, and_right, and_both, or_inl, ◌∈◌}
use Rattle.numbers.proofs.Lists.{in_left, in_right, in_keep}
use Rattle.numbers.proofs.Controllers.{Crew, crew_is, at_each, same_controllers, controller_itself}
use Rattle.numbers.proofs.Orders.{keep_ascends, keep_length, no_longer}
use Rattle.numbers.proofs.Dots.{keys_tied}
use Rattle.refusal.specs.declared.Refusal.TheVariants.{OutOfRange}
use Rattle.refusal.specs.Refusal.{accepted}
use Rattle.row.specs.declared.Row.{Row}
use Rattle.row.specs.Row.{none_seen, digits, highest, fits, sound}
use Rattle.row.proofs.Highest.{sound_base}
use Rattle.meaning.specs.CrewTable.{CrewTable, is_table, share_job}
use Rattle.meaning.specs.Clock.{row}
use Rattle.meaning.specs.Object.{Version, strip, gone}
use Rattle.meaning.specs.State.{Stored, stored_before, Listed, listed_before, mark, State, peers, own_base, listed}
use Rattle.meaning.specs.Message.{Reply}
use Rattle.meaning.specs.Settle.{put}
use Rattle.meaning.specs.OwnSteps.{fresh, start, strip_pass}
use Rattle.meaning.specs.Exchange.{raised, known_to_all, tidied}
use Rattle.laws.proofs.Goodness.{RecordFacts, Good}
use Rattle.laws.proofs.Entering.{row_each}
use Rattle.laws.proofs.Putting.{stored_order, From, stays, comes, put_all_ascends, in_put_all}
use Rattle.laws.proofs.Settling.{strip_record}
use Rattle.laws.proofs.Answers.{passes_not, same_accepted}

-- one number for each pair of controllers
pub mark_each : (f : Controller → Controller → ℕ) (m n : Controller) → Crew m → Crew n → mark (each (λ a. each (f a))) m n ≡ f m n
mark_each f m n x y = ap (λ (r : List ℕ). get_or r (n.0 - 1) 0) (at_each (λ a. each (f a)) [] m x) ∙ at_each (f m) 0 n y

-- ---- start

module _ (n : Controller) (t : CrewTable) (crew : Crew n) (table : is_table t ≡ true) where
  none : (m : Controller) → Crew m → row (each (λ x. none_seen)) m ≡ none_seen
  none m c = row_each (λ x. none_seen) m c

  zero_mark : (a b : Controller) → Crew a → Crew b → mark (each (λ m. each (λ k. 0))) a b ≡ 0
  zero_mark a b x y = mark_each (λ m k. 0) a b x y

  pub fresh_good : Good (fresh n t)
  fresh_good = record {
    own_crew = crew;
    table_good = table;
    clock_eight = refl;
    marks_eight = refl;
    marks_rows = refl;
    own_few = omega arith;
    foreign_few = omega arith;
    points_few = omega arith;
    row_sound = λ m c. rw (none m c) (unfold fits sound highest digits in (refl, refl));
    own_whole = ap (λ (r : Row). r.bits) (none n crew);
    points_asc = refl;
    own_asc = refl;
    foreign_asc = refl;
    own_own = λ l m. absurd (Memᴰ.not-nil m);
    foreign_other = λ l m. absurd (Memᴰ.not-nil m);
    points = λ p m. absurd (Memᴰ.not-nil m);
    needed = λ p m. absurd (Memᴰ.not-nil m);
    lists = λ l m. absurd (Memᴰ.not-nil m);
    apart = λ p q v w mp. absurd (Memᴰ.not-nil mp);
    listed_apart = λ l p v ml. absurd (Memᴰ.not-nil ml);
    rows_peers = λ m c f. none m c;
    marks_range = λ a b x y. omega (arith, zero_mark a b x y);
    marks_peers = λ a b x y f. zero_mark a b x y;
    marks_own_row = λ b y. omega (arith, zero_mark n b crew y);
    marks_own_column = λ a x. omega (arith, zero_mark a n x crew);
  }

pub start_good : (n : Controller) (t : CrewTable) (s : State) → is_table t ≡ true → start n t ≡ accepted s → Good s
unfolding start
start_good n t s table e =
    let q = passes_not OutOfRange (is_controller n) _ e in
    subst (λ (x : State). Good x) (same_accepted (fresh n t) s q.1) (fresh_good n t (crew_is n q.0) table)

-- ---- strip pass

module _ (s : State) (G : Good s) where
  left : List Stored
  left = fold (put s.clock) s.points s.points

  -- a record after the pass is one from before it, stripped
  pub record Left (p : Stored) : Type 0 where
    pub was : Stored
    pub was_in : was ∈ s.points
    pub same_key : p.key ≡ was.key
    pub same_versions : p.object.versions ≡ was.object.versions
    pub facts : RecordFacts s.table s.own s.clock p
    pub needed : gone p.object ≡ false

  left_of : (p : Stored) → p ∈ left → Left p
  unfolding left
  left_of p m = go (in_put_all s.clock s.points s.points G.points_asc m)
    where
      go : From s.clock s.points s.points p → Left p
      go (stays h o) = record { was = p; was_in = h; same_key = refl; same_versions = refl; facts = G.points p h; needed = G.needed p h }
      go (comes r h e g) = record {
        was = r;
        was_in = h;
        same_key = ap (λ (x : Stored). x.key) e;
        same_versions = ap (λ (x : Stored). x.object.versions) e ∙ (unfold strip in refl);
        facts = subst (λ (x : Stored). RecordFacts s.table s.own s.clock x) (sym e) (strip_record s.table s.own G.own_crew s.clock r (G.points r h));
        needed = subst (λ (x : Stored). gone x.object ≡ false) (sym e) g;
      }

  left_in : (p : Stored) (m : p ∈ left) (v : Version) → v ∈ p.object.versions → v ∈ (left_of p m).was.object.versions
  left_in p m v h = subst (λ (vs : List Version). v ∈ vs) (left_of p m).same_versions h

  left_few : length left ≤ length s.points
  unfolding left
  left_few =
      no_longer stored_before stored_order (fold (put s.clock) s.points s.points) s.points (put_all_ascends s.clock s.points s.points G.points_asc) G.points_asc
      (λ p m. let q = left_of p m in (q.was, q.was_in, keys_tied p.key q.was.key q.same_key))

  pub strip_pass_good : Good (strip_pass s).state
  unfolding strip_pass left peers
  strip_pass_good = record {
    own_crew = G.own_crew;
    table_good = G.table_good;
    clock_eight = G.clock_eight;
    marks_eight = G.marks_eight;
    marks_rows = G.marks_rows;
    own_few = G.own_few;
    foreign_few = G.foreign_few;
    points_few = le_trans left_few G.points_few;
    row_sound = G.row_sound;
    own_whole = G.own_whole;
    points_asc = put_all_ascends s.clock s.points s.points G.points_asc;
    own_asc = G.own_asc;
    foreign_asc = G.foreign_asc;
    own_own = G.own_own;
    foreign_other = G.foreign_other;
    points = λ p m. (left_of p m).facts;
    needed = λ p m. (left_of p m).needed;
    lists = G.lists;
    apart = λ p q v w mp mq mv mw e.
        let a = left_of p mp in
        let b = left_of q mq in
        a.same_key ∙ G.apart a.was b.was v w a.was_in b.was_in (left_in p mp v mv) (left_in q mq w mw) e ∙ sym b.same_key;
    listed_apart = λ l p v ml mp mv e.
        let a = left_of p mp in
        G.listed_apart l a.was v ml a.was_in (left_in p mp v mv) e ∙ sym a.same_key;
    rows_peers = G.rows_peers;
    marks_range = G.marks_range;
    marks_peers = G.marks_peers;
    marks_own_row = G.marks_own_row;
    marks_own_column = G.marks_own_column;
  }

-- ---- the watermark raised and the lists tidied

module _ (s : State) (r : Reply) where
  abbrev pub raise : Controller → Controller → ℕ
  raise m n =
      if same_controller m r.sender && peers s s.own n then max (mark s.watermark m n) (row r.clock n).base
      else (if same_controller m s.own then max (mark s.watermark m n) (row s.clock n).base
      else mark s.watermark m n)

  pub raised_mark : (m n : Controller) → Crew m → Crew n → mark (raised s r) m n ≡ raise m n
  unfolding raised
  raised_mark m n x y = mark_each raise m n x y

module _ (s : State) (r : Reply) (G : Good s) (other : same_controller r.sender s.own ≡ false) (peer : peers s s.own r.sender ≡ true)
    (rows : (n : Controller) → Crew n → (row r.clock n).base ≤ last_counter) (about_us : (row r.clock s.own).base ≤ own_base s) where
  -- an entry is raised to the sender's base, to ours, or stays
  pub data Raised (m n : Controller) (x : ℕ) : Type 0 where
    theirs : m ≡ r.sender → peers s s.own n ≡ true → x ≡ max (mark s.watermark m n) (row r.clock n).base → Raised m n x
    ours : m ≡ s.own → x ≡ max (mark s.watermark m n) (row s.clock n).base → Raised m n x
    as_it_was : same_controller m s.own ≡ false → x ≡ mark s.watermark m n → Raised m n x

  raised_is : (m n : Controller) → Crew m → Crew n → Raised m n (mark (raised s r) m n)
  raised_is m n x y = rw (raised_mark s r m n x y)
      (by_test (same_controller m r.sender && peers s s.own n)
      (λ t. rw t (theirs (same_controllers m r.sender (and_left (same_controller m r.sender) (peers s s.own n) t)) (and_right (same_controller m r.sender) (peers s s.own n) t) refl))
      (λ t. by_test (same_controller m s.own) (λ u. rw (t, u) (ours (same_controllers m s.own u) refl)) (λ u. rw (t, u) (as_it_was u refl))))

  range : (m n : Controller) → Crew m → Crew n → {x : ℕ} → Raised m n x → x ≤ last_counter
  range m n a b (theirs e p q) = omega (arith, G.marks_range m n a b, rows n b)
  range m n a b (ours e q) = omega (arith, G.marks_range m n a b, sound_base (row s.clock n) (G.row_sound n b).1)
  range m n a b (as_it_was f q) = omega (arith, G.marks_range m n a b)

  own_peer : peers s s.own s.own ≡ true
  unfolding peers
  own_peer = or_inl (same_controller s.own s.own) (share_job s.table s.own s.own) (controller_itself s.own)

  of_peers : (m n : Controller) → Crew m → Crew n → (peers s s.own m && peers s s.own n) ≡ false → {x : ℕ} → Raised m n x → x ≡ 0
  of_peers m n a b f (theirs e p q) =
      never (and_both (peers s s.own m) (peers s s.own n) (subst (λ (z : Controller). peers s s.own z ≡ true) (sym e) peer) p) f
  of_peers m n a b f (ours e q) =
      by_test (peers s s.own n)
      (λ t. never (and_both (peers s s.own m) (peers s s.own n) (subst (λ (z : Controller). peers s s.own z ≡ true) (sym e) own_peer) t) f)
      (λ t. omega (arith, q, G.marks_peers m n a b f, ap (λ (z : Row). z.base) (G.rows_peers n b t)))
  of_peers m n a b f (as_it_was g q) = q ∙ G.marks_peers m n a b f

  own_marks : (n : Controller) → Crew n → {x : ℕ} → Raised s.own n x → x ≤ (row s.clock n).base
  own_marks n b (theirs e p q) = never (subst (λ (z : Controller). same_controller z s.own ≡ true) e (controller_itself s.own)) other
  own_marks n b (ours e q) = omega (arith, q, G.marks_own_row n b)
  own_marks n b (as_it_was f q) = never (controller_itself s.own) f

  own_column : (m : Controller) → Crew m → {x : ℕ} → Raised m s.own x → x ≤ own_base s
  own_column m a (theirs e p q) = omega (arith, q, G.marks_own_column m a, about_us)
  own_column m a (ours e q) = omega (arith, q, G.marks_own_column m a)
  own_column m a (as_it_was f q) = omega (arith, q, G.marks_own_column m a)

  -- what is left in the lists was in them
  still_listed : (f : Listed → Bool) {l : Listed} → l ∈ keep f s.own_dots ++ keep f s.foreign_dots → l ∈ listed s
  still_listed f m =
      ⊎_elim (λ h. in_left s.own_dots s.foreign_dots (in_keep f s.own_dots h).0) (λ h. in_right s.own_dots s.foreign_dots (in_keep f s.foreign_dots h).0)
      (Memᴰ.append_cases (keep f s.own_dots) m)

  pub tidied_good : Good (tidied s r)
  unfolding tidied peers
  tidied_good =
      let stay : Listed → Bool = λ l. not (known_to_all s (raised s r) l) in
      record {
        own_crew = G.own_crew;
        table_good = G.table_good;
        clock_eight = G.clock_eight;
        marks_eight = unfold raised in refl;
        marks_rows = unfold raised in refl;
        own_few = le_trans (keep_length listed_before stay s.own_dots) G.own_few;
        foreign_few = le_trans (keep_length listed_before stay s.foreign_dots) G.foreign_few;
        points_few = G.points_few;
        row_sound = G.row_sound;
        own_whole = G.own_whole;
        points_asc = G.points_asc;
        own_asc = keep_ascends listed_before stay s.own_dots G.own_asc;
        foreign_asc = keep_ascends listed_before stay s.foreign_dots G.foreign_asc;
        own_own = λ l m. G.own_own l (in_keep stay s.own_dots m).0;
        foreign_other = λ l m. G.foreign_other l (in_keep stay s.foreign_dots m).0;
        points = G.points;
        needed = G.needed;
        lists = λ l m. G.lists l (still_listed stay m);
        apart = G.apart;
        listed_apart = λ l p v ml. G.listed_apart l p v (still_listed stay ml);
        rows_peers = G.rows_peers;
        marks_range = λ m n a b. range m n a b (raised_is m n a b);
        marks_peers = λ m n a b f. of_peers m n a b f (raised_is m n a b);
        marks_own_row = λ n b. own_marks n b (raised_is s.own n G.own_crew b);
        marks_own_column = λ m a. own_column m a (raised_is m s.own a G.own_crew);
      }
