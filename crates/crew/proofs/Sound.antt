-- Every moment of a run is sound: its states are good ones of the crew's table, and a dot belongs to one write. Assumes nothing.
use Prim.Native.Nat.{ℕ, ◌+◌, ◌≤◌}
use mathlib.Core.Path.{◌≡◌, refl, sym, ap, ◌∙◌, subst}
use mathlib.Core.Logic.{⊎_elim}
use mathlib.Core.Bool.{true, false, true≢false}
use mathlib.Core.List.Memᴰ
use mathlib.Core.List.{List, []}
use native.Mathlib.Omega.{arith}
use native.Mathlib.Nat.{le_trans}
use lib.ListN.{length}
use lib.Dec.{ltb}
use Rattle.numbers.specs.declared.Controller.{Controller}
use Rattle.numbers.specs.declared.Dot.{Dot}
use Rattle.numbers.specs.declared.Key.{Key}
use Rattle.numbers.specs.Numbers.{counter, is_controller, is_counter, same_controller}
use Rattle.numbers.specs.Key.{is_key}
use Rattle.numbers.proofs.Tests.{by_test, never, ◌∈◌, here}
use Rattle.numbers.proofs.Controllers.{Crew, crew_is, same_controllers, controller_itself}
use Rattle.refusal.specs.declared.Refusal.TheVariants.{OutOfRange, ValueTooLong}
use Rattle.refusal.specs.Refusal.{Answer, accepted, ◌>>=◌}
use Rattle.row.proofs.Highest.{is_a_counter}
use Rattle.meaning.specs.CrewTable.{CrewTable, is_table, holds}
use Rattle.meaning.specs.Clock.{row}
use Rattle.meaning.specs.Context.{Context, entry}
use Rattle.meaning.specs.Object.{Contents, value, deleted}
use Rattle.meaning.specs.State.{State, own_base}
use Rattle.meaning.specs.Message.{longest_value, Ask, Reply}
use Rattle.meaning.specs.Settle.{settled}
use Rattle.meaning.specs.OwnSteps.{fresh, start, ours, next_dot, written, Done, put_down, write, delete, strip_pass}
use Rattle.meaning.specs.Step.{Step, step, writes, deletes, takes_in, repairs, strips}
use Rattle.meaning.specs.Write.{Write}
use Rattle.laws.proofs.Goodness.{Good, good_facts, facts_good}
use Rattle.laws.proofs.Answers.{same_accepted, passes, passes_not}
use Rattle.laws.proofs.OtherSteps.{fresh_good}
use Rattle.laws.proofs.StaysGood.{write_accepted, delete_accepted, stays_good, Typed, taken_in, ours_is}
use Rattle.laws.proofs.StaysGood as laws
use Rattle.crew.specs.Moment.{Moment, for, beginning, starting, seeing, made, writing, asking, replying}
use Rattle.crew.specs.Run as run
use Rattle.crew.specs.Run.{Next, Later, Reached, now, ◌then◌, Bytes}
use Rattle.crew.proofs.Right.{History}
use Rattle.crew.proofs.Wrote.{written_own, PutDown, put_down_is}
use Rattle.crew.proofs.Repaired.{repaired}
use Rattle.crew.proofs.Steps.{for_each, Steps, stays, own_base_rises, same_steps, take_in_steps, repair_steps, strip_steps}

-- a write that was made
pub record Made (t : CrewTable) (M : Moment) (w : Write) : Type 0 where
  pub crew : Crew w.dot.who
  pub holder : holds t w.dot.who w.key.job ≡ true
  pub counted : is_counter w.dot.count ≡ true
  pub low : w.dot.count.0 ≤ own_base (M.state w.dot.who)

pub record Sound (t : CrewTable) (M : Moment) : Type 0 where
  pub own : (n : Controller) → (M.state n).own ≡ n
  pub table : (n : Controller) → (M.state n).table ≡ t
  pub good : (n : Controller) → Crew n → Good (M.state n)
  pub crew : (n : Controller) → M.started n ≡ true → Crew n
  pub idle : (n : Controller) → M.started n ≡ false → (M.state n ≡ fresh n t) × (M.seen n ≡ [])
  pub made : (w : Write) → w ∈ M.writes → Made t M w
  pub one_each : (v w : Write) → v ∈ M.writes → w ∈ M.writes → v.dot ≡ w.dot → v ≡ w

pub history : (t : CrewTable) (M : Moment) → Sound t M → History t (λ w. w ∈ M.writes)
history t M S = record {
  by_crew = λ w m. (S.made w m).crew;
  counter = λ w m. (S.made w m).counted;
  holder = λ w m. (S.made w m).holder;
  one_each = S.one_each;
}

-- ---- controller n steps to the state s

module _ (t : CrewTable) (M : Moment) (S : Sound t M) (n : Controller) (s : State) (D : Steps (M.state n) s) (good : Good s) where
  abbrev after : Controller → State
  after = for n s M.state

  own_after : (m : Controller) → (after m).own ≡ m
  own_after = for_each (λ m z. z.own ≡ m) n s M.state (D.own ∙ S.own n) (λ m f. S.own m)

  table_after : (m : Controller) → (after m).table ≡ t
  table_after = for_each (λ m z. z.table ≡ t) n s M.state (D.table ∙ S.table n) (λ m f. S.table m)

  good_after : (m : Controller) → Crew m → Good (after m)
  good_after = for_each (λ m z. Crew m → Good z) n s M.state (λ c. good) (λ m f. S.good m)

  -- own bases only rise
  pub base_after : (m : Controller) → Crew m → own_base (M.state m) ≤ own_base (after m)
  base_after =
      for_each (λ m z. Crew m → own_base (M.state m) ≤ own_base z) n s M.state (λ c. own_base_rises (M.state n) s D (subst (λ (x : Controller). Crew x) (sym (S.own n)) c))
      (λ m f c. omega arith)

  low_after : (w : Write) → w ∈ M.writes → w.dot.count.0 ≤ own_base (after w.dot.who)
  low_after w m = le_trans (S.made w m).low (base_after w.dot.who (S.made w m).crew)

  -- what no call touches of a number that has not been started
  idle_after : M.started n ≡ true → (ws : List Write) (m : Controller) → M.started m ≡ false → (after m ≡ fresh m t) × (for n ws M.seen m ≡ [])
  unfolding for
  idle_after on ws m off =
      by_test (same_controller m n)
      (λ e. never (subst (λ (x : Controller). M.started x ≡ true) (sym (same_controllers m n e)) on) off)
      (λ e. rw e (S.idle m off))

  pub seeing_sound : M.started n ≡ true → (ws : List Write) → Sound t (seeing M n s ws)
  unfolding seeing
  seeing_sound on ws = record {
    own = own_after;
    table = table_after;
    good = good_after;
    crew = S.crew;
    idle = idle_after on _;
    made = λ w m. let W = S.made w m in record { crew = W.crew; holder = W.holder; counted = W.counted; low = low_after w m };
    one_each = S.one_each;
  }

-- ---- start

pub start_is : (t : CrewTable) (n : Controller) (s : State) → start n t ≡ accepted s → Crew n × (fresh n t ≡ s)
unfolding start
start_is t n s e = let q = passes_not OutOfRange (is_controller n) _ e in (crew_is n q.0, same_accepted (fresh n t) s q.1)

module _ (t : CrewTable) (ok : is_table t ≡ true) (M : Moment) (S : Sound t M) (n : Controller) (s : State) (off : M.started n ≡ false) (e : start n t ≡ accepted s) where
  same : M.state n ≡ s
  same = (S.idle n off).0 ∙ (start_is t n s e).1

  good_start : Good s
  good_start = subst (λ (x : State). Good x) (start_is t n s e).1 (fresh_good n t (start_is t n s e).0 ok)

  pub starting_sound : Sound t (starting M n s)
  unfolding starting
  starting_sound = record {
    own = own_after t M S n s (stays (M.state n) s same) good_start;
    table = table_after t M S n s (stays (M.state n) s same) good_start;
    good = good_after t M S n s (stays (M.state n) s same) good_start;
    crew = for_each (λ m b. b ≡ true → Crew m) n true M.started (λ h. (start_is t n s e).0) (λ m f. S.crew m);
    idle = λ m. not_started m;
    made = λ w m. let W = S.made w m in
        record { crew = W.crew; holder = W.holder; counted = W.counted; low = low_after t M S n s (stays (M.state n) s same) good_start w m };
    one_each = S.one_each;
  }
    where
      not_started : (m : Controller) → for n true M.started m ≡ false → (for n s M.state m ≡ fresh m t) × (for n [] M.seen m ≡ [])
      not_started m h =
          unfold for in
          (by_test (same_controller m n) (λ f. absurd (true≢false (rw f at h))) (λ f. rw f (S.idle m (rw f at h))))

-- ---- a write and a delete

-- what an accepted write has, whatever it says
pub record Wrote (s : State) (k : Key) (b : Contents) (c : Context) (d : Done) : Type 0 where
  pub key_good : is_key k ≡ true
  pub held : holds s.table s.own k.job ≡ true
  pub put : PutDown s k b c d
  pub fits : laws.PutDown s k b c d
  pub good : Good d.state

stepped : (s : State) (d : Step) (x : State) → Good s → Typed d → step s d ≡ accepted x → Good x
stepped s d x G ty e = good_facts x (stays_good s d x (facts_good s G) ty e)

write_parts : (s : State) (k : Key) (v : List ℕ) (c : Context) (d : Done) → write s k v c ≡ accepted d → (ours s k ≡ true) × (put_down s k (value v) c ≡ accepted d)
unfolding write
write_parts s k v c d e =
    let first = passes_not OutOfRange (ours s k) _ e in
    let second = passes ValueTooLong (ltb longest_value (length v)) _ first.1 in
    (first.0, second.1)

delete_parts : (s : State) (k : Key) (c : Context) (d : Done) → delete s k c ≡ accepted d → (ours s k ≡ true) × (put_down s k deleted c ≡ accepted d)
unfolding delete
delete_parts s k c d e = passes_not OutOfRange (ours s k) _ e

pub wrote : (s : State) (k : Key) (v : List ℕ) (c : Context) (d : Done) → Good s → Bytes v → write s k v c ≡ accepted d → Wrote s k (value v) c d
wrote s k v c d G bytes e = record {
  key_good = (ours_is s k parts.0).0;
  held = (ours_is s k parts.0).1;
  put = put_down_is s k (value v) c d parts.1;
  fits = write_accepted s k v c d G bytes e;
  good = stepped s (writes k v c) d.state G bytes (unfold step in (ap (λ (a : Answer Done). a >>= λ x. accepted x.state) e));
}
  where
    parts : (ours s k ≡ true) × (put_down s k (value v) c ≡ accepted d)
    parts = write_parts s k v c d e

pub deleted_is : (s : State) (k : Key) (c : Context) (d : Done) → Good s → delete s k c ≡ accepted d → Wrote s k deleted c d
deleted_is s k c d G e = record {
  key_good = (ours_is s k parts.0).0;
  held = (ours_is s k parts.0).1;
  put = put_down_is s k deleted c d parts.1;
  fits = delete_accepted s k c d G e;
  good = stepped s (deletes k c) d.state G tt (unfold step in (ap (λ (a : Answer Done). a >>= λ x. accepted x.state) e));
}
  where
    parts : (ours s k ≡ true) × (put_down s k deleted c ≡ accepted d)
    parts = delete_parts s k c d e

pub wrote_steps : (s : State) (k : Key) (b : Contents) (c : Context) (d : Done) → Wrote s k b c d → Steps s d.state
wrote_steps s k b c d W = same_steps s _ d.state W.put.state

module _ (t : CrewTable) (M : Moment) (S : Sound t M) (n : Controller) (on : M.started n ≡ true) (k : Key) (b : Contents) (c : Context) (d : Done)
    (W : Wrote (M.state n) k b c d) where
  abbrev s : State
  s = M.state n

  abbrev w : Write
  w = made s k b c

  pub made_who : w.dot.who ≡ n
  unfolding made next_dot
  made_who = S.own n

  made_count : w.dot.count.0 ≡ own_base s + 1
  unfolding made next_dot
  made_count = refl

  made_key : w.key ≡ k
  unfolding made
  made_key = refl

  D : Steps s d.state
  D = wrote_steps s k b c d W

  own_crew : Crew s.own
  own_crew = (S.good n (S.crew n on)).own_crew

  -- the own base has come to the new counter
  risen : own_base s + 1 ≤ own_base d.state
  risen =
      omega (
        arith,
        written_own s k b c own_crew,
        subst (λ (x : State). (entry (written s k b c).context s.own).0 ≤ (row x.clock x.own).base) W.put.state
            (unfold settled in (W.fits.fit.own_entry (record { key = k; object = written s k b c }) (here refl))),
      )

  abbrev after_write : Moment
  after_write = writing M n w d

  state_after : (m : Controller) → after_write.state m ≡ for n d.state M.state m
  unfolding writing
  state_after m = refl

  new_made : Made t after_write w
  new_made = record {
    crew = subst (λ (x : Controller). Crew x) (sym made_who) (S.crew n on);
    holder = subst (λ (x : Controller). holds t x w.key.job ≡ true) (sym made_who)
        (subst (λ (z : Key). holds t n z.job ≡ true) (sym made_key)
        (subst (λ (x : Controller). holds t x k.job ≡ true) (S.own n) (subst (λ (x : CrewTable). holds x s.own k.job ≡ true) (S.table n) W.held)));
    counted = is_a_counter w.dot.count (omega (arith, made_count)) (omega (arith, made_count, W.put.left));
    low = subst (λ (x : Controller). w.dot.count.0 ≤ own_base (after_write.state x)) (sym made_who)
        (rw (state_after n) (for_each (λ m z. m ≡ n → w.dot.count.0 ≤ own_base z) n d.state M.state
        (λ e. omega (arith, made_count, risen)) (λ m f e. never (rw e (controller_itself n)) f) n refl));
  }

  -- no write made before has the new dot
  new_dot : (v : Write) → v ∈ M.writes → v.dot ≡ w.dot → ⊥
  new_dot v m e =
      let F = S.made v m in
      let low = subst (λ (x : Controller). v.dot.count.0 ≤ own_base (M.state x)) (ap (λ (z : Dot). z.who) e ∙ made_who) F.low in
      omega (arith, low, made_count, ap (λ (z : Dot). z.count.0) e)

  pub writing_sound : Sound t (writing M n w d)
  unfolding writing
  writing_sound = record {
    own = own_after t M S n d.state D W.good;
    table = table_after t M S n d.state D W.good;
    good = good_after t M S n d.state D W.good;
    crew = S.crew;
    idle = idle_after t M S n d.state D W.good on _;
    made = λ v m. ⊎_elim (λ e. subst (λ (z : Write). Made t (writing M n w d) z) (sym e) new_made)
        (λ h. let F = S.made v h in record { crew = F.crew; holder = F.holder; counted = F.counted; low = low_after t M S n d.state D W.good v h })
        (Memᴰ.cases_cons m);
    one_each = λ u v mu mv e.
        ⊎_elim
        (λ a. ⊎_elim (λ b'. a ∙ sym b') (λ y. absurd (new_dot v y (sym e ∙ ap (λ (z : Write). z.dot) a))) (Memᴰ.cases_cons mv))
        (λ x. ⊎_elim (λ b'. absurd (new_dot u x (e ∙ ap (λ (z : Write). z.dot) b'))) (λ y. S.one_each u v x y e) (Memᴰ.cases_cons mv))
        (Memᴰ.cases_cons mu);
  }

-- ---- the other calls

asking_sound : (t : CrewTable) (M : Moment) (S : Sound t M) (a : Ask) → Sound t (asking M a)
unfolding asking
asking_sound t M S a = record {
  own = S.own;
  table = S.table;
  good = S.good;
  crew = S.crew;
  idle = S.idle;
  made = λ w m. let W = S.made w m in record { crew = W.crew; holder = W.holder; counted = W.counted; low = W.low };
  one_each = S.one_each;
}

replying_sound : (t : CrewTable) (M : Moment) (S : Sound t M) (n : Controller) (r : Reply) → Sound t (replying M n r)
unfolding replying
replying_sound t M S n r = record {
  own = S.own;
  table = S.table;
  good = S.good;
  crew = S.crew;
  idle = S.idle;
  made = λ w m. let W = S.made w m in record { crew = W.crew; holder = W.holder; counted = W.counted; low = W.low };
  one_each = S.one_each;
}

pub next_sound : (t : CrewTable) → is_table t ≡ true → {M N : Moment} → Sound t M → Next t M N → Sound t N
next_sound t ok {M} S (run.starts n s off e) = starting_sound t ok M S n s off e
next_sound t ok S run.refuses = S
next_sound t ok S (run.reads n on k o e) = S
next_sound t ok {M} S (run.writes n on k v c d bytes e) =
    writing_sound t M S n on k (value v) c d (wrote (M.state n) k v c d (S.good n (S.crew n on)) bytes e)
next_sound t ok {M} S (run.deletes n on k c d e) =
    writing_sound t M S n on k deleted c d (deleted_is (M.state n) k c d (S.good n (S.crew n on)) e)
next_sound t ok {M} S (run.takes_in n on m h s e) =
    seeing_sound t M S n s (take_in_steps (M.state n) m.message s (taken_in (M.state n) m.message s e))
    (stepped (M.state n) (takes_in m.message) s (S.good n (S.crew n on)) tt (unfold step in e)) on _
next_sound t ok {M} S (run.asks n on to a e) = asking_sound t M S a
next_sound t ok {M} S (run.replies n on a h r e) = replying_sound t M S n r.message
next_sound t ok {M} S (run.repairs n on r h s e) =
    seeing_sound t M S n s (repair_steps (M.state n) r.message s (repaired (M.state n) r.message s e))
    (stepped (M.state n) (repairs r.message) s (S.good n (S.crew n on)) tt (unfold step in e)) on _
next_sound t ok {M} S (run.strips n on) =
    seeing_sound t M S n (strip_pass (M.state n)).state (strip_steps (M.state n))
    (stepped (M.state n) strips (strip_pass (M.state n)).state (S.good n (S.crew n on)) tt (unfold step in refl)) on []

pub later_sound : (t : CrewTable) → is_table t ≡ true → {M N : Moment} → Sound t M → Later t M N → Sound t N
later_sound t ok S now = S
later_sound t ok S (r then e) = next_sound t ok (later_sound t ok S r) e

pub begins_sound : (t : CrewTable) → is_table t ≡ true → Sound t (beginning t)
unfolding beginning
begins_sound t ok = record {
  own = λ n. refl;
  table = λ n. refl;
  good = λ n c. fresh_good n t c ok;
  crew = λ n h. absurd (true≢false (sym h));
  idle = λ n h. (refl, refl);
  made = λ w m. absurd (Memᴰ.not-nil m);
  one_each = λ v w m. absurd (Memᴰ.not-nil m);
}

pub sound : (t : CrewTable) → is_table t ≡ true → (M : Moment) → Reached t M → Sound t M
sound t ok M r = later_sound t ok (begins_sound t ok) r
