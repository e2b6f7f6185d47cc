-- A message taken in again changes no reading: neither its versions nor its context. Assumes nothing.
use Prim.Native.Nat.{ℕ, ◌≤◌, max}
use mathlib.Core.Path.{◌≡◌, refl, sym, ap, ◌∙◌, subst}
use mathlib.Core.Logic.{inl, ◌↔◌, ⊎_elim}
use mathlib.Core.Bool.{true, false, ◌&&◌, not}
use mathlib.Core.List.Memᴰ
use mathlib.Core.List.{List, [], ◌∷◌}
use native.Mathlib.Omega.{arith}
use native.Mathlib.Nat.{le_refl, le_trans}
use lib.ListN.{length}
use Rattle.numbers.specs.declared.Controller.{Controller}
use Rattle.numbers.specs.declared.Counter.{Counter}
use Rattle.numbers.specs.declared.Dot.{Dot}
use Rattle.numbers.specs.declared.Key.{Key}
use Rattle.numbers.specs.Words.{fold, keep}
use Rattle.numbers.specs.Numbers.{counter, is_counter, same_controller, each}
use Rattle.numbers.specs.Key.{is_key, same_key}
use Rattle.numbers.proofs.Tests.{by_test, never, or_cases, not-true, ◌∈◌, here}
use Rattle.numbers.proofs.Controllers.{Crew, each_same, each_entry, same_controllers}
use Rattle.numbers.proofs.Dots.{dot_path}
use Rattle.refusal.specs.declared.Refusal.TheVariants.{OutOfRange}
use Rattle.refusal.specs.Refusal.{accepted, refuse◌when◌else◌}
use Rattle.row.specs.declared.Row.{Row}
use Rattle.row.specs.Row.{has, unite}
use Rattle.row.proofs.Members.{has_positive, row_determined, Clear}
use Rattle.row.proofs.Adding.{add_all_clear}
use Rattle.row.proofs.Uniting.{unite_has, unite_clear}
use Rattle.row.proofs.Highest.{sound_clear, sound_has, is_a_counter}
use Rattle.meaning.specs.CrewTable.{CrewTable, is_table, holds}
use Rattle.meaning.specs.Clock.{Clock, row, in_clock, with_row}
use Rattle.meaning.specs.Context.{Context, entry, covers, fill_context, higher}
use Rattle.meaning.specs.Object.{Version, Object, has_dot, fill, merge, has_value}
use Rattle.meaning.specs.State.{Stored, Listed, State, look_up, local, dots_of}
use Rattle.meaning.specs.Message.{Outgoing}
use Rattle.meaning.specs.Settle.{entered, put, settled}
use Rattle.meaning.specs.OwnSteps.{ours, shown, read}
use Rattle.laws.proofs.ContextLaws.{same_counter, Within, Named, covers_within, fill_twice, higher_named}
use Rattle.laws.proofs.MergeLaws.{has_dot_of, in_survivors, in_merge, higher_within, higher_within', merge_from}
use Rattle.laws.proofs.Facts.{in_dots}
use Rattle.laws.proofs.Goodness.{Good}
use Rattle.laws.proofs.Entering.{united_row, entered_row, entered_eight, counts, in_counts, entered_has, same_clocks}
use Rattle.laws.proofs.Local.{LocalFacts, local_facts}
use Rattle.laws.proofs.StaysGood.{TakenIn, taken_in}
use Rattle.laws.proofs.Merging.{Carried}
use Rattle.crew.specs.Moment.{Sent, Moment, seeing, brings}
use Rattle.crew.specs.Run as run
use Rattle.crew.specs.Run.{Reached, ◌then◌}
use Rattle.crew.specs.Demand.{AgainShowsTheSame}
use Rattle.crew.proofs.Looking.{kept, Distinct, look_others, look_result, find}
use Rattle.crew.proofs.Knows.{local_named}
use Rattle.crew.proofs.Steps.{Steps, take_in_steps, for_at}
use Rattle.crew.proofs.Sound.{Sound, sound}
use Rattle.crew.proofs.Stripping.{kept_shows}
use Rattle.crew.proofs.Invariant.{In, Inv}
use Rattle.crew.proofs.Held.{invariant}
use Rattle.crew.proofs.Again.{later_on, Keeps, later_keeps, shown_the_same, brought_before}
use Rattle.crew.proofs.Rising.{result_within, later_ahead}

-- ---- a clock that gets nothing new

module _ (s : State) (G : Good s) where
  clear : (n : Controller) → Crew n → Clear (row s.clock n)
  clear n c = sound_clear (row s.clock n) (G.row_sound n c).1

  known_counter : (d : Dot) → Crew d.who → in_clock s.clock d ≡ true → is_counter d.count ≡ true
  unfolding in_clock
  known_counter d c h = is_a_counter d.count (has_positive (row s.clock d.who) d.count h) (sound_has (row s.clock d.who) d.count (G.row_sound d.who c).1 h)

  -- dots that are in the clock leave it as it is
  module _ (rs : List Stored) (crew : (l : Listed) → l ∈ dots_of rs → Crew l.dot.who) (known : (l : Listed) → l ∈ dots_of rs → in_clock s.clock l.dot ≡ true) where
    counted : (l : Listed) → l ∈ dots_of rs → is_counter l.dot.count ≡ true
    counted l m = known_counter l.dot (crew l m) (known l m)

    same_has : (n : Controller) → Crew n → (x : Counter) → (has (row (entered s.clock rs) n) x ≡ true) ↔ (has (row s.clock n) x ≡ true)
    same_has n c x =
        let law = entered_has s.clock rs counted (record { who = n; count = x }) c in
        unfold in_clock in (
          λ h. ⊎_elim (λ q. q)
              (λ q.
              let l = in_counts n (dots_of rs) q in
              subst (λ (d : Dot). has (row s.clock d.who) d.count ≡ true) (dot_path l.0.dot (record { who = n; count = x }) (ap (λ (z : Controller). z.0) l.2, ap (λ (z : Counter). z.0) l.3)) (known l.0 l.1))
              (law.0 h),
          λ h. law.1 (inl h),
        )

    entered_clear : (n : Controller) → Crew n → Clear (row (entered s.clock rs) n)
    entered_clear n c = subst (λ (r : Row). Clear r) (sym (entered_row s.clock rs n c)) (add_all_clear (row s.clock n) (counts n (dots_of rs)) (clear n c))

    pub entered_same : entered s.clock rs ≡ s.clock
    entered_same =
        same_clocks (entered s.clock rs) s.clock (entered_eight s.clock rs G.clock_eight) G.clock_eight
        (λ n c. row_determined (row (entered s.clock rs) n) (row s.clock n) (entered_clear n c) (clear n c) (same_has n c))

  -- nor does a row of which every counter is there
  pub united_same : (m : Controller) (r : Row) → ((x : Counter) → has r x ≡ true → has (row s.clock m) x ≡ true) → with_row s.clock m r ≡ s.clock
  united_same m r all = same_clocks (with_row s.clock m r) s.clock (unfold with_row in refl) G.clock_eight same_row
    where
      joined : (n : Controller) → Crew n → same_controller n m ≡ true → unite (row s.clock n) r ≡ row s.clock n
      joined n c t =
          row_determined (unite (row s.clock n) r) (row s.clock n) (unite_clear (row s.clock n) r) (clear n c)
          (λ x. (
            λ h. ⊎_elim (λ q. q) (λ q. subst (λ (z : Controller). has (row s.clock z) x ≡ true) (sym (same_controllers n m t)) (all x q)) ((unite_has (row s.clock n) r x).0 h),
            λ h. (unite_has (row s.clock n) r x).1 (inl h),
          ))

      same_row : (n : Controller) → Crew n → row (with_row s.clock m r) n ≡ row s.clock n
      same_row n c = united_row s.clock m r n c ∙ by_test (same_controller n m) (λ t. rw t (joined n c t)) (λ t. rw t)

-- ---- an object that brings nothing new

pub higher_same : (a b : Context) → length a ≡ 8 → Within b a → higher a b ≡ a
unfolding higher
higher_same a b eight low =
    each_same (λ n. counter (max (entry a n).0 (entry b n).0)) (entry a) (λ n r. same_counter _ (entry a n) (omega (arith, low n r))) ∙ each_entry (counter 0) a eight

-- a merge with an object whose context is nowhere above the local one has only dots that are known
pub merged_known : (s : State) (k : Key) (a b : Object) → ((v : Version) → v ∈ a.versions → in_clock s.clock v.dot ≡ true) → ((v : Version) → v ∈ b.versions → covers b.context v.dot ≡ true)
    → ((v : Version) → v ∈ b.versions → Crew v.dot.who) → Within b.context a.context → (v : Version) → v ∈ (merge a b).versions → in_clock s.clock v.dot ≡ true
merged_known s k a b known covered crew low v m =
    ⊎_elim (λ h. known v (in_survivors a b h).0)
    (λ h.
    let q = in_survivors b a h in
    let c = covers_within b.context a.context v.dot low (crew v q.0) (covered v q.0) in
    ⊎_elim
    (λ t. let u = has_dot_of a.versions v.dot t in subst (λ (d : Dot). in_clock s.clock d ≡ true) u.2 (known u.0 u.1))
    (λ t. never c (not-true (covers a.context v.dot) t))
    (or_cases (has_dot a.versions v.dot) (not (covers a.context v.dot)) q.1))
    (in_merge a b m)

-- ---- storing what adds nothing

kept_context : (t : CrewTable) (j : ℕ) (c : Clock) (o : Object) → Named t j o.context → fill_context t j c (kept c o).context ≡ fill_context t j c o.context
unfolding shown fill
kept_context t j c o named = ap (λ (z : Object). z.context) (kept_shows t j c o named)

module _ (s : State) (c : Clock) (rs : List Stored) (distinct : Distinct rs) (same_clock : entered c rs ≡ s.clock)
    (holders : (r : Stored) → r ∈ rs → Named s.table r.key.job r.object.context)
    (same : (r : Stored) → r ∈ rs → r.object.context ≡ (local s r.key).context) where
  abbrev after : Clock
  after = entered c rs

  settled_is : (k : Key) (o : Object) → look_up k (fold (put after) s.points rs) ≡ o → (local (settled s c rs) k).context ≡ fill_context s.table k.job after o.context
  settled_is k o e = unfold settled local fill in (ap (λ (z : Object). fill_context s.table k.job after z.context) e)

  local_is : (k : Key) → (local s k).context ≡ fill_context s.table k.job s.clock (look_up k s.points).context
  unfolding local fill
  local_is k = refl

  of_result : (r : Stored) → r ∈ rs → (local (settled s c rs) r.key).context ≡ (local s r.key).context
  of_result r m =
      let k = r.key in
      settled_is k (kept after r.object) (look_result after s.points rs distinct r m)
      ∙ kept_context s.table k.job after r.object (holders r m)
      ∙ ap (λ (z : Clock). fill_context s.table k.job z r.object.context) same_clock
      ∙ ap (fill_context s.table k.job s.clock) (same r m ∙ local_is k)
      ∙ fill_twice s.table k.job s.clock (look_up k s.points).context
      ∙ sym (local_is k)

  of_other : (k : Key) → ((r : Stored) → r ∈ rs → same_key k r.key ≡ false) → (local (settled s c rs) k).context ≡ (local s k).context
  of_other k away =
      settled_is k (look_up k s.points) (look_others k after s.points rs away)
      ∙ ap (λ (z : Clock). fill_context s.table k.job z (look_up k s.points).context) same_clock
      ∙ sym (local_is k)

  other_versions : (k : Key) → ((r : Stored) → r ∈ rs → same_key k r.key ≡ false) → (local (settled s c rs) k).versions ≡ (local s k).versions
  unfolding settled local fill
  other_versions k away = ap (λ (o : Object). o.versions) (look_others k after s.points rs away)

  shown_path : (a b : Object) → (shown a).versions ≡ (shown b).versions → a.context ≡ b.context → shown a ≡ shown b
  unfolding shown
  shown_path a b p q i = record { versions = p i; context = q i }

  pub stored_shows : ((r : Stored) → r ∈ rs → (shown (local (settled s c rs) r.key)).versions ≡ (shown (local s r.key)).versions) → (k : Key) → shown (local (settled s c rs) k) ≡ shown (local s k)
  stored_shows vs k =
      ⊎_elim
      (λ f. subst (λ (z : Key). shown (local (settled s c rs) z) ≡ shown (local s z)) (sym f.2)
      (shown_path (local (settled s c rs) f.0.key) (local s f.0.key) (vs f.0 f.1) (of_result f.0 f.1)))
      (λ away. shown_path (local (settled s c rs) k) (local s k) (other_shown (other_versions k away)) (of_other k away)) (find k rs)
    where
      other_shown : (local (settled s c rs) k).versions ≡ (local s k).versions → (shown (local (settled s c rs) k)).versions ≡ (shown (local s k)).versions
      other_shown e = unfold shown in (ap (keep (λ v. has_value v.contents)) e)

pub read_same : (s x : State) → Steps s x → (k : Key) → shown (local x k) ≡ shown (local s k) → read x k ≡ read s k
unfolding read ours
read_same s x D k e i =
    refuse OutOfRange when not (is_key k && holds (D.table i) (D.own i) k.job) else
    accepted (record { sender = D.own i; key = k; object = e i })

-- ---- a message taken in again

-- once taken in, the message's context is within the filled one
module _ (t : CrewTable) (ok : is_table t ≡ true) (M : Moment) (r : Reached t M) (n : Controller) (on : M.started n ≡ true) (m : Sent Outgoing) (mm : m ∈ M.outgoings) where
  I : Inv t (In M.writes) M
  I = invariant t ok M r

  S : Sound t M
  S = sound t ok M r

  abbrev s : State
  s = M.state n

  abbrev k : Key
  k = m.message.key

  abbrev item : Stored
  item = record { key = k; object = merge (local s k) m.message.object }

  item_named : Named s.table k.job item.object.context
  unfolding merge
  item_named =
      higher_named s.table k.job (local s k).context m.message.object.context (local_named (In M.writes) (In (M.seen n)) s (I.knows n) k)
      (subst (λ (z : CrewTable). Named z k.job m.message.object.context) (sym (S.table n)) (I.outgoings m mm).named)

  of_item : (P : Stored → Type 0) → P item → (q : Stored) → q ∈ item ∷ [] → P q
  of_item P p q h = subst P (sym (Memᴰ.eq_of_singleton h)) p

  one_item : Distinct (item ∷ [])
  one_item = ((λ q z. absurd (Memᴰ.not-nil z)), tt)

  pub taken_within : (x : State) → TakenIn s m.message x → Within m.message.object.context (local x k).context
  taken_within x A j c =
      le_trans (merged j c)
      (subst (λ (z : State). (entry item.object.context j).0 ≤ (entry (local z k).context j).0) A.state
      (result_within s s.clock (item ∷ []) (λ i d. le_refl (row s.clock i).base) one_item
      (of_item (λ q. Within (local s q.key).context q.object.context) (unfold merge in (higher_within (local s k).context m.message.object.context)))
      (of_item (λ q. Named s.table q.key.job q.object.context) item_named) item (here refl) j c))
    where
      merged : Within m.message.object.context item.object.context
      merged = unfold merge in (higher_within' (local s k).context m.message.object.context)

  -- where it is within already, taking it in shows the same
  module _ (low : Within m.message.object.context (local s k).context) (x : State) (A : TakenIn s m.message x)
      (vs : (shown (local x k)).versions ≡ (shown (local s k)).versions) where
    G : Good s
    G = S.good n (S.crew n on)

    L : LocalFacts s k (local s k)
    L = local_facts s G k A.held

    F : Carried s k m.message.object
    F = A.carried

    version_of_dot : (l : Listed) → l ∈ dots_of (item ∷ []) → (v : Version) × (v ∈ item.object.versions) × (v.dot ≡ l.dot)
    version_of_dot l h =
        let q = in_dots (item ∷ []) h in
        (q.version, subst (λ (z : Stored). q.version ∈ z.object.versions) (Memᴰ.eq_of_singleton q.point_in) q.version_in, ap (λ (z : Listed). z.dot) (sym q.same))

    known : (l : Listed) → l ∈ dots_of (item ∷ []) → in_clock s.clock l.dot ≡ true
    known l h =
        let q = version_of_dot l h in
        subst (λ (d : Dot). in_clock s.clock d ≡ true) q.2
        (merged_known s k (local s k) m.message.object L.known F.object.covered (λ v g. (F.object.versions.each v g).crew) low q.0 q.1)

    crew : (l : Listed) → l ∈ dots_of (item ∷ []) → Crew l.dot.who
    crew l h =
        let q = version_of_dot l h in
        subst (λ (d : Dot). Crew d.who) q.2
        (⊎_elim (λ g. (L.object.versions.each q.0 g).crew) (λ g. (F.object.versions.each q.0 g).crew) (merge_from (local s k) m.message.object q.1))

    same_context : item.object.context ≡ (local s k).context
    unfolding merge
    same_context = higher_same (local s k).context m.message.object.context L.object.context.eight low

    pub taken_shows : (j : Key) → read x j ≡ read s j
    taken_shows j =
        read_same s x (take_in_steps s m.message x A) j
        (subst (λ (z : State). shown (local z j) ≡ shown (local s j)) A.state
        (stored_shows s s.clock (item ∷ []) one_item (entered_same s G (item ∷ []) crew known)
        (of_item (λ q. Named s.table q.key.job q.object.context) item_named)
        (of_item (λ q. q.object.context ≡ (local s q.key).context) same_context)
        (of_item (λ q. (shown (local (settled s s.clock (item ∷ [])) q.key)).versions ≡ (shown (local s q.key)).versions)
        (subst (λ (z : State). (shown (local z k)).versions ≡ (shown (local s k)).versions) (sym A.state) vs)) j))

pub again_shows_the_same : AgainShowsTheSame
unfolding AgainShowsTheSame
again_shows_the_same t ok M N r n on m mm s e l x f =
    taken_shows t ok N reached n on_now m there low x A (shown_the_same t ok N reached n on_now x (brings m) (run.takes_in n on_now m there x f) (take_in_steps (N.state n) m.message x A) (brought_before t ok M N n s (brings m) SB l) m.message.key A.held)
  where
    B : Moment
    B = seeing M n s (brings m)

    first : Reached t B
    first = r then run.takes_in n on m mm s e

    SB : Sound t B
    SB = sound t ok B first

    K : Keeps B N
    K = later_keeps t ok SB l

    reached : Reached t N
    reached = later_on t first l

    on_now : N.started n ≡ true
    on_now = K.started n (unfold seeing in on)

    there : m ∈ N.outgoings
    there = K.outgoings m (unfold seeing in mm)

    A : TakenIn (N.state n) m.message x
    A = taken_in (N.state n) m.message x f

    state_then : B.state n ≡ s
    state_then = unfold seeing in (for_at n s M.state)

    low : Within m.message.object.context (local (N.state n) m.message.key).context
    low j c =
        le_trans (taken_within t ok M r n on m mm s (taken_in (M.state n) m.message s e) j c)
        (subst (λ (z : State). (entry (local z m.message.key).context j).0 ≤ (entry (local (N.state n) m.message.key).context j).0) state_then ((later_ahead t ok first l).contexts n m.message.key j c))
