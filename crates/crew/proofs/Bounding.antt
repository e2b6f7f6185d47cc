-- Every call keeps the bounds that refusals 9 and 10 ask for. Assumes nothing.
use Prim.Native.Nat.{◌+◌, ◌≤◌}
use mathlib.Core.Path.{◌≡◌, refl, sym, ap, ◌∙◌, subst}
use mathlib.Core.Logic.{◌⊎◌, ⊎_elim}
use mathlib.Core.Bool.{true, not}
use mathlib.Core.List.Memᴰ
use mathlib.Core.List.{List, [], ◌∷◌}
use native.Mathlib.Omega.{arith}
use native.Mathlib.Nat.{le_refl}
use Rattle.numbers.specs.declared.Controller.{Controller}
use Rattle.numbers.specs.declared.Key.{Key}
use Rattle.numbers.specs.Words.{keep, map}
use Rattle.numbers.specs.Numbers.{same_controller}
use Rattle.numbers.proofs.Tests.{by_test, ◌∈◌, here, there}
use Rattle.numbers.proofs.Lists.{in_keep, in_map, in_place}
use Rattle.numbers.proofs.Controllers.{Crew, same_controllers}
use Rattle.refusal.specs.Refusal.{accepted}
use Rattle.row.specs.Row.{has}
use Rattle.meaning.specs.CrewTable.{CrewTable, is_table}
use Rattle.meaning.specs.Clock.{Clock, row, in_clock, with_row}
use Rattle.meaning.specs.Context.{Context, entry, covers}
use Rattle.meaning.specs.Object.{Contents, value, deleted, Version, version_before, fill, merge}
use Rattle.meaning.specs.State.{Stored, Listed, State, own_base, dots_of, local}
use Rattle.meaning.specs.Message.{Outgoing, Ask, Reply}
use Rattle.meaning.specs.Settle.{settled}
use Rattle.meaning.specs.OwnSteps.{next_dot, written, Done, strip_pass}
use Rattle.meaning.specs.Exchange.{ask, as_stored, Replied, reply, mended}
use Rattle.meaning.specs.Write.{Write}
use Rattle.laws.proofs.Goodness.{Good}
use Rattle.laws.proofs.Facts.{in_dots}
use Rattle.laws.proofs.StaysGood.{TakenIn, taken_in}
use Rattle.crew.specs.Moment.{Sent, Moment, beginning, starting, seeing, made, writing, asking, replying, brings, reply_brings}
use Rattle.crew.specs.Run as run
use Rattle.crew.specs.Run.{Next, Reached, now, ◌then◌}
use Rattle.crew.proofs.Right.{◌∪◌, At, dot_of, History}
use Rattle.crew.proofs.Looking.{ascending_distinct}
use Rattle.crew.proofs.Storing.{dot_made}
use Rattle.crew.proofs.Wrote.{written_own, written_other}
use Rattle.crew.proofs.Repaired.{with_row_has, Brought, Mended, repaired, distinct_mended}
use Rattle.crew.proofs.Steps.{for_each, Steps, take_in_steps, repair_steps, strip_steps, for_at}
use Rattle.crew.proofs.Sound.{Sound, history, start_is, base_after, Wrote, wrote, deleted_is, wrote_steps, sound}
use Rattle.crew.proofs.Invariant.{In, Inv}
use Rattle.crew.proofs.Calls.{good, history_here, taken_right}
use Rattle.crew.proofs.Mending.{mended_right}
use Rattle.crew.proofs.Replying.{ask_is, keys, replied_to}
use Rattle.crew.proofs.Held.{invariant}
use Rattle.crew.proofs.Bounds.{ClockLow, ContextLow, Real, Low, ReplyLow, Bounded, Up, clock_up, context_up, low_up, reply_up, fill_low, local_low, merge_low, settled_low, tidied_low, strip_pass_low, fresh_low}

-- one state moves, and no message is written
seeing_bounded : (M : Moment) (n : Controller) (x : State) (ws : List Write) → Bounded M → Up M (seeing M n x ws) → Low (seeing M n x ws) x → Bounded (seeing M n x ws)
seeing_bounded M n x ws B U L = unfold seeing in record {
  states = for_each (λ m z. Low (seeing M n x ws) z) n x M.state L (λ m f. low_up M (seeing M n x ws) U (M.state m) (B.states m));
  outgoings = λ m h. context_up M (seeing M n x ws) U m.message.object.context (B.outgoings m h);
  asks = λ a h. clock_up M (seeing M n x ws) U a.clock (B.asks a h);
  replies = λ r h. reply_up M (seeing M n x ws) U r.message (B.replies r h);
}

starting_bounded : (M : Moment) (n : Controller) (x : State) → Bounded M → M.state n ≡ x → Up M (starting M n x) → Bounded (starting M n x)
starting_bounded M n x B e U = unfold starting in record {
  states = for_each (λ m z. Low (starting M n x) z) n x M.state (subst (λ (z : State). Low (starting M n x) z) e (low_up M (starting M n x) U (M.state n) (B.states n)))
      (λ m f. low_up M (starting M n x) U (M.state m) (B.states m));
  outgoings = λ m h. context_up M (starting M n x) U m.message.object.context (B.outgoings m h);
  asks = λ a h. clock_up M (starting M n x) U a.clock (B.asks a h);
  replies = λ r h. reply_up M (starting M n x) U r.message (B.replies r h);
}

listed_path : (l : Listed) (w : Write) → w.dot ≡ l.dot → w.key ≡ l.key → l ≡ record { dot = w.dot; key = w.key }
listed_path l w p q i = record { dot = sym p i; key = sym q i }

-- ---- take in, repair, strip pass

module _ (t : CrewTable) (ok : is_table t ≡ true) (M : Moment) (reached : Reached t M) (B : Bounded M) (n : Controller) (on : M.started n ≡ true) where
  S : Sound t M
  S = sound t ok M reached

  I : Inv t (In M.writes) M
  I = invariant t ok M reached

  H : History t (In M.writes)
  H = history t M S

  abbrev s : State
  s = M.state n

  up : (x : State) (ws : List Write) → Steps s x → Good x → Up M (seeing M n x ws)
  unfolding seeing
  up x ws D G = record { bases = base_after t M S n x D G; writes = λ w h. h }

  good_then : (x : State) (ws : List Write) → Sound t (seeing M n x ws) → Good x
  unfolding seeing
  good_then x ws SN = subst (λ (z : State). Good z) (for_at n x M.state) (SN.good n (S.crew n on))

  pub take_in_bounded : (m : Sent Outgoing) → m ∈ M.outgoings → (x : State) → TakenIn s m.message x → Sound t (seeing M n x (brings m)) → Bounded (seeing M n x (brings m))
  take_in_bounded m h x A SN = seeing_bounded M n x (brings m) B U (subst (λ (z : State). Low N z) A.state low)
    where
      N : Moment
      N = seeing M n x (brings m)

      U : Up M N
      U = up x (brings m) (take_in_steps s m.message x A) (good_then x (brings m) SN)

      k : Key
      k = m.message.key

      rs : List Stored
      rs = record { key = k; object = merge (local s k) m.message.object } ∷ []

      here_low : Low N s
      here_low = low_up M N U s (B.states n)

      real : (l : Listed) → l ∈ dots_of rs → Real N l
      real l q =
          let p = dot_made s.table (In M.writes) (In (M.seen n) ∪ At (In m.seen) k) (history_here t (In M.writes) H M S I n on) rs
          (taken_right t (In M.writes) H M S I n on m (I.outgoings m h) x A) l q in
          (p.0, U.writes p.0 p.2, listed_path l p.0 p.3 p.4)

      low : Low N (settled s s.clock rs)
      low =
          settled_low t N SN s s.clock rs here_low here_low.clock (λ q z. absurd (Memᴰ.not-nil z), tt) real
          (λ r q. subst (λ (z : Stored). ContextLow N z.object.context) (sym (Memᴰ.eq_of_singleton q))
          (merge_low N (local s k) m.message.object (local_low N s here_low k) (context_up M N U m.message.object.context (B.outgoings m h))))

  pub repair_bounded : (r : Sent Reply) → r ∈ M.replies → (x : State) → Mended s r.message x → Sound t (seeing M n x (reply_brings r)) → Bounded (seeing M n x (reply_brings r))
  repair_bounded r h x A SN = seeing_bounded M n x (reply_brings r) B U (subst (λ (z : State). Low N z) A.state (tidied_low N (settled s united rs) r.message low))
    where
      N : Moment
      N = seeing M n x (reply_brings r)

      U : Up M N
      U = up x (reply_brings r) (repair_steps s r.message x A) (good_then x (reply_brings r) SN)

      united : Clock
      united = with_row s.clock r.message.sender (row r.message.clock r.message.sender)

      rs : List Stored
      rs = map (mended s r.message) r.message.points

      here_low : Low N s
      here_low = low_up M N U s (B.states n)

      told_low : ReplyLow N r.message
      told_low = reply_up M N U r.message (B.replies r h)

      united_low : ClockLow N united
      united_low d c q =
          ⊎_elim (here_low.clock d c)
          (λ (z : (d.who ≡ r.message.sender) × (has (row r.message.clock r.message.sender) d.count ≡ true)). told_low.clock d c (unfold in_clock in (subst (λ (y : Controller). has (row r.message.clock y) d.count ≡ true) (sym z.0) z.1)))
          (with_row_has s.clock r.message.sender (row r.message.clock r.message.sender) d c q)

      real : (l : Listed) → l ∈ dots_of rs → Real N l
      real l q =
          let p = dot_made s.table (In M.writes) (In (M.seen n) ∪ Brought (In r.seen) r.message) (history_here t (In M.writes) H M S I n on) rs
          (mended_right t (In M.writes) H M S I n on r (I.replies r h) x A) l q in
          (p.0, U.writes p.0 p.2, listed_path l p.0 p.3 p.4)

      mended_low : (p : Stored) → p ∈ r.message.points → ContextLow N (mended s r.message p).object.context
      mended_low p q =
          unfold mended in
          (merge_low N (local s p.key) (fill s.table p.key.job r.message.clock p.object) (local_low N s here_low p.key)
          (unfold fill in (fill_low N s.table p.key.job r.message.clock p.object.context told_low.clock (told_low.points p q))))

      low : Low N (settled s united rs)
      low =
          settled_low t N SN s united rs here_low united_low (distinct_mended s r.message r.message.points (I.replies r h).told.distinct) real
          (λ z q. let y = in_map (mended s r.message) r.message.points q in subst (λ (v : Stored). ContextLow N v.object.context) (sym y.2) (mended_low y.0 y.1))

  pub strip_bounded : Sound t (seeing M n (strip_pass s).state []) → Bounded (seeing M n (strip_pass s).state [])
  strip_bounded SN =
      let U = up (strip_pass s).state [] (strip_steps s) (good_then (strip_pass s).state [] SN) in
      seeing_bounded M n (strip_pass s).state [] B U
      (strip_pass_low (seeing M n (strip_pass s).state []) s (ascending_distinct s.points (S.good n (S.crew n on)).points_asc) (low_up M (seeing M n (strip_pass s).state []) U s (B.states n)))

  -- ---- write and delete

  pub writing_bounded : (k : Key) (b : Contents) (c : Context) (d : Done) → Wrote s k b c d → Sound t (writing M n (made s k b c) d) → Bounded (writing M n (made s k b c) d)
  writing_bounded k b c d W SN = whole
    where
      w : Write
      w = made s k b c

      N : Moment
      N = writing M n w d

      U : Up M N
      U = unfold writing in record { bases = base_after t M S n d.state (wrote_steps s k b c d W) W.good; writes = λ z h. there h }

      rs : List Stored
      rs = record { key = k; object = written s k b c } ∷ []

      here_low : Low N s
      here_low = low_up M N U s (B.states n)

      w_in : w ∈ N.writes
      w_in = unfold writing in (here refl)

      -- a version that was there is a write's
      old_real : (v : Version) → v ∈ (local s k).versions → (z : Write) × (z ∈ N.writes) × (z.dot ≡ v.dot) × (z.key ≡ k)
      old_real v m =
          let p = ((I.knows n).right k W.held).honest v m in
          (p.0, U.writes p.0 (I.seen_made n p.0 p.1.0), dot_of p.0 v p.2, p.1.1)

      made_dot : w.dot ≡ next_dot s
      made_dot = unfold made in refl

      made_key : w.key ≡ k
      made_key = unfold made in refl

      of_version : (v : Version) → v ∈ (written s k b c).versions → (z : Write) × (z ∈ N.writes) × (z.dot ≡ v.dot) × (z.key ≡ k)
      of_version v m =
          ⊎_elim (λ e. (w, w_in, made_dot ∙ ap (λ (y : Version). y.dot) (sym e), made_key))
          (λ q. old_real v (in_keep (λ y. not (covers c y.dot)) (local s k).versions q).0) (parts m)
        where
          parts : v ∈ (written s k b c).versions → (v ≡ record { dot = next_dot s; contents = b }) ⊎ (v ∈ keep (λ y. not (covers c y.dot)) (local s k).versions)
          parts h = unfold written in (in_place version_before (record { dot = next_dot s; contents = b }) (keep (λ y. not (covers c y.dot)) (local s k).versions) h)

      real : (l : Listed) → l ∈ dots_of rs → Real N l
      real l q =
          let p = in_dots rs q in
          let only = Memᴰ.eq_of_singleton p.point_in in
          let z = of_version p.version (subst (λ (y : Stored). p.version ∈ y.object.versions) only p.version_in) in
          (z.0, z.1, listed_path l z.0 (z.2 ∙ ap (λ (y : Listed). y.dot) (sym p.same)) (z.3 ∙ ap (λ (y : Stored). y.key) (sym only) ∙ ap (λ (y : Listed). y.key) (sym p.same)))

      -- the new counter is the own base
      new_low : own_base s + 1 ≤ own_base (N.state s.own)
      new_low = unfold made next_dot in (SN.made (made s k b c) w_in).low

      written_low : ContextLow N (written s k b c).context
      written_low j r =
          by_test (same_controller j s.own)
          (λ e. subst (λ (z : Controller). (entry (written s k b c).context z).0 ≤ own_base (N.state z)) (sym (same_controllers j s.own e))
          (omega (arith, written_own s k b c (S.good n (S.crew n on)).own_crew, new_low)))
          (λ f. omega (arith, written_other s k b c j r f, local_low N s here_low k j r))

      low : Low N d.state
      low =
          subst (λ (z : State). Low N z) W.put.state
          (settled_low t N SN s s.clock rs here_low here_low.clock (λ q z. absurd (Memᴰ.not-nil z), tt) real
          (λ r q. subst (λ (z : Stored). ContextLow N z.object.context) (sym (Memᴰ.eq_of_singleton q)) written_low))

      message_low : ContextLow N d.message.object.context
      message_low = subst (λ (z : Outgoing). ContextLow N z.object.context) W.put.message written_low

      whole : Bounded N
      whole = unfold writing in record {
        states = for_each (λ m z. Low N z) n d.state M.state low (λ m f. low_up M N U (M.state m) (B.states m));
        outgoings = λ m h. ⊎_elim (λ e. subst (λ (z : Sent Outgoing). ContextLow N z.message.object.context) (sym e) message_low)
            (λ q. context_up M N U m.message.object.context (B.outgoings m q)) (Memᴰ.cases_cons h);
        asks = λ a h. clock_up M N U a.clock (B.asks a h);
        replies = λ r h. reply_up M N U r.message (B.replies r h);
      }

-- ---- ask and reply

asking_bounded : (M : Moment) → Bounded M → (n to : Controller) (a : Ask) → ask (M.state n) to ≡ accepted a → Bounded (asking M a)
unfolding asking
asking_bounded M B n to a e = record {
  states = λ m. record { clock = (B.states m).clock; stored = (B.states m).stored; lists = (B.states m).lists };
  outgoings = B.outgoings;
  asks = λ z h. ⊎_elim (λ f. subst (λ (y : Ask). ClockLow M y.clock) (sym f) (subst (λ (c : Clock). ClockLow M c) (sym (ask_is (M.state n) to a e).1) (B.states n).clock)) (B.asks z) (Memᴰ.cases_cons h);
  replies = λ r h. record { clock = (B.replies r h).clock; points = (B.replies r h).points };
}

reply_low : (M : Moment) → Bounded M → (n : Controller) (a : Ask) (r : Replied) → reply (M.state n) a ≡ accepted r → ReplyLow M r.message
reply_low M B n a r e =
    subst (λ (z : Reply). ReplyLow M z) (replied_to (M.state n) a r e).message
    (record {
      clock = (B.states n).clock;
      points = λ p h. let q = in_map (as_stored (M.state n)) (keys (M.state n) a) h in
          subst (λ (z : Stored). ContextLow M z.object.context) (sym q.2) (unfold as_stored in ((B.states n).stored q.0));
    })

replying_bounded : (M : Moment) → Bounded M → (n : Controller) (a : Ask) (r : Replied) → reply (M.state n) a ≡ accepted r → Bounded (replying M n r.message)
unfolding replying
replying_bounded M B n a r e =
    let L = reply_low M B n a r e in
    record {
      states = λ m. record { clock = (B.states m).clock; stored = (B.states m).stored; lists = (B.states m).lists };
      outgoings = B.outgoings;
      asks = B.asks;
      replies = λ z h. ⊎_elim (λ f. subst (λ (y : Sent Reply). ReplyLow (replying M n r.message) y.message) (sym f) (record { clock = L.clock; points = L.points }))
          (λ q. record { clock = (B.replies z q).clock; points = (B.replies z q).points }) (Memᴰ.cases_cons h);
    }

-- ---- every moment

start_up : (t : CrewTable) (M : Moment) (n : Controller) (x : State) → M.state n ≡ x → Up M (starting M n x)
unfolding starting
start_up t M n x e = record {
  bases = for_each (λ m z. Crew m → own_base (M.state m) ≤ own_base z) n x M.state (λ c. subst (λ (z : State). own_base (M.state n) ≤ own_base z) e (le_refl (own_base (M.state n)))) (λ m f c. le_refl (own_base (M.state m)));
  writes = λ w h. h;
}

next_bounded : (t : CrewTable) → is_table t ≡ true → {M N : Moment} → Reached t M → Bounded M → Next t M N → Sound t N → Bounded N
next_bounded t ok {M} r B (run.starts n s off e) SN =
    let same = ((sound t ok M r).idle n off).0 ∙ (start_is t n s e).1 in
    starting_bounded M n s B same (start_up t M n s same)
next_bounded t ok r B run.refuses SN = B
next_bounded t ok r B (run.reads n on k o e) SN = B
next_bounded t ok {M} r B (run.writes n on k v c d bytes e) SN =
    let S = sound t ok M r in
    writing_bounded t ok M r B n on k (value v) c d (wrote (M.state n) k v c d (S.good n (S.crew n on)) bytes e) SN
next_bounded t ok {M} r B (run.deletes n on k c d e) SN =
    let S = sound t ok M r in
    writing_bounded t ok M r B n on k deleted c d (deleted_is (M.state n) k c d (S.good n (S.crew n on)) e) SN
next_bounded t ok {M} r B (run.takes_in n on m h s e) SN = take_in_bounded t ok M r B n on m h s (taken_in (M.state n) m.message s e) SN
next_bounded t ok {M} r B (run.asks n on to a e) SN = asking_bounded M B n to a e
next_bounded t ok {M} r B (run.replies n on a h x e) SN = replying_bounded M B n a x e
next_bounded t ok {M} r B (run.repairs n on m h s e) SN = repair_bounded t ok M r B n on m h s (repaired (M.state n) m.message s e) SN
next_bounded t ok {M} r B (run.strips n on) SN = strip_bounded t ok M r B n on SN

pub bounded : (t : CrewTable) → is_table t ≡ true → {M : Moment} → Reached t M → Bounded M
unfolding beginning
bounded t ok now = record {
  states = λ n. fresh_low (beginning t) n t;
  outgoings = λ m h. absurd (Memᴰ.not-nil h);
  asks = λ a h. absurd (Memᴰ.not-nil h);
  replies = λ r h. absurd (Memᴰ.not-nil h);
}
bounded t ok {M} (r then e) = next_bounded t ok r (bounded t ok r) e (sound t ok M (r then e))
