-- The clock and the filled contexts of a controller only rise along a run. Assumes nothing.
use Prim.Native.Nat.{◌≤◌}
use mathlib.Core.Path.{◌≡◌, refl, sym, ap, ◌∙◌, subst}
use mathlib.Core.Logic.{◌⊎◌, ⊎_elim}
use mathlib.Core.Bool.{true, false}
use mathlib.Core.List.Memᴰ
use mathlib.Core.List.{List, [], ◌∷◌}
use native.Mathlib.Omega.{arith}
use native.Mathlib.Nat.{le_refl, le_trans}
use Rattle.numbers.specs.declared.Controller.{Controller}
use Rattle.numbers.specs.declared.Key.{Key}
use Rattle.numbers.specs.Words.{map, fold}
use Rattle.numbers.specs.Numbers.{same_controller}
use Rattle.numbers.proofs.Tests.{by_test, ◌∈◌, here, there}
use Rattle.numbers.proofs.Lists.{in_map}
use Rattle.numbers.proofs.Controllers.{same_controllers}
use Rattle.numbers.specs.Key.{same_key}
use Rattle.meaning.specs.CrewTable.{CrewTable, is_table, holds}
use Rattle.meaning.specs.Clock.{Clock, row, with_row}
use Rattle.meaning.specs.Context.{Context, entry, fill_context}
use Rattle.meaning.specs.Object.{Contents, value, deleted, Object, fill, merge}
use Rattle.meaning.specs.State.{Stored, State, look_up, local}
use Rattle.meaning.specs.Message.{Outgoing, Reply, Ask}
use Rattle.meaning.specs.Settle.{entered, put, settled}
use Rattle.meaning.specs.OwnSteps.{fresh, written, Done, strip_pass}
use Rattle.meaning.specs.Exchange.{tidied, mended}
use Rattle.meaning.specs.Write.{Write}
use Rattle.laws.proofs.ContextLaws.{Within, Rising, Named, fill_named, fill_monotone, higher_named}
use Rattle.laws.proofs.MergeLaws.{higher_within}
use Rattle.laws.proofs.Goodness.{Good}
use Rattle.laws.proofs.Entering.{entered_base}
use Rattle.laws.proofs.Settling.{Growing}
use Rattle.laws.proofs.Local.{local_facts}
use Rattle.laws.proofs.StaysGood.{TakenIn, taken_in}
use Rattle.crew.specs.Moment.{Sent, Moment, for, starting, seeing, made, writing, asking, replying, brings, reply_brings}
use Rattle.crew.specs.Run as run
use Rattle.crew.specs.Run.{Next, Later, Reached, now, ◌then◌}
use Rattle.crew.proofs.Right.{Writes, History}
use Rattle.crew.proofs.Looking.{kept, Distinct, ascending_distinct, look_others, look_result, find}
use Rattle.crew.proofs.Knows.{Between, fill_up, kept_between, fill_between, local_named}
use Rattle.crew.proofs.Wrote.{written_own, written_other}
use Rattle.crew.proofs.Repaired.{with_row_rising, Mended, repaired, distinct_mended}
use Rattle.crew.proofs.Stripped.{between_through, look_stripped}
use Rattle.crew.proofs.Steps.{for_each}
use Rattle.crew.proofs.Sound.{Sound, history, start_is, Wrote, wrote, deleted_is, sound, next_sound}
use Rattle.crew.proofs.Stripping.{named}
use Rattle.crew.proofs.Invariant.{In, Inv}
use Rattle.crew.proofs.Calls.{take_in_stepped}
use Rattle.crew.proofs.Mending.{repair_stepped}
use Rattle.crew.proofs.Putting.{write_stepped}
use Rattle.crew.proofs.Held.{invariant_in, invariant}
use Rattle.crew.proofs.Again.{later_on}

-- ---- one step

-- the filled context of every point only rises
abbrev pub LocalRises : State → State → Type 0
LocalRises s x = (k : Key) → Within (local s k).context (local x k).context

local_is : (s : State) (k : Key) → (local s k).context ≡ fill_context s.table k.job s.clock (look_up k s.points).context
unfolding local fill
local_is s k = refl

-- storing results that are nowhere below what was there
module _ (s : State) (c : Clock) (rs : List Stored) (up : Rising s.clock c) (distinct : Distinct rs)
    (each : (r : Stored) → r ∈ rs → Within (local s r.key).context r.object.context)
    (holders : (r : Stored) → r ∈ rs → Named s.table r.key.job r.object.context) where
  abbrev after : Clock
  after = entered c rs

  settled_is : (k : Key) → (local (settled s c rs) k).context ≡ fill_context s.table k.job after (look_up k (fold (put after) s.points rs)).context
  unfolding settled local fill
  settled_is k = refl

  -- what was to be stored is covered
  pub result_within : (r : Stored) → r ∈ rs → Within r.object.context (local (settled s c rs) r.key).context
  result_within r m n q =
      subst (λ (x : Context). (entry r.object.context n).0 ≤ (entry x n).0)
      (sym (settled_is r.key ∙ ap (λ (o : Object). fill_context s.table r.key.job after o.context) (look_result after s.points rs distinct r m)))
      (fill_up s.table r.key.job after r.object.context (kept after r.object).context (holders r m) (kept_between after r.object) n q)

  of_result : (r : Stored) → r ∈ rs → Within (local s r.key).context (local (settled s c rs) r.key).context
  of_result r m n q = le_trans (each r m n q) (result_within r m n q)

  of_other : (k : Key) → ((r : Stored) → r ∈ rs → same_key k r.key ≡ false) → Within (local s k).context (local (settled s c rs) k).context
  of_other k away n q =
      subst (λ (x : Context). (entry (local s k).context n).0 ≤ (entry x n).0)
      (sym (settled_is k ∙ ap (λ (o : Object). fill_context s.table k.job after o.context) (look_others k after s.points rs away)))
      (subst (λ (x : Context). (entry x n).0 ≤ (entry (fill_context s.table k.job after (look_up k s.points).context) n).0) (sym (local_is s k))
      (fill_monotone s.table k.job s.clock after (look_up k s.points).context (look_up k s.points).context (λ m d. le_trans (up m d) (entered_base c rs m d)) (λ m d. le_refl (entry (look_up k s.points).context m).0) n q))

  pub settled_rises : LocalRises s (settled s c rs)
  settled_rises k =
      ⊎_elim (λ f. subst (λ (z : Key). Within (local s z).context (local (settled s c rs) z).context) (sym f.2) (of_result f.0 f.1)) (of_other k) (find k rs)

tidied_rises : (s x : State) (r : Reply) → LocalRises s x → LocalRises s (tidied x r)
unfolding tidied local
tidied_rises s x r h = h

strip_rises : (s : State) → Good s → LocalRises s (strip_pass s).state
strip_rises s G k n q = ⊎_elim (λ e. go (kept s.clock x) e (through (kept_between s.clock x))) (λ e. go x e between) (look_stripped s (ascending_distinct s.points G.points_asc) k)
  where
    x : Object
    x = look_up k s.points

    full : Context
    full = fill_context s.table k.job s.clock x.context

    between : Between s.clock full x.context
    between = unfold fill in (fill_between s.table k.job s.clock s.clock x (λ m r. le_refl (row s.clock m).base))

    through : Between s.clock x.context (kept s.clock x).context → Between s.clock full (kept s.clock x).context
    through b = between_through s.clock full x.context (kept s.clock x).context between b

    strip_is : (y : Object) → look_up k (fold (put s.clock) s.points s.points) ≡ y → (local (strip_pass s).state k).context ≡ fill_context s.table k.job s.clock y.context
    strip_is y e = unfold strip_pass local fill in (ap (λ (o : Object). fill_context s.table k.job s.clock o.context) e)

    go : (y : Object) → look_up k (fold (put s.clock) s.points s.points) ≡ y → Between s.clock full y.context → (entry (local s k).context n).0 ≤ (entry (local (strip_pass s).state k).context n).0
    go y e mid =
        subst (λ (z : Context). (entry (local s k).context n).0 ≤ (entry z n).0) (sym (strip_is y e))
        (subst (λ (z : Context). (entry z n).0 ≤ (entry (fill_context s.table k.job s.clock y.context) n).0) (sym (local_is s k))
        (fill_up s.table k.job s.clock full y.context (fill_named s.table k.job s.clock x.context (named s G k)) mid n q))

-- ---- a step of a run

pub record Ahead (M N : Moment) : Type 0 where
  pub contexts : (n : Controller) → LocalRises (M.state n) (N.state n)
  pub clocks : (n : Controller) → Growing (M.state n).clock (N.state n).clock

rises_itself : (s : State) → LocalRises s s
rises_itself s k n q = le_refl (entry (local s k).context n).0

pub stands_still : (M N : Moment) → ((n : Controller) → M.state n ≡ N.state n) → Ahead M N
stands_still M N e = record {
  contexts = λ n. subst (λ (z : State). LocalRises (M.state n) z) (e n) (rises_itself (M.state n));
  clocks = λ n. subst (λ (z : State). Growing (M.state n).clock z.clock) (e n) (λ d c h. h);
}

moved : (M : Moment) (n : Controller) (x : State) → LocalRises (M.state n) x → Growing (M.state n).clock x.clock → (N : Moment) → N.state ≡ for n x M.state → Ahead M N
moved M n x up more N e = record {
  contexts = λ m. subst (λ (f : Controller → State). LocalRises (M.state m) (f m)) (sym e) (for_each (λ j z. LocalRises (M.state j) z) n x M.state up (λ j f. rises_itself (M.state j)) m);
  clocks = λ m. subst (λ (f : Controller → State). Growing (M.state m).clock (f m).clock) (sym e) (for_each (λ j z. Growing (M.state j).clock z.clock) n x M.state more (λ j f d c h. h) m);
}

seeing_state : (M : Moment) (n : Controller) (x : State) (ws : List Write) → (seeing M n x ws).state ≡ for n x M.state
unfolding seeing
seeing_state M n x ws = refl

module _ (t : CrewTable) (ok : is_table t ≡ true) (M : Moment) (reached : Reached t M) (n : Controller) (on : M.started n ≡ true) where
  S : Sound t M
  S = sound t ok M reached

  I : Inv t (In M.writes) M
  I = invariant t ok M reached

  H : History t (In M.writes)
  H = history t M S

  abbrev s : State
  s = M.state n

  G : Good s
  G = S.good n (S.crew n on)

  local_holders : (k : Key) → Named s.table k.job (local s k).context
  local_holders k = local_named (In M.writes) (In (M.seen n)) s (I.knows n) k

  only_one : (r : Stored) → Distinct (r ∷ [])
  only_one r = ((λ q z. absurd (Memᴰ.not-nil z)), tt)

  take_in_ahead : (m : Sent Outgoing) → m ∈ M.outgoings → (x : State) → TakenIn s m.message x → Ahead M (seeing M n x (brings m))
  take_in_ahead m h x A =
      moved M n x
      (subst (λ (z : State). LocalRises s z) A.state
      (settled_rises s s.clock (item ∷ []) (λ j c. le_refl (row s.clock j).base) (only_one item)
      (λ r q. subst (λ (z : Stored). Within (local s z.key).context z.object.context) (sym (Memᴰ.eq_of_singleton q)) (unfold merge in (higher_within (local s k).context m.message.object.context)))
      (λ r q. subst (λ (z : Stored). Named s.table z.key.job z.object.context) (sym (Memᴰ.eq_of_singleton q))
      (unfold merge in (higher_named s.table k.job (local s k).context m.message.object.context (local_holders k)
      (subst (λ (z : CrewTable). Named z k.job m.message.object.context) (sym (S.table n)) (I.outgoings m h).named))))))
      (take_in_stepped t (In M.writes) H M S I n on m (I.outgoings m h) x A).growing (seeing M n x (brings m)) (seeing_state M n x (brings m))
    where
      k : Key
      k = m.message.key

      item : Stored
      item = record { key = k; object = merge (local s k) m.message.object }

  -- a repair's results are nowhere below what was there, and name holders only
  pub mended_each : (r : Reply) (q : Stored) → q ∈ map (mended s r) r.points → Within (local s q.key).context q.object.context
  mended_each r q m =
      let y = in_map (mended s r) r.points m in
      subst (λ (z : Stored). Within (local s z.key).context z.object.context) (sym y.2) (lifted y.0)
    where
      lifted : (p : Stored) → Within (local s (mended s r p).key).context (mended s r p).object.context
      lifted p = unfold mended merge in (higher_within (local s p.key).context (fill s.table p.key.job r.clock p.object).context)

  pub mended_holders : (r : Sent Reply) → r ∈ M.replies → (q : Stored) → q ∈ map (mended s r.message) r.message.points → Named s.table q.key.job q.object.context
  mended_holders r h q m =
      let y = in_map (mended s r.message) r.message.points m in
      subst (λ (z : Stored). Named s.table z.key.job z.object.context) (sym y.2) (held y.0 y.1)
    where
      held : (p : Stored) → p ∈ r.message.points → Named s.table (mended s r.message p).key.job (mended s r.message p).object.context
      held p mp = unfold mended merge fill in
          (higher_named s.table p.key.job (local s p.key).context (fill_context s.table p.key.job r.message.clock p.object.context) (local_holders p.key)
          (fill_named s.table p.key.job r.message.clock p.object.context
          (subst (λ (z : CrewTable). Named z p.key.job p.object.context) (sym (S.table n)) ((I.replies r h).told.named p mp))))

  repair_ahead : (r : Sent Reply) → r ∈ M.replies → (x : State) → Mended s r.message x → Ahead M (seeing M n x (reply_brings r))
  repair_ahead r h x A =
      moved M n x
      (subst (λ (z : State). LocalRises s z) A.state
      (tidied_rises s (settled s united rs) r.message
      (settled_rises s united rs (with_row_rising s.clock r.message.sender (row r.message.clock r.message.sender))
      (distinct_mended s r.message r.message.points (I.replies r h).told.distinct) (mended_each r.message) (mended_holders r h))))
      (repair_stepped t (In M.writes) H M S I n on r (I.replies r h) x A).growing (seeing M n x (reply_brings r)) (seeing_state M n x (reply_brings r))
    where
      united : Clock
      united = with_row s.clock r.message.sender (row r.message.clock r.message.sender)

      rs : List Stored
      rs = map (mended s r.message) r.message.points

  -- a write raises the own entry, and leaves the others
  written_within : (k : Key) (b : Contents) (c : Context) → holds s.table s.own k.job ≡ true → Within (local s k).context (written s k b c).context
  written_within k b c held j r =
      by_test (same_controller j s.own)
      (λ e. subst (λ (z : Controller). (entry (local s k).context z).0 ≤ (entry (written s k b c).context z).0) (sym (same_controllers j s.own e))
      (omega (arith, written_own s k b c G.own_crew, (local_facts s G k held).object.own_entry)))
      (λ f. omega (arith, written_other s k b c j r f))

  write_ahead : (k : Key) (b : Contents) (c : Context) (d : Done) → Wrote s k b c d → Sound t (writing M n (made s k b c) d) → Ahead M (writing M n (made s k b c) d)
  write_ahead k b c d W SN =
      moved M n d.state
      (subst (λ (z : State). LocalRises s z) W.put.state
      (settled_rises s s.clock (item ∷ []) (λ j q. le_refl (row s.clock j).base) (only_one item)
      (λ r q. subst (λ (z : Stored). Within (local s z.key).context z.object.context) (sym (Memᴰ.eq_of_singleton q)) (written_within k b c W.held))
      (λ r q. subst (λ (z : Stored). Named s.table z.key.job z.object.context) (sym (Memᴰ.eq_of_singleton q)) (W.fits.fit.context item (here refl)).named)))
      (write_stepped t All K M S (invariant_in t ok All K M (λ w h. unfold writing in (there h)) reached) n on k b c d W new).growing
      (writing M n (made s k b c) d) (unfold writing in refl)
    where
      item : Stored
      item = record { key = k; object = written s k b c }

      All : Writes
      All = In (writing M n (made s k b c) d).writes

      K : History t All
      K = history t (writing M n (made s k b c) d) SN

      new : All (made s k b c)
      new = unfold writing in (here refl)

  strip_ahead : Ahead M (seeing M n (strip_pass s).state [])
  strip_ahead = moved M n (strip_pass s).state (strip_rises s G) (λ d c h. unfold strip_pass in h) (seeing M n (strip_pass s).state []) (seeing_state M n (strip_pass s).state [])

-- ---- along a run

ask_state : (M : Moment) (a : Ask) (n : Controller) → M.state n ≡ (asking M a).state n
unfolding asking
ask_state M a n = refl

reply_state : (M : Moment) (m : Controller) (r : Reply) (n : Controller) → M.state n ≡ (replying M m r).state n
unfolding replying
reply_state M m r n = refl

start_ahead : (t : CrewTable) (M : Moment) → Sound t M → (n : Controller) (s : State) → M.started n ≡ false → fresh n t ≡ s → Ahead M (starting M n s)
start_ahead t M S n s off e =
    let same = (S.idle n off).0 ∙ e in
    moved M n s (subst (λ (z : State). LocalRises (M.state n) z) same (rises_itself (M.state n))) (subst (λ (z : State). Growing (M.state n).clock z.clock) same (λ d c h. h)) (starting M n s) (unfold starting in refl)

next_ahead : (t : CrewTable) → is_table t ≡ true → {M N : Moment} → Reached t M → Next t M N → Ahead M N
next_ahead t ok {M} r (run.starts n s off e) = start_ahead t M (sound t ok M r) n s off (start_is t n s e).1
next_ahead t ok {M} r run.refuses = stands_still M M (λ n. refl)
next_ahead t ok {M} r (run.reads n on k o e) = stands_still M M (λ n. refl)
next_ahead t ok {M} r (run.writes n on k v c d bytes e) =
    let S = sound t ok M r in
    write_ahead t ok M r n on k (value v) c d (wrote (M.state n) k v c d (S.good n (S.crew n on)) bytes e) (next_sound t ok S (run.writes n on k v c d bytes e))
next_ahead t ok {M} r (run.deletes n on k c d e) =
    let S = sound t ok M r in
    write_ahead t ok M r n on k deleted c d (deleted_is (M.state n) k c d (S.good n (S.crew n on)) e) (next_sound t ok S (run.deletes n on k c d e))
next_ahead t ok {M} r (run.takes_in n on m h s e) = take_in_ahead t ok M r n on m h s (taken_in (M.state n) m.message s e)
next_ahead t ok {M} r (run.asks n on to a e) = stands_still M (asking M a) (ask_state M a)
next_ahead t ok {M} r (run.replies n on a h x e) = stands_still M (replying M n x.message) (reply_state M n x.message)
next_ahead t ok {M} r (run.repairs n on m h s e) = repair_ahead t ok M r n on m h s (repaired (M.state n) m.message s e)
next_ahead t ok {M} r (run.strips n on) = strip_ahead t ok M r n on

pub later_ahead : (t : CrewTable) → is_table t ≡ true → {M N : Moment} → Reached t M → Later t M N → Ahead M N
later_ahead t ok {M} r now = stands_still M M (λ n. refl)
later_ahead t ok r (l then e) =
    let A = later_ahead t ok r l in
    let B = next_ahead t ok (later_on t r l) e in
    record {
      contexts = λ n k j c. le_trans (A.contexts n k j c) (B.contexts n k j c);
      clocks = λ n d c h. B.clocks n d c (A.clocks n d c h);
    }
