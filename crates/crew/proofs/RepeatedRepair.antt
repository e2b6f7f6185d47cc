-- A reply repaired from again changes no reading: neither its versions nor its context. Assumes nothing.
use Prim.Native.Nat.{◌≤◌}
use mathlib.Core.Path.{◌≡◌, refl, sym, ap, ◌∙◌, subst}
use mathlib.Core.Logic.{⊎_elim}
use mathlib.Core.Bool.{true}
use mathlib.Core.List.{List}
use native.Mathlib.Nat.{le_trans}
use Rattle.numbers.specs.declared.Controller.{Controller}
use Rattle.numbers.specs.declared.Counter.{Counter}
use Rattle.numbers.specs.declared.Dot.{Dot}
use Rattle.numbers.specs.declared.Key.{Key}
use Rattle.numbers.specs.Words.{map}
use Rattle.numbers.specs.Numbers.{is_counter, each}
use Rattle.numbers.proofs.Tests.{◌∈◌}
use Rattle.numbers.proofs.Lists.{in_map, map_in}
use Rattle.numbers.proofs.Controllers.{Crew}
use Rattle.row.specs.Row.{has}
use Rattle.meaning.specs.CrewTable.{CrewTable, is_table}
use Rattle.meaning.specs.Clock.{Clock, row, in_clock, with_row}
use Rattle.meaning.specs.Context.{entry, covers, fill_context}
use Rattle.meaning.specs.Object.{Version, Object, fill, merge}
use Rattle.meaning.specs.State.{Stored, Listed, State, local, dots_of}
use Rattle.meaning.specs.Message.{Reply}
use Rattle.meaning.specs.Settle.{entered, settled}
use Rattle.meaning.specs.OwnSteps.{shown, read}
use Rattle.meaning.specs.Exchange.{tidied, mended}
use Rattle.laws.proofs.ContextLaws.{Within}
use Rattle.laws.proofs.MergeLaws.{merge_from, higher_within'}
use Rattle.laws.proofs.Facts.{point_facts, covers_each, in_dots}
use Rattle.laws.proofs.Goodness.{Good}
use Rattle.laws.proofs.Entering.{entered_more}
use Rattle.laws.proofs.Local.{LocalFacts, local_facts}
use Rattle.laws.proofs.Formed.{FormedReply, formed_reply}
use Rattle.crew.specs.Moment.{Sent, Moment, seeing, reply_brings}
use Rattle.crew.specs.Run as run
use Rattle.crew.specs.Run.{Reached, ◌then◌}
use Rattle.crew.specs.Demand.{RepairAgainShowsTheSame}
use Rattle.crew.proofs.Right.{◌∪◌, History}
use Rattle.crew.proofs.Looking.{Distinct}
use Rattle.crew.proofs.Storing.{dots_counted}
use Rattle.crew.proofs.Repaired.{with_row_brings, with_row_rising, Brought, Mended, repaired, distinct_mended}
use Rattle.crew.proofs.Steps.{repair_steps, for_at}
use Rattle.crew.proofs.Sound.{Sound, history, sound}
use Rattle.crew.proofs.Invariant.{In, Inv}
use Rattle.crew.proofs.Calls.{history_here}
use Rattle.crew.proofs.Mending.{mended_right}
use Rattle.crew.proofs.Held.{invariant}
use Rattle.crew.proofs.Again.{later_on, Keeps, later_keeps, shown_the_same, brought_before}
use Rattle.crew.proofs.Rising.{result_within, mended_each, mended_holders, Ahead, later_ahead}
use Rattle.crew.proofs.Repeated.{entered_same, united_same, higher_same, merged_known, stored_shows, read_same}

local_tidied : (x : State) (r : Reply) (k : Key) → local (tidied x r) k ≡ local x k
unfolding tidied local
local_tidied x r k = refl

clock_tidied : (x : State) (r : Reply) → (tidied x r).clock ≡ x.clock
unfolding tidied
clock_tidied x r = refl

module _ (t : CrewTable) (ok : is_table t ≡ true) (M : Moment) (reached : Reached t M) (n : Controller) (on : M.started n ≡ true) (m : Sent Reply) (mm : m ∈ M.replies) where
  I : Inv t (In M.writes) M
  I = invariant t ok M reached

  S : Sound t M
  S = sound t ok M reached

  H : History t (In M.writes)
  H = history t M S

  abbrev s : State
  s = M.state n

  abbrev r : Reply
  r = m.message

  abbrev united : Clock
  united = with_row s.clock r.sender (row r.clock r.sender)

  abbrev rs : List Stored
  rs = map (mended s r) r.points

  -- a point of the reply as it is merged
  abbrev filled : Stored → Object
  filled p = fill s.table p.key.job r.clock p.object

  mended_is : (p : Stored) → mended s r p ≡ record { key = p.key; object = merge (local s p.key) (filled p) }
  unfolding mended
  mended_is p = refl

  distinct : Distinct rs
  distinct = distinct_mended s r r.points (I.replies m mm).told.distinct

  -- what holds of each merged point holds of each result
  of_each : (P : Stored → Type 0) → ((p : Stored) → p ∈ r.points → P (record { key = p.key; object = merge (local s p.key) (filled p) })) → (q : Stored) → q ∈ rs → P q
  of_each P h q g = let y = in_map (mended s r) r.points g in subst P (sym (y.2 ∙ mended_is y.0)) (h y.0 y.1)

  -- once repaired from, the reply's filled contexts are within the local ones, and its sender's row is in the clock
  pub told_within : (x : State) → Mended s r x → (p : Stored) → p ∈ r.points → Within (filled p).context (local x p.key).context
  told_within x A p h j c =
      le_trans (merged j c)
      (subst (λ (z : Object). (entry (merge (local s p.key) (filled p)).context j).0 ≤ (entry z.context j).0) (ap (λ (z : State). local z p.key) A.state)
      (subst (λ (z : Object). (entry (merge (local s p.key) (filled p)).context j).0 ≤ (entry z.context j).0) (sym (local_tidied (settled s united rs) r p.key))
      (subst (λ (q : Stored). (entry q.object.context j).0 ≤ (entry (local (settled s united rs) q.key).context j).0) (mended_is p)
      (result_within s united rs (with_row_rising s.clock r.sender (row r.clock r.sender)) distinct (mended_each t ok M reached n on r) (mended_holders t ok M reached n on m mm)
      (mended s r p) (map_in (mended s r) r.points h) j c))))
    where
      merged : Within (filled p).context (merge (local s p.key) (filled p)).context
      merged = unfold merge in (higher_within' (local s p.key).context (filled p).context)

  pub told_row : (x : State) → Mended s r x → (c : Counter) → has (row r.clock r.sender) c ≡ true → in_clock x.clock (record { who = r.sender; count = c }) ≡ true
  told_row x A c h =
      subst (λ (z : State). in_clock z.clock d ≡ true) A.state
      (subst (λ (z : Clock). in_clock z d ≡ true) (sym (clock_tidied (settled s united rs) r))
      (unfold settled in (entered_more united rs counted d crew (with_row_brings s.clock r.sender (row r.clock r.sender) d crew refl h))))
    where
      d : Dot
      d = record { who = r.sender; count = c }

      crew : Crew r.sender
      crew = (formed_reply s.table r A.formed).sender

      counted : (l : Listed) → l ∈ dots_of rs → is_counter l.dot.count ≡ true
      counted =
          dots_counted s.table (In M.writes) (In (M.seen n) ∪ Brought (In m.seen) r) (history_here t (In M.writes) H M S I n on) rs
          (mended_right t (In M.writes) H M S I n on m (I.replies m mm) x A)

  -- where all that is so already, a repair shows the same
  module _ (low : (p : Stored) → p ∈ r.points → Within (filled p).context (local s p.key).context) (in_row : (c : Counter) → has (row r.clock r.sender) c ≡ true → has (row s.clock r.sender) c ≡ true)
      (x : State) (A : Mended s r x) (vs : (p : Stored) → p ∈ r.points → (shown (local x p.key)).versions ≡ (shown (local s p.key)).versions) where
    G : Good s
    G = S.good n (S.crew n on)

    L : (p : Stored) → p ∈ r.points → LocalFacts s p.key (local s p.key)
    L p h = local_facts s G p.key (A.held p h)

    F : FormedReply s.table r
    F = formed_reply s.table r A.formed

    filled_crew : (p : Stored) (h : p ∈ r.points) (v : Version) → v ∈ (filled p).versions → Crew v.dot.who
    unfolding fill
    filled_crew p h v g = ((point_facts s.table p.key p.object (F.point p h)).versions.each v g).crew

    filled_covered : (p : Stored) (h : p ∈ r.points) (v : Version) → v ∈ (filled p).versions → covers (filled p).context v.dot ≡ true
    unfolding fill
    filled_covered p h v g = covers_each (fill_context s.table p.key.job r.clock p.object.context) p.object.versions (F.covered p h) v g

    -- the dots of the results are known
    of_dots : (P : Dot → Type 0) → ((p : Stored) → p ∈ r.points → (v : Version) → v ∈ (merge (local s p.key) (filled p)).versions → P v.dot) → (l : Listed) → l ∈ dots_of rs → P l.dot
    of_dots P h l g =
        let q = in_dots rs g in
        subst P (ap (λ (z : Listed). z.dot) (sym q.same)) (of_each (λ z. (v : Version) → v ∈ z.object.versions → P v.dot) h q.point q.point_in q.version q.version_in)

    known : (l : Listed) → l ∈ dots_of rs → in_clock s.clock l.dot ≡ true
    known =
        of_dots (λ d. in_clock s.clock d ≡ true)
        (λ p h. merged_known s p.key (local s p.key) (filled p) (L p h).known (filled_covered p h) (filled_crew p h) (low p h))

    crew : (l : Listed) → l ∈ dots_of rs → Crew l.dot.who
    crew =
        of_dots (λ d. Crew d.who)
        (λ p h v g. ⊎_elim (λ z. ((L p h).object.versions.each v z).crew) (filled_crew p h v) (merge_from (local s p.key) (filled p) g))

    same_clock : entered united rs ≡ s.clock
    same_clock = ap (λ (z : Clock). entered z rs) (united_same s G r.sender (row r.clock r.sender) in_row) ∙ entered_same s G rs crew known

    same_context : (p : Stored) → p ∈ r.points → (merge (local s p.key) (filled p)).context ≡ (local s p.key).context
    unfolding merge
    same_context p h = higher_same (local s p.key).context (filled p).context (L p h).object.context.eight (low p h)

    shows_stored : (k : Key) → shown (local x k) ≡ shown (local (settled s united rs) k)
    shows_stored k = ap (λ (z : State). shown (local z k)) (sym A.state) ∙ ap shown (local_tidied (settled s united rs) r k)

    pub told_shows : (j : Key) → read x j ≡ read s j
    told_shows j =
        read_same s x (repair_steps s r x A) j
        (shows_stored j
        ∙ stored_shows s united rs distinct same_clock (mended_holders t ok M reached n on m mm)
        (of_each (λ q. q.object.context ≡ (local s q.key).context) same_context)
        (of_each (λ q. (shown (local (settled s united rs) q.key)).versions ≡ (shown (local s q.key)).versions)
        (λ p h. ap (λ (z : Object). z.versions) (sym (shows_stored p.key)) ∙ vs p h)) j)

pub repair_again_shows_the_same : RepairAgainShowsTheSame
unfolding RepairAgainShowsTheSame
repair_again_shows_the_same t ok M N r n on m mm s e l x f = told_shows t ok N reached n on_now m there low in_row x A vs
  where
    B : Moment
    B = seeing M n s (reply_brings m)

    first : Reached t B
    first = r then run.repairs n on m mm s e

    SB : Sound t B
    SB = sound t ok B first

    K : Keeps B N
    K = later_keeps t ok SB l

    reached : Reached t N
    reached = later_on t first l

    on_now : N.started n ≡ true
    on_now = K.started n (unfold seeing in on)

    there : m ∈ N.replies
    there = K.replies m (unfold seeing in mm)

    before : Mended (M.state n) m.message s
    before = repaired (M.state n) m.message s e

    A : Mended (N.state n) m.message x
    A = repaired (N.state n) m.message x f

    state_then : B.state n ≡ s
    state_then = unfold seeing in (for_at n s M.state)

    ahead : Ahead B N
    ahead = later_ahead t ok first l

    same_table : (M.state n).table ≡ (N.state n).table
    same_table = (sound t ok M r).table n ∙ sym ((sound t ok N reached).table n)

    low : (p : Stored) → p ∈ m.message.points → Within (fill (N.state n).table p.key.job m.message.clock p.object).context (local (N.state n) p.key).context
    low p h j c =
        subst (λ (z : CrewTable). (entry (fill z p.key.job m.message.clock p.object).context j).0 ≤ (entry (local (N.state n) p.key).context j).0) same_table
        (le_trans (told_within t ok M r n on m mm s before p h j c)
        (subst (λ (z : State). (entry (local z p.key).context j).0 ≤ (entry (local (N.state n) p.key).context j).0) state_then (ahead.contexts n p.key j c)))

    in_row : (c : Counter) → has (row m.message.clock m.message.sender) c ≡ true → has (row (N.state n).clock m.message.sender) c ≡ true
    in_row c h = at_last (ahead.clocks n d (formed_reply (M.state n).table m.message before.formed).sender (subst (λ (z : State). in_clock z.clock d ≡ true) (sym state_then) (told_row t ok M r n on m mm s before c h)))
      where
        d : Dot
        d = record { who = m.message.sender; count = c }

        at_last : in_clock (N.state n).clock (record { who = m.message.sender; count = c }) ≡ true → has (row (N.state n).clock m.message.sender) c ≡ true
        at_last h = unfold in_clock in h

    vs : (p : Stored) → p ∈ m.message.points → (shown (local x p.key)).versions ≡ (shown (local (N.state n) p.key)).versions
    vs p h =
        shown_the_same t ok N reached n on_now x (reply_brings m) (run.repairs n on_now m there x f) (repair_steps (N.state n) m.message x A)
        (brought_before t ok M N n s (reply_brings m) SB l) p.key (A.held p h)
