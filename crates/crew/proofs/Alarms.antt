-- No message of the crew is refused with 9 or 10. Assumes nothing.
use Prim.Native.Nat.{ℕ, ◌≤◌}
use mathlib.Core.Path.{◌≡◌, refl, sym, ap, ◌∙◌, subst}
use mathlib.Core.Bool.{Bool, true, false, ◌&&◌, ◌||◌, not}
use mathlib.Core.List.{List, [], ◌∷◌}
use native.Mathlib.Omega.{arith}
use lib.ListN.{length}
use lib.Dec.{ltb}
use borrow.Author.Tests.{le-ltb}
use Rattle.numbers.specs.declared.Controller.{Controller}
use Rattle.numbers.specs.declared.Dot.{Dot}
use Rattle.numbers.specs.declared.Key.{Key}
use Rattle.numbers.specs.Words.{some?, all?, map}
use Rattle.numbers.specs.Numbers.{same_controller}
use Rattle.numbers.specs.Dot.{same_dot}
use Rattle.numbers.specs.Key.{same_key}
use Rattle.numbers.proofs.Tests.{by_test, never, and_left, and_right, ◌∈◌, and_both, or_neither}
use Rattle.numbers.proofs.Lists.{some_in}
use Rattle.numbers.proofs.Controllers.{Crew, same_controllers}
use Rattle.numbers.proofs.Dots.{same_dots, key_itself}
use Rattle.block.proofs.Same.{same_itself}
use Rattle.refusal.specs.declared.Refusal.{Refusal}
use Rattle.refusal.specs.declared.Refusal.TheVariants.{IllFormed, OutOfRange, NotPeer, HistoryLost, DotClash, RowTooFar, TooManyVersions, TooManyPoints}
use Rattle.refusal.specs.Refusal.{number, Answer, refused, accepted, refuse◌when◌else◌, ◌>>=◌}
use Rattle.row.specs.Row.{fits, highest}
use Rattle.row.proofs.Highest.{highest_least}
use Rattle.meaning.specs.CrewTable.{CrewTable, is_table}
use Rattle.meaning.specs.Clock.{Clock, row, every_row, in_clock, with_row}
use Rattle.meaning.specs.Context.{entry}
use Rattle.meaning.specs.Object.{Contents, value, deleted, same_contents, Version, Object, fill, merge}
use Rattle.meaning.specs.State.{Stored, Listed, State, own_base, listed, local}
use Rattle.meaning.specs.Message.{Outgoing, Ask, Reply, most_versions, outgoing_formed, ask_formed, reply_formed}
use Rattle.meaning.specs.Settle.{most_points, settled, settle}
use Rattle.meaning.specs.Exchange.{both_hold, other_peer, ahead_of_us, row_ahead_of_us, clashes, take_in, reply, tidied, mended, repair}
use Rattle.meaning.specs.Write.{Write}
use Rattle.crew.specs.Moment.{Sent, Moment}
use Rattle.crew.specs.Run.{Reached}
use Rattle.crew.specs.Demand.{version_of, NoAlarm, NoFalseAlarm}
use Rattle.crew.proofs.Right.{dot_of}
use Rattle.crew.proofs.Looking.{ascending_distinct, look_first}
use Rattle.crew.proofs.Sound.{Sound, sound}
use Rattle.crew.proofs.Invariant.{In, Inv}
use Rattle.crew.proofs.Held.{invariant}
use Rattle.crew.proofs.Bounds.{ClockLow, ContextLow, Bounded}
use Rattle.crew.proofs.Bounding.{bounded}

-- ---- which answers are no alarm

module _ {A : Type 0} where
  same_refusal : (p q : Refusal) → ◌≡◌ {A = Answer A} (refused p) (refused q) → p ≡ q
  same_refusal p q e = cc

  not_accepted : (x : A) (q : Refusal) → accepted x ≡ refused q → ⊥
  not_accepted x q e = let z : ◌≡◌ {A = ℕ} 0 1 = cc in omega arith

  fine_accepted : (x : A) → NoAlarm (accepted x)
  fine_accepted x q e = absurd (not_accepted x q e)

  -- a row of the table with another number
  fine_row : (r : Refusal) (t : Bool) (a : Answer A) → (number r ≡ 9 → ⊥) × (number r ≡ 10 → ⊥) → NoAlarm a → NoAlarm (refuse r when t else a)
  unfolding refuse◌when◌else◌
  fine_row r true a other rest q e =
      let same = same_refusal r q e in
      ((λ h. other.0 (ap number same ∙ h)), (λ h. other.1 (ap number same ∙ h)))
  fine_row r false a other rest q e = rest q e

  -- a row whose test does not apply
  fine_test : (r : Refusal) (t : Bool) (a : Answer A) → t ≡ false → NoAlarm a → NoAlarm (refuse r when t else a)
  unfolding refuse◌when◌else◌
  fine_test r t a f rest = rw f rest

fine_then : {A B : Type 0} (a : Answer A) (f : A → Answer B) → NoAlarm a → ((x : A) → NoAlarm (f x)) → NoAlarm (a >>= f)
fine_then (refused r) f na nf q e = na q (ap refused (same_refusal r q e))
fine_then (accepted x) f na nf q e = nf x q e

fine_settle : (s : State) (k : Clock) (rs : List Stored) → NoAlarm (settle s k rs)
unfolding settle
fine_settle s k rs =
    fine_row RowTooFar (not (every_row fits (settled s k rs).clock)) _ (omega arith)
    (fine_row TooManyVersions (some? (λ r. ltb most_versions (length r.object.versions)) rs) _ (omega arith)
    (fine_row TooManyPoints (ltb most_points (length (settled s k rs).points)) _ (omega arith) (fine_accepted (settled s k rs))))

contents_itself : (c : Contents) → same_contents c c ≡ true
contents_itself (value v) = same_itself v
contents_itself deleted = refl

none_of : {A : Type 0} (f : A → Bool) (xs : List A) → ((x : A) → x ∈ xs → f x ≡ true → ⊥) → some? f xs ≡ false
none_of f xs h = by_test (some? f xs) (λ t. let q = some_in f xs t in absurd (h q.0 q.1 q.2)) (λ e. e)

-- ---- at a moment of a run

module _ (t : CrewTable) (ok : is_table t ≡ true) (M : Moment) (reached : Reached t M) (n : Controller) (on : M.started n ≡ true) where
  S : Sound t M
  S = sound t ok M reached

  I : Inv t (In M.writes) M
  I = invariant t ok M reached

  B : Bounded M
  B = bounded t ok reached

  abbrev s : State
  s = M.state n

  crew : Crew s.own
  crew = (S.good n (S.crew n on)).own_crew

  -- the own base is the one that the bounds speak of
  at_own : (x : ℕ) → x ≤ own_base (M.state s.own) → x ≤ own_base s
  at_own x h = subst (λ (z : Controller). x ≤ own_base (M.state z)) (S.own n) h

  -- the versions of an object are those of writes of the point k
  abbrev Written : Key → Object → Type 0
  Written k o = (v : Version) → v ∈ o.versions → (w : Write) × (w ∈ M.writes) × (version_of w ≡ v) × (w.key ≡ k)

  version_low : (k : Key) (o : Object) → Written k o → (v : Version) → v ∈ o.versions → v.dot.who ≡ s.own → v.dot.count.0 ≤ own_base s
  version_low k o W v m e =
      let p = W v m in
      let d = dot_of p.0 v p.2 in
      at_own v.dot.count.0
      (subst (λ (z : Controller). v.dot.count.0 ≤ own_base (M.state z)) e
      (subst (λ (z : Dot). z.count.0 ≤ own_base (M.state z.who)) d (S.made p.0 p.1).low))

  not_ahead : (k : Key) (o : Object) → Written k o → ContextLow M o.context → ahead_of_us s o ≡ false
  unfolding ahead_of_us
  not_ahead k o W low =
      or_neither (some? (λ v. same_controller v.dot.who s.own && ltb (own_base s) v.dot.count.0) o.versions) (ltb (own_base s) (entry o.context s.own).0)
      (none_of (λ v. same_controller v.dot.who s.own && ltb (own_base s) v.dot.count.0) o.versions
      (λ v m h.
      let mine = same_controllers v.dot.who s.own (and_left (same_controller v.dot.who s.own) (ltb (own_base s) v.dot.count.0) h) in
      never (and_right (same_controller v.dot.who s.own) (ltb (own_base s) v.dot.count.0) h) (le-ltb (own_base s) v.dot.count.0 (version_low k o W v m mine))))
      (le-ltb (own_base s) (entry o.context s.own).0 (at_own (entry o.context s.own).0 (low s.own crew)))

  row_not_ahead : (c : Clock) → ClockLow M c → row_ahead_of_us s c ≡ false
  unfolding row_ahead_of_us
  row_not_ahead c low =
      le-ltb (own_base s) (highest (row c s.own))
      (highest_least (row c s.own) (own_base s) (λ x h. at_own x.0 (low (record { who = s.own; count = x }) crew (unfold in_clock in h))))

  -- a stored version is a write of its record's point
  stored_written : (p : Stored) → p ∈ s.points → Written p.key p.object
  stored_written p m v h =
      let held = ((S.good n (S.crew n on)).points p m).held in
      let there_it_is : v ∈ (local s p.key).versions = unfold local fill in (subst (λ (o : Object). v ∈ o.versions) (sym (look_first s.points (ascending_distinct s.points (S.good n (S.crew n on)).points_asc) p m)) h) in
      let q = ((I.knows n).right p.key held).honest v there_it_is in
      (q.0, I.seen_made n q.0 q.1.0, q.2, q.1.1)

  -- two versions with one dot are one write's
  same_write : (k j : Key) (v u : Version) → (w : Write) × (w ∈ M.writes) × (version_of w ≡ v) × (w.key ≡ k) → (w : Write) × (w ∈ M.writes) × (version_of w ≡ u) × (w.key ≡ j)
      → v.dot ≡ u.dot → (k ≡ j) × (v ≡ u)
  same_write k j v u p q e =
      let same = S.one_each p.0 q.0 p.1 q.1 (dot_of p.0 v p.2 ∙ e ∙ sym (dot_of q.0 u q.2)) in
      (sym p.3 ∙ ap (λ (z : Write). z.key) same ∙ q.3, sym p.2 ∙ ap version_of same ∙ q.2)

  no_clash : (k : Key) (o : Object) → Written k o → some? (clashes s k) o.versions ≡ false
  no_clash k o W = none_of (clashes s k) o.versions (λ v m h. never h (free v (W v m)))
    where
      stored_free : (v : Version) → (w : Write) × (w ∈ M.writes) × (version_of w ≡ v) × (w.key ≡ k) → (p : Stored) → p ∈ s.points → (u : Version) → u ∈ p.object.versions
          → (same_dot v.dot u.dot && not (same_key k p.key && same_contents v.contents u.contents)) ≡ true → ⊥
      stored_free v w p mp u mu h =
          let d = same_dots v.dot u.dot (and_left (same_dot v.dot u.dot) (not (same_key k p.key && same_contents v.contents u.contents)) h) in
          let same = same_write k p.key v u w (stored_written p mp u mu) d in
          let bad = and_right (same_dot v.dot u.dot) (not (same_key k p.key && same_contents v.contents u.contents)) h in
          never bad
          (ap not (and_both (same_key k p.key) (same_contents v.contents u.contents) (subst (λ (z : Key). same_key k z ≡ true) same.0 (key_itself k))
          (subst (λ (z : Version). same_contents v.contents z.contents ≡ true) same.1 (contents_itself v.contents))))

      listed_free : (v : Version) → (w : Write) × (w ∈ M.writes) × (version_of w ≡ v) × (w.key ≡ k) → (l : Listed) → l ∈ listed s
          → (same_dot v.dot l.dot && not (same_key k l.key)) ≡ true → ⊥
      listed_free v w l ml h =
          let d = same_dots v.dot l.dot (and_left (same_dot v.dot l.dot) (not (same_key k l.key)) h) in
          let q = (B.states n).lists l ml in
          let same = S.one_each w.0 q.0 w.1 q.1 (dot_of w.0 v w.2 ∙ d ∙ ap (λ (z : Listed). z.dot) q.2) in
          let key : k ≡ l.key = sym w.3 ∙ ap (λ (z : Write). z.key) same ∙ sym (ap (λ (z : Listed). z.key) q.2) in
          never (and_right (same_dot v.dot l.dot) (not (same_key k l.key)) h) (ap not (subst (λ (z : Key). same_key k z ≡ true) key (key_itself k)))

      free : (v : Version) → (w : Write) × (w ∈ M.writes) × (version_of w ≡ v) × (w.key ≡ k) → clashes s k v ≡ false
      free v w =
          unfold clashes in
          (or_neither
          (some? (λ p. some? (λ u. same_dot v.dot u.dot && not (same_key k p.key && same_contents v.contents u.contents)) p.object.versions) s.points)
          (some? (λ l. same_dot v.dot l.dot && not (same_key k l.key)) (listed s))
          (none_of (λ p. some? (λ u. same_dot v.dot u.dot && not (same_key k p.key && same_contents v.contents u.contents)) p.object.versions) s.points
          (λ p mp h. let q = some_in (λ u. same_dot v.dot u.dot && not (same_key k p.key && same_contents v.contents u.contents)) p.object.versions h in stored_free v w p mp q.0 q.1 q.2))
          (none_of (λ l. same_dot v.dot l.dot && not (same_key k l.key)) (listed s) (listed_free v w)))

  fine_take_in : (m : Sent Outgoing) → m ∈ M.outgoings → NoAlarm (take_in s m.message)
  unfolding take_in
  fine_take_in m h =
      fine_row IllFormed (not (outgoing_formed s.table m.message)) _ (omega arith)
      (fine_row OutOfRange (not (both_hold s m.message.sender m.message.key)) _ (omega arith)
      (fine_row NotPeer (not (other_peer s m.message.sender)) _ (omega arith)
      (fine_test HistoryLost (ahead_of_us s m.message.object) _ (not_ahead m.message.key m.message.object written (B.outgoings m h))
      (fine_test DotClash (some? (clashes s m.message.key) m.message.object.versions) _ (no_clash m.message.key m.message.object written)
      (fine_settle s s.clock (record { key = m.message.key; object = merge (local s m.message.key) m.message.object } ∷ []))))))
    where
      written : Written m.message.key m.message.object
      written v q = let R = I.outgoings m h in let p = R.right.honest v q in (p.0, R.made p.0 p.1.0, p.2, p.1.1)

  fine_reply : (a : Ask) → a ∈ M.asks → NoAlarm (reply s a)
  unfolding reply
  fine_reply a h =
      fine_row IllFormed (not (ask_formed s.table a)) _ (omega arith)
      (fine_row NotPeer (not (other_peer s a.sender && same_controller a.addressee s.own)) _ (omega arith)
      (fine_test HistoryLost (row_ahead_of_us s a.clock) _ (row_not_ahead a.clock (B.asks a h)) (fine_accepted _)))

  fine_repair : (r : Sent Reply) → r ∈ M.replies → NoAlarm (repair s r.message)
  unfolding repair
  fine_repair r h =
      fine_row IllFormed (not (reply_formed s.table r.message)) _ (omega arith)
      (fine_row OutOfRange (not (all? (λ p. both_hold s r.message.sender p.key) r.message.points)) _ (omega arith)
      (fine_row NotPeer (not (other_peer s r.message.sender && same_controller r.message.addressee s.own)) _ (omega arith)
      (fine_test HistoryLost (some? (λ p. ahead_of_us s p.object) r.message.points || row_ahead_of_us s r.message.clock) _
      (or_neither (some? (λ p. ahead_of_us s p.object) r.message.points) (row_ahead_of_us s r.message.clock)
      (none_of (λ p. ahead_of_us s p.object) r.message.points (λ p m q. never q (not_ahead p.key p.object (written p m) ((B.replies r h).points p m))))
      (row_not_ahead r.message.clock (B.replies r h).clock))
      (fine_test DotClash (some? (λ p. some? (clashes s p.key) p.object.versions) r.message.points) _
      (none_of (λ p. some? (clashes s p.key) p.object.versions) r.message.points (λ p m q. never q (no_clash p.key p.object (written p m))))
      (fine_then (settle s (with_row s.clock r.message.sender (row r.message.clock r.message.sender)) (map (mended s r.message) r.message.points)) (λ after. accepted (tidied after r.message))
      (fine_settle s (with_row s.clock r.message.sender (row r.message.clock r.message.sender)) (map (mended s r.message) r.message.points)) (λ x. fine_accepted (tidied x r.message)))))))
    where
      written : (p : Stored) → p ∈ r.message.points → Written p.key p.object
      written p m v q =
          let R = I.replies r h in
          let z = (R.told.right p m).honest v (unfold fill in q) in
          (z.0, R.made z.0 z.1.0, z.2, z.1.1)

pub no_false_alarm : NoFalseAlarm
unfolding NoFalseAlarm
no_false_alarm t ok M r n on = (fine_take_in t ok M r n on, fine_reply t ok M r n on, fine_repair t ok M r n on)
