-- "Every accepted step leaves a good image", on states: whatever message is taken in, also a made-up one. Assumes nothing.
use Prim.Native.Nat.{ℕ, ◌≤◌, ◌<◌}
use mathlib.Core.Path.{◌≡◌, refl, sym, ap, ◌∙◌, subst}
use mathlib.Core.Logic.{inl}
use mathlib.Core.Bool.{true, false, ◌&&◌, ◌||◌, not}
use mathlib.Core.List.Memᴰ
use mathlib.Core.List.{List, [], ◌∷◌}
use native.Mathlib.Omega.{arith}
use native.Mathlib.Nat.{le_trans}
use lib.ListN.{length}
use lib.Dec.{leb, ltb}
use borrow.Author.Tests.{leb-false, ltb-false, le-leb, lt-ltb, not-true}
use Rattle.numbers.specs.declared.Controller.{Controller}
use Rattle.numbers.specs.declared.Key.{Key}
use Rattle.numbers.specs.Words.{some?, all?, map}
use Rattle.numbers.specs.Numbers.{last_counter, same_controller}
use Rattle.numbers.specs.Key.{is_key}
use Rattle.numbers.proofs.Tests.{by_test, never, and_left, and_right, and_both, and_false, or_false, ◌∈◌}
use Rattle.numbers.proofs.Lists.{none_in, all_in, in_all}
use Rattle.numbers.proofs.Controllers.{Crew, same_controllers, controller_itself}
use Rattle.refusal.specs.declared.Refusal.TheVariants.{IllFormed, OutOfRange, NotPeer, ValueTooLong, ContextAhead, HistoryLost, DotClash, OwnListFull, CountersUsedUp}
use Rattle.refusal.specs.Refusal.{accepted}
use Rattle.row.specs.declared.Row.{Row}
use Rattle.row.specs.Row.{highest, sound, unite}
use Rattle.row.proofs.Uniting.{unite_has, unite_base}
use Rattle.row.proofs.Highest.{base_highest, sound_base, unite_sound}
use Rattle.meaning.specs.CrewTable.{CrewTable, is_table, holds}
use Rattle.meaning.specs.Clock.{Clock, row, in_clock, with_row}
use Rattle.meaning.specs.Context.{Context, entry, fill_context}
use Rattle.meaning.specs.Object.{Contents, value, deleted, Version, Object, fill, merge}
use Rattle.meaning.specs.State.{Stored, State, peers, own_base, dots_of, local}
use Rattle.meaning.specs.Message.{Outgoing, Reply, longest_value, contents_formed, point_formed, covers_all, outgoing_formed, reply_formed}
use Rattle.meaning.specs.Settle.{most_listed, settled, settle}
use Rattle.meaning.specs.OwnSteps.{start, ours, read, written, context_ahead, Done, put_down, write, delete, strip_pass}
use Rattle.meaning.specs.Exchange.{both_hold, other_peer, ahead_of_us, row_ahead_of_us, clashes, take_in, ask, reply, tidied, mended, repair}
use Rattle.meaning.specs.Step.{Step, reads, writes, deletes, takes_in, asks, replies, repairs, strips, step}
use Rattle.meaning.specs.Good.{good_state}
use Rattle.laws.proofs.ContextLaws.{fill_holder}
use Rattle.laws.proofs.Facts.{point_facts, covers_each, dots_in, agree_at}
use Rattle.laws.proofs.Formed.{FormedReply, formed_outgoing, formed_reply}
use Rattle.laws.proofs.Goodness.{Good, good_facts, facts_good}
use Rattle.laws.proofs.Entering.{united_row, entered_base}
use Rattle.laws.proofs.Settling.{Results, Limits, settled_good}
use Rattle.laws.proofs.Local.{fill_context_facts}
use Rattle.laws.proofs.Answers.{same_accepted, passes, passes_not, bound, settle_accepted}
use Rattle.laws.proofs.Writing.{written_fits}
use Rattle.laws.proofs.Merging.{Carried, Clocked, merged_fit}
use Rattle.laws.proofs.OtherSteps.{start_good, strip_pass_good, tidied_good}

-- ---- write and delete

pub ours_is : (s : State) (k : Key) → ours s k ≡ true → (is_key k ≡ true) × (holds s.table s.own k.job ≡ true)
unfolding ours
ours_is s k t = (and_left (is_key k) (holds s.table s.own k.job) t, and_right (is_key k) (holds s.table s.own k.job) t)

-- what an accepted write or delete has tested, and what it gives
pub record PutDown (s : State) (k : Key) (b : Contents) (c : Context) (d : Done) : Type 0 where
  pub fit : Results s s.clock (record { key = k; object = written s k b c } ∷ [])
  pub limits : Limits s s.clock (record { key = k; object = written s k b c } ∷ [])
  pub state : settled s s.clock (record { key = k; object = written s k b c } ∷ []) ≡ d.state
  pub message : record { sender = s.own; key = k; object = written s k b c } ≡ d.message

pub put_down_accepted : (s : State) (k : Key) (b : Contents) (c : Context) (d : Done) → Good s → ours s k ≡ true → contents_formed b ≡ true → put_down s k b c ≡ accepted d → PutDown s k b c d
unfolding put_down
put_down_accepted s k b c d G t said e =
    let held = ours_is s k t in
    let first = passes ContextAhead (context_ahead s k c) _ e in
    let kept = bound (settle s s.clock (record { key = k; object = written s k b c } ∷ [])) _ first.1 in
    let room = passes OwnListFull (leb most_listed (length s.own_dots)) _ kept.2 in
    let left = passes CountersUsedUp (leb last_counter (own_base s)) _ room.1 in
    let after = settle_accepted s s.clock (record { key = k; object = written s k b c } ∷ []) kept.1 in
    let done = same_accepted _ d left.1 in
    record {
      fit = written_fits s G k b c held.0 held.1 said (leb-false most_listed (length s.own_dots) room.0) (leb-false last_counter (own_base s) left.0);
      limits = after.0;
      state = after.1 ∙ ap (λ (x : Done). x.state) done;
      message = ap (λ (x : Done). x.message) done;
    }

put_down_good : (s : State) (k : Key) (b : Contents) (c : Context) (d : Done) → Good s → PutDown s k b c d → Good d.state
put_down_good s k b c d G P =
    subst (λ (x : State). Good x) P.state (settled_good s s.clock (record { key = k; object = written s k b c } ∷ []) G P.fit P.limits)

-- the bytes of a value are bytes
abbrev pub Bytes : List ℕ → Type 0
Bytes v = (b : ℕ) → b ∈ v → b < 256

pub write_accepted : (s : State) (k : Key) (v : List ℕ) (c : Context) (d : Done) → Good s → Bytes v → write s k v c ≡ accepted d → PutDown s k (value v) c d
unfolding write contents_formed
write_accepted s k v c d G bytes e =
    let first = passes_not OutOfRange (ours s k) _ e in
    let second = passes ValueTooLong (ltb longest_value (length v)) _ first.1 in
    put_down_accepted s k (value v) c d G first.0
    (and_both (leb (length v) longest_value) (all? (λ b. ltb b 256) v) (le-leb (length v) longest_value (ltb-false longest_value (length v) second.0))
    (in_all (λ b. ltb b 256) v (λ b m. lt-ltb b 256 (bytes b m))))
    second.1

pub delete_accepted : (s : State) (k : Key) (c : Context) (d : Done) → Good s → delete s k c ≡ accepted d → PutDown s k deleted c d
unfolding delete contents_formed
delete_accepted s k c d G e =
    let first = passes_not OutOfRange (ours s k) _ e in
    put_down_accepted s k deleted c d G first.0 refl first.1

-- ---- take in

-- refusal 9 passed, of an object
pub not_ahead : (s : State) (o : Object) → ahead_of_us s o ≡ false
    → ((v : Version) → v ∈ o.versions → v.dot.who ≡ s.own → v.dot.count.0 ≤ own_base s) × ((entry o.context s.own).0 ≤ own_base s)
unfolding ahead_of_us
not_ahead s o t =
    let q = or_false (some? (λ v. same_controller v.dot.who s.own && ltb (own_base s) v.dot.count.0) o.versions) (ltb (own_base s) (entry o.context s.own).0) t in (
      λ v m e. ltb-false (own_base s) v.dot.count.0
          (and_false (same_controller v.dot.who s.own) (ltb (own_base s) v.dot.count.0)
          (none_in (λ w. same_controller w.dot.who s.own && ltb (own_base s) w.dot.count.0) o.versions q.0 m)
          (subst (λ (n : Controller). same_controller n s.own ≡ true) (sym e) (controller_itself s.own))),
      ltb-false (own_base s) (entry o.context s.own).0 q.1,
    )

both_held : (s : State) (n : Controller) (k : Key) → both_hold s n k ≡ true → (holds s.table s.own k.job ≡ true) × (holds s.table n k.job ≡ true)
unfolding both_hold
both_held s n k t = (and_left (holds s.table s.own k.job) (holds s.table n k.job) t, and_right (holds s.table s.own k.job) (holds s.table n k.job) t)

-- the clock as it is
same_clock : (s : State) → Good s → Clocked s s.clock
same_clock s G = record {
  eight = G.clock_eight;
  rows = λ n r. (G.row_sound n r).1;
  rising = λ n r. omega arith;
  growing = λ d r h. h;
  own_row = refl;
  of_peers = G.rows_peers;
}

-- a point that passed the refusals 4 to 10
pub point_carried : (s : State) (k : Key) (o : Object) → point_formed s.table k o ≡ true → covers_all o.context o.versions ≡ true → holds s.table s.own k.job ≡ true
    → ahead_of_us s o ≡ false → some? (clashes s k) o.versions ≡ false → Carried s k o
point_carried s k o formed covered held ahead clash =
    let P = point_facts s.table k o formed in
    let A = not_ahead s o ahead in
    record {
      key_good = P.key_good;
      held = held;
      object = record { versions = P.versions; context = P.context; covered = covers_each o.context o.versions covered; own_entry = A.1 };
      own_dots = A.0;
      free = λ v h. none_in (clashes s k) o.versions clash h;
    }

pub outgoing_carried : (s : State) (m : Outgoing) → outgoing_formed s.table m ≡ true → both_hold s m.sender m.key ≡ true → ahead_of_us s m.object ≡ false
    → some? (clashes s m.key) m.object.versions ≡ false → Carried s m.key m.object
outgoing_carried s m formed held ahead clash =
    let F = formed_outgoing s.table m formed in
    point_carried s m.key m.object F.point F.covered (both_held s m.sender m.key held).0 ahead clash

-- what an accepted take in has tested, and what it gives
pub record TakenIn (s : State) (m : Outgoing) (x : State) : Type 0 where
  pub formed : outgoing_formed s.table m ≡ true
  pub held : holds s.table s.own m.key.job ≡ true
  pub carried : Carried s m.key m.object
  pub limits : Limits s s.clock (record { key = m.key; object = merge (local s m.key) m.object } ∷ [])
  pub state : settled s s.clock (record { key = m.key; object = merge (local s m.key) m.object } ∷ []) ≡ x

pub taken_in : (s : State) (m : Outgoing) (x : State) → take_in s m ≡ accepted x → TakenIn s m x
unfolding take_in
taken_in s m x e =
    let formed = passes_not IllFormed (outgoing_formed s.table m) _ e in
    let held = passes_not OutOfRange (both_hold s m.sender m.key) _ formed.1 in
    let peer = passes_not NotPeer (other_peer s m.sender) _ held.1 in
    let ahead = passes HistoryLost (ahead_of_us s m.object) _ peer.1 in
    let clash = passes DotClash (some? (clashes s m.key) m.object.versions) _ ahead.1 in
    let after = settle_accepted s s.clock (record { key = m.key; object = merge (local s m.key) m.object } ∷ []) clash.1 in
    record {
      formed = formed.0;
      held = (both_held s m.sender m.key held.0).0;
      carried = outgoing_carried s m formed.0 held.0 ahead.0 clash.0;
      limits = after.0;
      state = after.1;
    }

take_in_good : (s : State) (m : Outgoing) (x : State) → Good s → take_in s m ≡ accepted x → Good x
take_in_good s m x G e =
    let A = taken_in s m x e in
    subst (λ (y : State). Good y) A.state
    (settled_good s s.clock _ G
    (merged_fit s G s.clock (same_clock s G) (record { key = m.key; object = m.object } ∷ []) (λ p. p.object)
    (λ p h. subst (λ (y : Stored). Carried s y.key y.object) (sym (Memᴰ.eq_of_singleton h)) A.carried)
    (λ p q v w mp mq mv mw d. ap (λ (y : Stored). y.key) (Memᴰ.eq_of_singleton mp ∙ sym (Memᴰ.eq_of_singleton mq))))
    A.limits)

-- ---- repair

-- what refusals 4 to 10 leave of a reply
module _ (s : State) (r : Reply) (G : Good s) (formed : reply_formed s.table r ≡ true) (held : all? (λ p. both_hold s r.sender p.key) r.points ≡ true)
    (peer : (other_peer s r.sender && same_controller r.addressee s.own) ≡ true)
    (ahead : (some? (λ p. ahead_of_us s p.object) r.points || row_ahead_of_us s r.clock) ≡ false)
    (clash : some? (λ p. some? (clashes s p.key) p.object.versions) r.points ≡ false) where
  F : FormedReply s.table r
  F = formed_reply s.table r formed

  -- the sender is another peer
  pub other : same_controller r.sender s.own ≡ false
  unfolding other_peer
  other =
      not-true (same_controller r.sender s.own)
      (and_left (not (same_controller r.sender s.own)) (peers s s.own r.sender) (and_left (not (same_controller r.sender s.own) && peers s s.own r.sender) (same_controller r.addressee s.own) peer))

  sender_peer : peers s s.own r.sender ≡ true
  unfolding other_peer
  sender_peer =
      and_right (not (same_controller r.sender s.own)) (peers s s.own r.sender)
      (and_left (not (same_controller r.sender s.own) && peers s s.own r.sender) (same_controller r.addressee s.own) peer)

  row_low : (n : Controller) → Crew n → (row r.clock n).base ≤ last_counter
  row_low n c = sound_base (row r.clock n) (F.clock.row_sound n c)

  -- its row about us is no further than we are
  about_us : (row r.clock s.own).base ≤ own_base s
  unfolding row_ahead_of_us
  about_us =
      le_trans (base_highest (row r.clock s.own))
      (ltb-false (own_base s) (highest (row r.clock s.own))
      (or_false (some? (λ p. ahead_of_us s p.object) r.points) (ltb (own_base s) (highest (row r.clock s.own))) ahead).1)

  -- the clock with the sender's row
  abbrev united : Clock
  united = with_row s.clock r.sender (row r.clock r.sender)

  united_is : (n : Controller) → Crew n → (P : Row → Type 0) → P (unite (row s.clock n) (row r.clock r.sender)) → P (row s.clock n) → P (row united n)
  united_is n c P a b =
      rw (united_row s.clock r.sender (row r.clock r.sender) n c) (by_test (same_controller n r.sender) (λ t. rw t a) (λ t. rw t b))

  united_other : (n : Controller) → Crew n → same_controller n r.sender ≡ false → row united n ≡ row s.clock n
  united_other n c f = united_row s.clock r.sender (row r.clock r.sender) n c ∙ rw f

  pub united_clock : Clocked s (with_row s.clock r.sender (row r.clock r.sender))
  united_clock = record {
    eight = unfold with_row in refl;
    rows = λ n c. united_is n c (λ x. sound x ≡ true) (unite_sound (row s.clock n) (row r.clock r.sender) (G.row_sound n c).1 (F.clock.row_sound r.sender F.sender)) (G.row_sound n c).1;
    rising = λ n c. united_is n c (λ x. (row s.clock n).base ≤ x.base) (unite_base (row s.clock n) (row r.clock r.sender)) (omega arith);
    growing = λ d c h. unfold in_clock in
        (united_is d.who c (λ x. Rattle.row.specs.Row.has x d.count ≡ true) ((unite_has (row s.clock d.who) (row r.clock r.sender) d.count).1 (inl (unfold in_clock in h))) (unfold in_clock in h));
    own_row = united_other s.own G.own_crew
        (by_test (same_controller s.own r.sender)
        (λ t. never (subst (λ (n : Controller). same_controller n s.own ≡ true) (same_controllers s.own r.sender t) (controller_itself s.own)) other) (λ t. t));
    of_peers = λ n c f. united_other n c
        (by_test (same_controller n r.sender) (λ t. never (subst (λ (m : Controller). peers s s.own m ≡ true) (sym (same_controllers n r.sender t)) sender_peer) f) (λ t. t))
        ∙ G.rows_peers n c f;
  }

  pub carried : (p : Stored) → p ∈ r.points → Carried s p.key (fill s.table p.key.job r.clock p.object)
  carried p m =
      let P = point_facts s.table p.key p.object (F.point p m) in
      let A = not_ahead s p.object (none_in (λ q. ahead_of_us s q.object) r.points (or_false (some? (λ q. ahead_of_us s q.object) r.points) (row_ahead_of_us s r.clock) ahead).0 m) in
      let here_held = (both_held s r.sender p.key (all_in (λ q. both_hold s r.sender q.key) r.points held m)).0 in
      unfold fill in (record {
        key_good = P.key_good;
        held = here_held;
        object = record {
          versions = P.versions;
          context = fill_context_facts s.table p.key.job r.clock p.object.context row_low P.context;
          covered = covers_each (fill_context s.table p.key.job r.clock p.object.context) p.object.versions (F.covered p m);
          own_entry = omega (arith, fill_holder s.table p.key.job r.clock p.object.context s.own G.own_crew here_held, A.1, about_us);
        };
        own_dots = A.0;
        free = λ v h. none_in (clashes s p.key) p.object.versions (none_in (λ q. some? (clashes s q.key) q.object.versions) r.points clash m) h;
      })

  pub agree : (p q : Stored) (v w : Version) → p ∈ r.points → q ∈ r.points → v ∈ p.object.versions → w ∈ q.object.versions → v.dot ≡ w.dot → p.key ≡ q.key
  agree p q v w mp mq mv mw e =
      agree_at (dots_of r.points) (dots_of r.points) F.agree (record { dot = v.dot; key = p.key }) (record { dot = w.dot; key = q.key }) (dots_in r.points mp mv) (dots_in r.points mq mw) e

  -- what is stored is good before the watermark is raised
  pub stored_good : Limits s (with_row s.clock r.sender (row r.clock r.sender)) (map (mended s r) r.points) → Good (settled s (with_row s.clock r.sender (row r.clock r.sender)) (map (mended s r) r.points))
  unfolding mended
  stored_good within =
      settled_good s united (map (mended s r) r.points) G
      (merged_fit s G united united_clock r.points (λ p. fill s.table p.key.job r.clock p.object) carried (unfold fill in agree)) within

  mended_good : (x : State) → settle s united (map (mended s r) r.points) ≡ accepted x → Good (tidied x r)
  mended_good x e =
      let after = settle_accepted s united (map (mended s r) r.points) e in
      subst (λ (y : State). Good (tidied y r)) after.1
      (unfold settled peers mended in
      (tidied_good (settled s united (map (mended s r) r.points)) r (stored_good after.0) other sender_peer row_low
      (le_trans about_us (le_trans (united_clock.rising s.own G.own_crew) (entered_base united (map (mended s r) r.points) s.own G.own_crew)))))

repair_good : (s : State) (r : Reply) (x : State) → Good s → repair s r ≡ accepted x → Good x
unfolding repair
repair_good s r x G e =
    let formed = passes_not IllFormed (reply_formed s.table r) _ e in
    let held = passes_not OutOfRange (all? (λ p. both_hold s r.sender p.key) r.points) _ formed.1 in
    let peer = passes_not NotPeer (other_peer s r.sender && same_controller r.addressee s.own) _ held.1 in
    let ahead = passes HistoryLost (some? (λ p. ahead_of_us s p.object) r.points || row_ahead_of_us s r.clock) _ peer.1 in
    let clash = passes DotClash (some? (λ p. some? (clashes s p.key) p.object.versions) r.points) _ ahead.1 in
    let after = bound (settle s (with_row s.clock r.sender (row r.clock r.sender)) (map (mended s r) r.points)) _ clash.1 in
    subst (λ (y : State). Good y) (same_accepted (tidied after.0 r) x after.2) (mended_good s r G formed.0 held.0 peer.0 ahead.0 clash.0 after.0 after.1)

-- ---- the theorem

-- what is lent as a value is bytes; all other inputs are tested by the step itself
abbrev pub Typed : Step → Type 0
Typed (reads k) = Unit {0}
Typed (writes k v c) = Bytes v
Typed (deletes k c) = Unit {0}
Typed (takes_in m) = Unit {0}
Typed (asks to) = Unit {0}
Typed (replies a) = Unit {0}
Typed (repairs r) = Unit {0}
Typed strips = Unit {0}

step_good : (s : State) (d : Step) (x : State) → Good s → Typed d → step s d ≡ accepted x → Good x
unfolding step
step_good s (reads k) x G t e = let q = bound (read s k) (λ o. accepted s) e in subst (λ (y : State). Good y) (same_accepted s x q.2) G
step_good s (writes k v c) x G t e =
    let q = bound (write s k v c) (λ d. accepted d.state) e in subst (λ (y : State). Good y) (same_accepted q.0.state x q.2) (put_down_good s k (value v) c q.0 G (write_accepted s k v c q.0 G t q.1))
step_good s (deletes k c) x G t e =
    let q = bound (delete s k c) (λ d. accepted d.state) e in subst (λ (y : State). Good y) (same_accepted q.0.state x q.2) (put_down_good s k deleted c q.0 G (delete_accepted s k c q.0 G q.1))
step_good s (takes_in m) x G t e = take_in_good s m x G e
step_good s (asks to) x G t e = let q = bound (ask s to) (λ a. accepted s) e in subst (λ (y : State). Good y) (same_accepted s x q.2) G
step_good s (replies a) x G t e = let q = bound (reply s a) (λ r. accepted s) e in subst (λ (y : State). Good y) (same_accepted s x q.2) G
step_good s (repairs r) x G t e = repair_good s r x G e
step_good s strips x G t e = subst (λ (y : State). Good y) (same_accepted (strip_pass s).state x e) (strip_pass_good s G)

-- start gives a good state
pub starts_good : (n : Controller) (t : CrewTable) (s : State) → is_table t ≡ true → start n t ≡ accepted s → good_state s ≡ true
starts_good n t s table e = facts_good s (start_good n t s table e)

-- and every accepted step leaves one
pub stays_good : (s : State) (d : Step) (x : State) → good_state s ≡ true → Typed d → step s d ≡ accepted x → good_state x ≡ true
stays_good s d x g t e = facts_good x (step_good s d x (good_facts s g) t e)
