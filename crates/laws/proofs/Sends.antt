-- What an accepted step writes is a well-formed message for every holder of the same table: refusal 4 does not meet it. Assumes nothing.
use Prim.Native.Nat.{ℕ, ◌≤◌}
use mathlib.Core.Path.{◌≡◌, refl, sym, ap, ◌∙◌, subst}
use mathlib.Core.Logic.{◌⊎◌, ⊎_elim}
use mathlib.Core.Bool.{true, false, ◌&&◌, ◌||◌, not}
use mathlib.Core.List.Memᴰ
use mathlib.Core.List.{List, [], ◌∷◌}
use native.Mathlib.Omega.{arith}
use lib.ListN.{length, length-append}
use borrow.Author.Tests.{eq-eqb, not-true}
use Rattle.numbers.specs.declared.Controller.{Controller}
use Rattle.numbers.specs.declared.Key.{Key}
use Rattle.numbers.specs.Words.{place_all, map}
use Rattle.numbers.specs.Numbers.{is_controller, is_counter, same_controller}
use Rattle.numbers.specs.Key.{is_key, key_before}
use Rattle.numbers.proofs.Tests.{by_test, never, and_left, and_right, and_both, or_cases, or_inl, or_inr, ◌∈◌, here}
use Rattle.numbers.proofs.Lists.{some_in, in_some, in_keep, in_all, in_map, map_length, in_place_all, clause, passed, ◌and_also◌, all_passed}
use Rattle.numbers.proofs.Controllers.{Crew, is_crew, same_controllers}
use Rattle.numbers.proofs.Orders.{Ascends, place_all_ascends, map_ascends, keep_length, place_all_length}
use Rattle.numbers.proofs.Dots.{key_order}
use Rattle.refusal.specs.declared.Refusal.TheVariants.{IllFormed, OutOfRange, NotPeer, HistoryLost}
use Rattle.refusal.specs.Refusal.{accepted}
use Rattle.row.specs.Row.{fits, sound}
use Rattle.meaning.specs.CrewTable.{CrewTable, jobs, holds, share_job, in_some_job}
use Rattle.meaning.specs.Clock.{row}
use Rattle.meaning.specs.Context.{Context, no_context, covers, fill_context}
use Rattle.meaning.specs.Object.{Contents, Version, Object}
use Rattle.meaning.specs.State.{Stored, stored_before, Listed, State, peers, listed, dots_of, look_up}
use Rattle.meaning.specs.Message.{Outgoing, Ask, point_formed, covers_all, is_none, clock_formed, dots_agree, outgoing_formed, ask_formed, reply_formed}
use Rattle.meaning.specs.OwnSteps.{Done, written}
use Rattle.meaning.specs.Exchange.{other_peer, row_ahead_of_us, ask, lacking, as_stored, Replied, reply}
use Rattle.meaning.specs.Good.{listed_formed}
use Rattle.laws.proofs.ContextLaws.{no_entry}
use Rattle.laws.proofs.Facts.{every_controller, ContextFacts, PointFacts, point_of_facts, each_covered, is_none_seen, at_every_row, in_dots, at_agree}
use Rattle.laws.proofs.Goodness.{Good}
use Rattle.laws.proofs.Putting.{looked_up}
use Rattle.laws.proofs.Answers.{same_accepted, passes, passes_not}
use Rattle.laws.proofs.StaysGood.{PutDown}

-- ---- a write's and a delete's message

pub sends_outgoing : (s : State) (k : Key) (b : Contents) (c : Context) (d : Done) → Good s → PutDown s k b c d → outgoing_formed s.table d.message ≡ true
sends_outgoing s k b c d G P =
    subst (λ (m : Outgoing). outgoing_formed s.table m ≡ true) P.message
    (unfold outgoing_formed in
    (all_passed
    (is_crew s.own G.own_crew
    and_also point_of_facts s.table k (written s k b c)
    (record {
      key_good = P.fit.key_good (record { key = k; object = written s k b c }) (here refl);
      few = P.limits.versions_few (record { key = k; object = written s k b c }) (here refl);
      versions = P.fit.versions (record { key = k; object = written s k b c }) (here refl);
      context = P.fit.context (record { key = k; object = written s k b c }) (here refl);
    })
    and_also each_covered (written s k b c).context (written s k b c).versions (λ v m. P.fit.covered (record { key = k; object = written s k b c }) v (here refl) m)
    and_also passed)))

-- ---- the own clock, in an ask and in a reply

-- who shares a job is in one
sharer : (t : CrewTable) (n m : Controller) → share_job t n m ≡ true → (in_some_job t n ≡ true) × (in_some_job t m ≡ true)
unfolding share_job in_some_job
sharer t n m e =
    let q = some_in (λ j. holds t n j && holds t m j) jobs e in (
      in_some (holds t n) jobs q.1 (and_left (holds t n q.0) (holds t m q.0) q.2),
      in_some (holds t m) jobs q.1 (and_right (holds t n q.0) (holds t m q.0) q.2),
    )

-- who has another peer is in some job
pub has_peer : (s : State) (m : Controller) → other_peer s m ≡ true → in_some_job s.table s.own ≡ true
unfolding other_peer peers
has_peer s m t =
    ⊎_elim
    (λ e. never (subst (λ (x : Controller). same_controller x s.own ≡ true) (same_controllers s.own m e) (Rattle.numbers.proofs.Controllers.controller_itself s.own))
    (not-true (same_controller m s.own) (and_left (not (same_controller m s.own)) (same_controller s.own m || share_job s.table s.own m) t)))
    (λ e. (sharer s.table s.own m e).0)
    (or_cases (same_controller s.own m) (share_job s.table s.own m) (and_right (not (same_controller m s.own)) (same_controller s.own m || share_job s.table s.own m) t))

sends_clock : (s : State) → Good s → in_some_job s.table s.own ≡ true → clock_formed s.table s.own s.clock ≡ true
unfolding clock_formed
sends_clock s G working =
    all_passed
    (eq-eqb (length s.clock) 8 G.clock_eight
    and_also at_every_row (λ r. fits r && sound r) s.clock (λ n c. and_both (fits (row s.clock n)) (sound (row s.clock n)) (G.row_sound n c).0 (G.row_sound n c).1)
    and_also every_controller (λ n. in_some_job s.table n || is_none (row s.clock n)) idle
    and_also eq-eqb (row s.clock s.own).bits 0 G.own_whole
    and_also passed)
  where
    no_peer : (n : Controller) → in_some_job s.table n ≡ false → peers s s.own n ≡ false
    no_peer n f =
        by_test (peers s s.own n)
        (λ t. ⊎_elim (λ e. never (subst (λ (x : Controller). in_some_job s.table x ≡ true) (same_controllers s.own n e) working) f)
        (λ e. never (sharer s.table s.own n e).1 f) (or_cases (same_controller s.own n) (share_job s.table s.own n) (unfold peers in t)))
        (λ t. t)

    idle : (n : Controller) → Crew n → (in_some_job s.table n || is_none (row s.clock n)) ≡ true
    idle n c =
        by_test (in_some_job s.table n) (λ t. or_inl (in_some_job s.table n) (is_none (row s.clock n)) t)
        (λ t. or_inr (in_some_job s.table n) (is_none (row s.clock n)) (is_none_seen (row s.clock n) (G.rows_peers n c (no_peer n t))))

pub sends_ask : (s : State) (to : Controller) (a : Ask) → Good s → ask s to ≡ accepted a → ask_formed s.table a ≡ true
unfolding ask
sends_ask s to a G e =
    let range = passes_not OutOfRange (is_controller to) _ e in
    let peer = passes_not NotPeer (other_peer s to) _ range.1 in
    subst (λ (x : Ask). ask_formed s.table x ≡ true) (same_accepted (record { sender = s.own; addressee = to; clock = s.clock }) a peer.1)
    (unfold ask_formed in (all_passed (is_crew s.own G.own_crew and_also range.0 and_also sends_clock s G (has_peer s to peer.0) and_also passed)))

-- ---- a reply

module _ (s : State) (G : Good s) (a : Ask) where
  abbrev keys : List Key
  keys = place_all key_before (map (λ l. l.key) (lacking s a)) []

  abbrev sent : List Stored
  sent = map (as_stored s) keys

  lacking_listed : {l : Listed} → l ∈ lacking s a → l ∈ listed s
  unfolding lacking
  lacking_listed m = (in_keep _ (listed s) m).0

  -- a key sent is that of a listed dot
  key_listed : (k : Key) → k ∈ keys → (l : Listed) × (l ∈ listed s) × (k ≡ l.key)
  key_listed k m =
      ⊎_elim (λ h. let q = in_map (λ l. l.key) (lacking s a) h in (q.0, lacking_listed q.1, q.2)) (λ h. absurd (Memᴰ.not-nil h))
      (in_place_all key_before (map (λ l. l.key) (lacking s a)) [] m)

  key_good : (k : Key) → k ∈ keys → is_key k ≡ true
  key_good k m =
      let q = key_listed k m in
      let l = q.0 in
      subst (λ (x : Key). is_key x ≡ true) (sym q.2)
      (unfold listed_formed in (clause (is_key l.key ∷ is_controller l.dot.who ∷ holds s.table l.dot.who l.key.job ∷ is_counter l.dot.count ∷ []) (G.lists l q.1).formed 0))

  no_context_facts : (j : ℕ) → ContextFacts s.table j no_context
  no_context_facts j = record { eight = refl; in_range = λ n r. omega (arith, no_entry n r); named = λ n r h. no_entry n r }

  sent_facts : (k : Key) → k ∈ keys → PointFacts s.table k (look_up k s.points)
  sent_facts k m =
      ⊎_elim
      (λ q. subst (λ (o : Object). PointFacts s.table k o) (sym q.3) (subst (λ (x : Key). PointFacts s.table x q.0.object) q.2 (G.points q.0 q.1).formed))
      (λ e. subst (λ (o : Object). PointFacts s.table k o) (sym e)
      (record { key_good = key_good k m; few = omega arith; versions = record { each = λ v h. absurd (Memᴰ.not-nil h); ascend = refl }; context = no_context_facts k.job }))
      (looked_up k s.points)

  -- a version sent stands in the record of its key
  sent_from : (k : Key) (v : Version) → v ∈ (look_up k s.points).versions → (p : Stored) × (p ∈ s.points) × (p.key ≡ k) × (look_up k s.points ≡ p.object)
  sent_from k v m =
      ⊎_elim (λ q. q) (λ e. absurd (Memᴰ.not-nil (subst (λ (o : Object). v ∈ o.versions) e m))) (looked_up k s.points)

  sent_covered : (k : Key) (v : Version) → v ∈ (look_up k s.points).versions → covers (fill_context s.table k.job s.clock (look_up k s.points).context) v.dot ≡ true
  sent_covered k v m =
      let q = sent_from k v m in
      subst (λ (o : Object). covers (fill_context s.table k.job s.clock o.context) v.dot ≡ true) (sym q.3)
      (subst (λ (x : Key). covers (fill_context s.table x.job s.clock q.0.object.context) v.dot ≡ true) q.2
      ((G.points q.0 q.1).covered v (subst (λ (o : Object). v ∈ o.versions) q.3 m)))

  -- what holds of each key sent holds of each point sent
  of_sent : (P : Stored → Type 0) → ((k : Key) → k ∈ keys → P (record { key = k; object = look_up k s.points })) → (p : Stored) → p ∈ sent → P p
  unfolding as_stored
  of_sent P h p m = let q = in_map (as_stored s) keys m in subst P (sym q.2) (h q.0 q.1)

  sent_apart : (p q : Stored) (v w : Version) → p ∈ sent → q ∈ sent → v ∈ p.object.versions → w ∈ q.object.versions → v.dot ≡ w.dot → p.key ≡ q.key
  sent_apart p q v w mp mq =
      of_sent (λ x. v ∈ x.object.versions → w ∈ q.object.versions → v.dot ≡ w.dot → x.key ≡ q.key)
      (λ k mk. of_sent (λ y. v ∈ (look_up k s.points).versions → w ∈ y.object.versions → v.dot ≡ w.dot → k ≡ y.key)
      (λ j mj mv mw e.
      let a = sent_from k v mv in
      let b = sent_from j w mw in
      sym a.2
      ∙ G.apart a.0 b.0 v w a.1 b.1 (subst (λ (o : Object). v ∈ o.versions) a.3 mv) (subst (λ (o : Object). w ∈ o.versions) b.3 mw) e
      ∙ b.2) q mq) p mp

  sent_agree : dots_agree (dots_of sent) (dots_of sent) ≡ true
  sent_agree =
      at_agree (dots_of sent) (dots_of sent)
      (λ l m p q e. let x = in_dots sent p in let y = in_dots sent q in
      ap (λ (z : Listed). z.key) x.same
      ∙ sent_apart x.point y.point x.version y.version x.point_in y.point_in x.version_in y.version_in
      (sym (ap (λ (z : Listed). z.dot) x.same) ∙ e ∙ ap (λ (z : Listed). z.dot) y.same)
      ∙ sym (ap (λ (z : Listed). z.key) y.same))

  sent_ascends : Ascends stored_before sent
  sent_ascends =
      map_ascends key_before stored_before (as_stored s) (λ x y h. unfold as_stored in h) keys
      (place_all_ascends key_before key_order (map (λ l. l.key) (lacking s a)) [] refl)

  -- "the lists name at most 120 points"
  pub sent_few : length sent ≤ 120
  sent_few =
      omega (
        arith,
        map_length (as_stored s) keys,
        place_all_length key_before (map (λ l. l.key) (lacking s a)) [],
        map_length (λ l. l.key) (lacking s a),
        lacking_few,
        length-append s.own_dots s.foreign_dots,
        G.own_few,
        G.foreign_few,
      )
    where
      lacking_few : length (lacking s a) ≤ length (listed s)
      lacking_few = unfold lacking in (keep_length Rattle.meaning.specs.State.listed_before _ (listed s))

  pub sends_reply : (r : Replied) → reply s a ≡ accepted r → (reply_formed s.table r.message ≡ true) × (length r.message.points ≤ 120)
  unfolding reply
  sends_reply r e =
      let formed = passes_not IllFormed (ask_formed s.table a) _ e in
      let peer = passes_not NotPeer (other_peer s a.sender && same_controller a.addressee s.own) _ formed.1 in
      let ahead = passes HistoryLost (row_ahead_of_us s a.clock) _ peer.1 in
      let peered = and_left (other_peer s a.sender) (same_controller a.addressee s.own) peer.0 in
      let asker : is_controller a.sender ≡ true = unfold ask_formed in (clause (is_controller a.sender ∷ is_controller a.addressee ∷ clock_formed s.table a.sender a.clock ∷ []) formed.0 0) in
      subst (λ (x : Replied). (reply_formed s.table x.message ≡ true) × (length x.message.points ≤ 120))
      (same_accepted (record { message = record { sender = s.own; addressee = a.sender; clock = s.clock; points = sent }; count = length sent }) r ahead.1)
      (whole asker peered, sent_few)
    where
      whole : is_controller a.sender ≡ true → other_peer s a.sender ≡ true
          → reply_formed s.table (record { sender = s.own; addressee = a.sender; clock = s.clock; points = sent }) ≡ true
      whole asker peered =
          unfold reply_formed in
          (all_passed
          (is_crew s.own G.own_crew
          and_also asker
          and_also sends_clock s G (has_peer s a.sender peered)
          and_also in_all (λ p. point_formed s.table p.key p.object) sent (of_sent (λ p. point_formed s.table p.key p.object ≡ true) (λ k m. point_of_facts s.table k (look_up k s.points) (sent_facts k m)))
          and_also in_all (λ p. covers_all (fill_context s.table p.key.job s.clock p.object.context) p.object.versions) sent
          (of_sent (λ p. covers_all (fill_context s.table p.key.job s.clock p.object.context) p.object.versions ≡ true) (λ k m. each_covered _ _ (sent_covered k)))
          and_also sent_ascends
          and_also sent_agree
          and_also passed))
