-- An ask and a reply keep the invariant of a run. Assumes nothing.
use Prim.Native.Nat.{◌≤◌}
use mathlib.Core.Path.{◌≡◌, sym, ap, ◌∙◌, subst}
use mathlib.Core.Logic.{◌⊎◌, inl, inr, ⊎_elim}
use mathlib.Core.Bool.{Bool, true, false, ◌&&◌, not}
use mathlib.Core.List.Memᴰ
use mathlib.Core.List.{List, []}
use native.Mathlib.Nat.{le_refl}
use Rattle.numbers.specs.declared.Controller.{Controller}
use Rattle.numbers.specs.declared.Key.{Key}
use Rattle.numbers.specs.Words.{some?, ascends?, map, place_all}
use Rattle.numbers.specs.Numbers.{is_controller, same_controller}
use Rattle.numbers.specs.Key.{key_before}
use Rattle.numbers.proofs.Tests.{by_test, and_left, and_right, and_both, or_cases, or_inl, or_inr, ◌∈◌}
use Rattle.numbers.proofs.Lists.{in_keep, keep_in, some_in, in_some, in_map, map_in, in_place_all, in_left}
use Rattle.numbers.proofs.Controllers.{Crew, same_controllers, controller_itself}
use Rattle.numbers.proofs.Dots.{tied_keys}
use Rattle.refusal.specs.declared.Refusal.TheVariants.{IllFormed, OutOfRange, NotPeer, HistoryLost}
use Rattle.refusal.specs.Refusal.{accepted}
use Rattle.row.specs.Row.{has}
use Rattle.row.proofs.Members.{low_has}
use Rattle.meaning.specs.CrewTable.{CrewTable, jobs, holds, share_job}
use Rattle.meaning.specs.Clock.{Clock, row, in_clock}
use Rattle.meaning.specs.Object.{fill}
use Rattle.meaning.specs.State.{Stored, stored_before, Listed, State, peers, listed, look_up, local}
use Rattle.meaning.specs.Message.{Ask, Reply, ask_formed, reply_formed}
use Rattle.meaning.specs.Exchange.{other_peer, row_ahead_of_us, ask, lacking, as_stored, Replied, reply}
use Rattle.meaning.specs.Write.{Write}
use Rattle.laws.proofs.ContextLaws.{Named}
use Rattle.laws.proofs.Goodness.{Good}
use Rattle.laws.proofs.Settling.{Growing}
use Rattle.laws.proofs.Answers.{same_accepted, passes, passes_not}
use Rattle.laws.proofs.Sends.{sends_reply}
use Rattle.laws.proofs.Formed.{formed_reply, formed_ask}
use Rattle.crew.specs.Moment.{Sent, Moment, made, asking, replying, carries}
use Rattle.crew.proofs.Right.{Writes, At, History, Right, positive}
use Rattle.crew.proofs.Looking.{ascending_distinct}
use Rattle.crew.proofs.Knows.{Knows}
use Rattle.crew.proofs.Repaired.{Told, Brought, in_carries}
use Rattle.crew.proofs.Sound.{Sound}
use Rattle.crew.proofs.Listing.{Peer, peers_are, place_all_comes}
use Rattle.crew.proofs.Invariant.{In, ReplyRight, KnownToAll, Inv, Onward, out_onward, reply_onward}
use Rattle.crew.proofs.Calls.{good}

-- ---- ask

pub ask_is : (s : State) (n : Controller) (a : Ask) → ask s n ≡ accepted a → (a.sender ≡ s.own) × (a.clock ≡ s.clock)
unfolding ask
ask_is s n a e =
    let range = passes_not OutOfRange (is_controller n) _ e in
    let peer = passes_not NotPeer (other_peer s n) _ range.1 in
    let same = same_accepted (record { sender = s.own; addressee = n; clock = s.clock }) a peer.1 in
    (ap (λ (z : Ask). z.sender) (sym same), ap (λ (z : Ask). z.clock) (sym same))

pub asking_inv : (t : CrewTable) (All : Writes) (M : Moment) → Sound t M → Inv t All M → (n to : Controller) (a : Ask) → ask (M.state n) to ≡ accepted a → Inv t All (asking M a)
asking_inv t All M S I n to a e = unfold asking in record {
  knows = I.knows;
  seen_made = I.seen_made;
  outgoings = λ m h. out_onward t All M (asking M a) onward m (I.outgoings m h);
  asks = λ z h. ⊎_elim (λ f. subst (λ (y : Ask). Growing y.clock (M.state y.sender).clock) (sym f) new) (I.asks z) (Memᴰ.cases_cons h);
  replies = λ r h. reply_onward t All M (asking M a) onward r (I.replies r h);
  listed = I.listed;
  marks = I.marks;
}
  where
    onward : Onward M (asking M a)
    onward = unfold asking in record { rising = λ m k c. le_refl (row (M.state m).clock k).base; growing = λ m d c h. h; more = λ m w h. h; writes = λ w h. h }

    new : Growing a.clock (M.state a.sender).clock
    new d c h =
        let q = ask_is (M.state n) to a e in
        subst (λ (z : Controller). in_clock (M.state z).clock d ≡ true) (sym (q.0 ∙ S.own n)) (subst (λ (k : Clock). in_clock k d ≡ true) q.1 h)

-- ---- reply

shares : (t : CrewTable) (n m : Controller) → Peer t n m ≡ true → Peer t m n ≡ true
unfolding share_job
shares t n m p =
    ⊎_elim
    (λ e. or_inl (same_controller m n) (some? (λ j. holds t m j && holds t n j) jobs) (subst (λ (z : Controller). same_controller z n ≡ true) (same_controllers n m e) (controller_itself n)))
    (λ e.
    let q = some_in (λ j. holds t n j && holds t m j) jobs e in
    or_inr (same_controller m n) (some? (λ j. holds t m j && holds t n j) jobs)
    (in_some (λ j. holds t m j && holds t n j) jobs q.1 (and_both (holds t m q.0) (holds t n q.0) (and_right (holds t n q.0) (holds t m q.0) q.2) (and_left (holds t n q.0) (holds t m q.0) q.2))))
    (or_cases (same_controller n m) (some? (λ j. holds t n j && holds t m j) jobs) p)

-- the points of a reply
abbrev pub keys : State → Ask → List Key
keys s a = place_all key_before (map (λ l. l.key) (lacking s a)) []

pub record RepliedTo (s : State) (a : Ask) (r : Reply) : Type 0 where
  pub asker : Crew a.sender
  pub peer : Peer s.table s.own a.sender ≡ true
  pub message : record { sender = s.own; addressee = a.sender; clock = s.clock; points = map (as_stored s) (keys s a) } ≡ r

pub replied_to : (s : State) (a : Ask) (r : Replied) → reply s a ≡ accepted r → RepliedTo s a r.message
unfolding reply
replied_to s a r e =
    let formed = passes_not IllFormed (ask_formed s.table a) _ e in
    let peer = passes_not NotPeer (other_peer s a.sender && same_controller a.addressee s.own) _ formed.1 in
    let ahead = passes HistoryLost (row_ahead_of_us s a.clock) _ peer.1 in
    record {
      asker = (formed_ask s.table a formed.0).sender;
      peer = unfold other_peer peers in
          (and_right (not (same_controller a.sender s.own)) (Peer s.table s.own a.sender) (and_left (other_peer s a.sender) (same_controller a.addressee s.own) peer.0));
      message = ap (λ (z : Replied). z.message) (same_accepted _ r ahead.1);
    }

module _ (t : CrewTable) (All : Writes) (H : History t All) (M : Moment) (S : Sound t M) (I : Inv t All M) (n : Controller) (on : M.started n ≡ true)
    (a : Ask) (asked : a ∈ M.asks) (r : Replied) (e : reply (M.state n) a ≡ accepted r) where
  abbrev s₁ : State
  s₁ = M.state n

  abbrev msg : Reply
  msg = record { sender = s₁.own; addressee = a.sender; clock = s₁.clock; points = map (as_stored s₁) (keys s₁ a) }

  A : RepliedTo s₁ a r.message
  A = replied_to s₁ a r e

  G₁ : Good s₁
  G₁ = good t All H M S I n on

  K : Knows All (In (M.seen n)) s₁
  K = I.knows n

  formed : reply_formed s₁.table msg ≡ true
  formed = subst (λ (z : Reply). reply_formed s₁.table z ≡ true) (sym A.message) (sends_reply s₁ G₁ a r e).0

  ascending : ascends? stored_before msg.points ≡ true
  ascending = (formed_reply s₁.table msg formed).ascend

  -- a point sent is that of a listed dot, of a job that we hold
  key_held : (k : Key) → k ∈ keys s₁ a → holds s₁.table s₁.own k.job ≡ true
  unfolding lacking
  key_held k m =
      ⊎_elim (λ h. let q = in_map (λ l. l.key) (lacking s₁ a) h in subst (λ (z : Key). holds s₁.table s₁.own z.job ≡ true) (sym q.2) (G₁.lists q.0 (in_keep _ (listed s₁) q.1).0).held)
      (λ h. absurd (Memᴰ.not-nil h)) (in_place_all key_before (map (λ l. l.key) (lacking s₁ a)) [] m)

  of_sent : (P : Stored → Type 0) → ((k : Key) → k ∈ keys s₁ a → P (record { key = k; object = look_up k s₁.points })) → (p : Stored) → p ∈ msg.points → P p
  unfolding as_stored
  of_sent P h p m = let q = in_map (as_stored s₁) (keys s₁ a) m in subst P (sym q.2) (h q.0 q.1)

  -- a listed dot that the asker lacks brings its point
  key_sent : (k : Key) → k ∈ map (λ l. l.key) (lacking s₁ a) → carries msg k ≡ true
  unfolding as_stored
  key_sent k m = in_carries msg (as_stored s₁ k) (map_in (as_stored s₁) (keys s₁ a) (place_all_comes key_before (map (λ l. l.key) (lacking s₁ a)) [] m (λ x h q. tied_keys k x q)))

  -- what was seen of a write whose dot is in the asker's clock
  asker_seen : (w : Write) → All w → holds t a.sender w.key.job ≡ true → in_clock (M.state a.sender).clock w.dot ≡ true → w ∈ M.seen a.sender
  asker_seen w al held h =
      (I.knows a.sender).closed w al
      (subst (λ (z : Controller). holds (M.state a.sender).table z w.key.job ≡ true) (sym (S.own a.sender))
      (subst (λ (z : CrewTable). holds z a.sender w.key.job ≡ true) (sym (S.table a.sender)) held)) h

  module _ (w : Write) (al : All w) (held : holds t a.sender w.key.job ≡ true) (ours : w.dot.who ≡ s₁.own) (in_row : has (row s₁.clock s₁.own) w.dot.count ≡ true) where
    has_here : has (row s₁.clock w.dot.who) w.dot.count ≡ true
    has_here = subst (λ (z : Controller). has (row s₁.clock z) w.dot.count ≡ true) (sym ours) in_row

    in_clock_here : in_clock s₁.clock w.dot ≡ true
    unfolding in_clock
    in_clock_here = has_here

    peer_here : peers s₁ s₁.own w.dot.who ≡ true
    peer_here =
        rw (peers_are s₁ s₁.own w.dot.who)
        (or_inl (same_controller s₁.own w.dot.who) (share_job s₁.table s₁.own w.dot.who) (subst (λ (z : Controller). same_controller s₁.own z ≡ true) (sym ours) (controller_itself s₁.own)))

    -- we made it, so we have seen it
    seen_here : w ∈ M.seen n
    seen_here =
        K.closed w al
        (subst (λ (z : CrewTable). holds z s₁.own w.key.job ≡ true) (sym (S.table n)) (subst (λ (z : Controller). holds t z w.key.job ≡ true) ours (H.holder w al))) in_clock_here

    peer_of_ours : Peer t w.dot.who a.sender ≡ true
    peer_of_ours = subst (λ (z : Controller). Peer t z a.sender ≡ true) (sym ours) (subst (λ (z : CrewTable). Peer z s₁.own a.sender ≡ true) (S.table n) A.peer)

    peer_there : peers s₁ a.sender w.dot.who ≡ true
    peer_there =
        rw (peers_are s₁ a.sender w.dot.who)
        (subst (λ (z : CrewTable). Peer z a.sender w.dot.who ≡ true) (sym (S.table n)) (shares t w.dot.who a.sender peer_of_ours))

    abbrev entry_of : Listed
    entry_of = record { dot = w.dot; key = w.key }

    is_lacking : entry_of ∈ s₁.own_dots → has (row a.clock w.dot.who) w.dot.count ≡ false → entry_of ∈ lacking s₁ a
    unfolding lacking
    is_lacking m lacks =
        keep_in
        (λ l. peers s₁ s₁.own l.dot.who && peers s₁ a.sender l.dot.who && has (row s₁.clock l.dot.who) l.dot.count && not (has (row a.clock l.dot.who) l.dot.count) && holds s₁.table a.sender l.key.job)
        (listed s₁) (in_left s₁.own_dots s₁.foreign_dots m)
        (together
        peer_here peer_there has_here (ap not lacks)
        (subst (λ (z : CrewTable). holds z a.sender w.key.job ≡ true) (sym (S.table n)) held))
      where
        together : {p q x y z : Bool} → p ≡ true → q ≡ true → x ≡ true → y ≡ true → z ≡ true → (p && q && x && y && z) ≡ true
        together f g h i j = rw (f, g, h, i, j)

    brought : (w ∈ M.seen a.sender) ⊎ Brought (In (M.seen n)) msg w
    brought =
        ⊎_elim
        (λ m. by_test (has (row a.clock w.dot.who) w.dot.count)
        (λ h. inl (asker_seen w al held (I.asks a asked w.dot (H.by_crew w al) (unfold in_clock in h))))
        (λ f. inr (seen_here, key_sent w.key (map_in (λ l. l.key) (lacking s₁ a) (is_lacking (own_list m) f)))))
        (λ (known : KnownToAll t M w.dot). inl (asker_seen w al held (unfold in_clock in
        (low_has (row (M.state a.sender).clock w.dot.who) w.dot.count (positive t All H w al) (known a.sender A.asker peer_of_ours)))))
        (I.listed w (I.seen_made n w seen_here))
      where
        own_list : entry_of ∈ (M.state w.dot.who).own_dots → entry_of ∈ s₁.own_dots
        own_list m = subst (λ (z : Controller). entry_of ∈ (M.state z).own_dots) (ours ∙ S.own n) m

  told : Told All (In (M.seen a.sender)) (In (M.seen n)) t a.sender msg
  told = record {
    distinct = ascending_distinct msg.points ascending;
    right = of_sent (λ p. Right All p.key (At (In (M.seen n)) p.key) (fill t p.key.job s₁.clock p.object))
        (λ k m. subst (λ (z : CrewTable). Right All k (At (In (M.seen n)) k) (fill z k.job s₁.clock (look_up k s₁.points))) (S.table n) (unfold local in (K.right k (key_held k m))));
    named = of_sent (λ p. Named t p.key.job p.object.context) (λ k m. subst (λ (z : CrewTable). Named z k.job (look_up k s₁.points).context) (S.table n) (K.named k));
    brought = brought;
  }

  new_reply : ReplyRight t All M (record { message = r.message; seen = M.seen n })
  new_reply =
      subst (λ (z : Reply). ReplyRight t All M (record { message = z; seen = M.seen n })) A.message
      (record {
        told = told;
        rising = λ k c. subst (λ (z : Controller). (row s₁.clock k).base ≤ (row (M.state z).clock k).base) (sym (S.own n)) (le_refl (row s₁.clock k).base);
        made = I.seen_made n;
      })

  onward_reply : Onward M (replying M n r.message)
  onward_reply = unfold replying in record { rising = λ m k c. le_refl (row (M.state m).clock k).base; growing = λ m d c h. h; more = λ m w h. h; writes = λ w h. h }

  pub replying_inv : Inv t All (replying M n r.message)
  unfolding replying
  replying_inv = record {
    knows = I.knows;
    seen_made = I.seen_made;
    outgoings = λ m h. out_onward t All M (replying M n r.message) onward_reply m (I.outgoings m h);
    asks = I.asks;
    replies = λ z h. reply_onward t All M (replying M n r.message) onward_reply z
        (⊎_elim (λ f. subst (λ (y : Sent Reply). ReplyRight t All M y) (sym f) new_reply) (I.replies z) (Memᴰ.cases_cons h));
    listed = I.listed;
    marks = I.marks;
  }
