-- A repair keeps what a controller knows, if the reply has every point of which its row stands for a write that was not seen. Assumes nothing.
use mathlib.Core.Path.{◌≡◌, refl, sym, ap, ◌∙◌, subst}
use mathlib.Core.Logic.{◌⊎◌, inl, inr, ⊎_elim, ⊎_map}
use mathlib.Core.Bool.{true, false, ◌&&◌, ◌||◌}
use mathlib.Core.List.{List, [], ◌∷◌}
use native.Mathlib.Nat.{le_refl}
use Rattle.numbers.specs.declared.Controller.{Controller}
use Rattle.numbers.specs.declared.Dot.{Dot}
use Rattle.numbers.specs.declared.Key.{Key}
use Rattle.numbers.specs.Words.{some?, all?, map}
use Rattle.numbers.specs.Numbers.{same_controller}
use Rattle.numbers.specs.Key.{same_key}
use Rattle.numbers.proofs.Tests.{by_test, never, and_left, and_right, ◌∈◌}
use Rattle.numbers.proofs.Lists.{some_in, in_some, all_in, in_map, map_in}
use Rattle.numbers.proofs.Controllers.{Crew, same_controllers, controller_itself}
use Rattle.numbers.proofs.Dots.{same_keys, key_itself}
use Rattle.refusal.specs.declared.Refusal.TheVariants.{IllFormed, OutOfRange, NotPeer, HistoryLost, DotClash}
use Rattle.refusal.specs.Refusal.{accepted}
use Rattle.row.specs.declared.Row.{Row}
use Rattle.row.specs.Row.{has, unite}
use Rattle.row.proofs.Uniting.{unite_has, unite_base}
use Rattle.meaning.specs.CrewTable.{CrewTable, holds}
use Rattle.meaning.specs.Clock.{Clock, row, in_clock, with_row}
use Rattle.meaning.specs.Context.{fill_context}
use Rattle.meaning.specs.Object.{fill, merge}
use Rattle.meaning.specs.State.{Stored, State, local}
use Rattle.meaning.specs.Message.{Reply, reply_formed}
use Rattle.meaning.specs.Settle.{settled, settle}
use Rattle.meaning.specs.Exchange.{both_hold, other_peer, ahead_of_us, row_ahead_of_us, clashes, tidied, mended, repair}
use Rattle.meaning.specs.Write.{Write}
use Rattle.laws.proofs.ContextLaws.{Named, Rising, fill_named, higher_named}
use Rattle.laws.proofs.Entering.{united_row}
use Rattle.laws.proofs.Settling.{Growing}
use Rattle.laws.proofs.Answers.{same_accepted, passes, passes_not, bound, settle_accepted}
use Rattle.crew.specs.Moment.{carries}
use Rattle.crew.proofs.Right.{Writes, ◌∪◌, At, History, Right, merge_right}
use Rattle.crew.proofs.Looking.{Distinct}
use Rattle.crew.proofs.Knows.{Closed, Knows, local_named, Results, right_set, settled_knows}
use Rattle.crew.proofs.Storing.{closed_entered}

-- ---- the united clock

module _ (k : Clock) (m : Controller) (r : Row) where
  with_row_same : (n : Controller) → Crew n → same_controller n m ≡ true → row (with_row k m r) n ≡ unite (row k n) r
  with_row_same n c t = united_row k m r n c ∙ rw t

  with_row_other : (n : Controller) → Crew n → same_controller n m ≡ false → row (with_row k m r) n ≡ row k n
  with_row_other n c f = united_row k m r n c ∙ rw f

  pub with_row_has : (d : Dot) → Crew d.who → in_clock (with_row k m r) d ≡ true → (in_clock k d ≡ true) ⊎ ((d.who ≡ m) × (has r d.count ≡ true))
  unfolding in_clock
  with_row_has d c h =
      by_test (same_controller d.who m)
      (λ t. ⊎_map (λ x. x) (λ x. (same_controllers d.who m t, x)) ((unite_has (row k d.who) r d.count).0 (rw (with_row_same d.who c t) at h)))
      (λ f. inl (rw (with_row_other d.who c f) at h))

  pub with_row_brings : (d : Dot) → Crew d.who → d.who ≡ m → has r d.count ≡ true → in_clock (with_row k m r) d ≡ true
  unfolding in_clock
  with_row_brings d c e h =
      rw (with_row_same d.who c (subst (λ (z : Controller). same_controller d.who z ≡ true) e (controller_itself d.who))) ((unite_has (row k d.who) r d.count).1 (inr h))

  pub with_row_more : Growing k (with_row k m r)
  unfolding in_clock
  with_row_more d c h =
      by_test (same_controller d.who m) (λ t. rw (with_row_same d.who c t) ((unite_has (row k d.who) r d.count).1 (inl h))) (λ f. rw (with_row_other d.who c f) h)

  pub with_row_rising : Rising k (with_row k m r)
  with_row_rising n c =
      by_test (same_controller n m) (λ t. rw (with_row_same n c t) (unite_base (row k n) r)) (λ f. rw (with_row_other n c f) (le_refl (row k n).base))

-- ---- a reply

pub carries_in : (r : Reply) (k : Key) → carries r k ≡ true → (p : Stored) × (p ∈ r.points) × (k ≡ p.key)
unfolding carries
carries_in r k t = let q = some_in (λ p. same_key k p.key) r.points t in (q.0, q.1, same_keys k q.0.key q.2)

pub in_carries : (r : Reply) (p : Stored) → p ∈ r.points → carries r p.key ≡ true
unfolding carries
in_carries r p m = in_some (λ q. same_key p.key q.key) r.points m (key_itself p.key)

-- what a reply brings of what its sender had seen
abbrev pub Brought : Writes → Reply → Writes
Brought T r = λ w. T w × (carries r w.key ≡ true)

-- a reply as the run gives it, for its addressee own that has seen S: T is what its sender had seen
pub record Told (All S T : Writes) (t : CrewTable) (own : Controller) (r : Reply) : Type 0 where
  pub distinct : Distinct r.points
  pub right : (p : Stored) → p ∈ r.points → Right All p.key (At T p.key) (fill t p.key.job r.clock p.object)
  pub named : (p : Stored) → p ∈ r.points → Named t p.key.job p.object.context
  -- of what the sender's own row stands for, each write was seen here, or its point is in the reply
  pub brought : (w : Write) → All w → holds t own w.key.job ≡ true → w.dot.who ≡ r.sender
      → has (row r.clock r.sender) w.dot.count ≡ true → S w ⊎ Brought T r w

-- what an accepted repair has tested, and what it gives
pub record Mended (s : State) (r : Reply) (x : State) : Type 0 where
  pub formed : reply_formed s.table r ≡ true
  pub held : (p : Stored) → p ∈ r.points → holds s.table s.own p.key.job ≡ true
  pub from : other_peer s r.sender ≡ true
  pub to : r.addressee ≡ s.own
  pub state : tidied (settled s (with_row s.clock r.sender (row r.clock r.sender)) (map (mended s r) r.points)) r ≡ x

pub repaired : (s : State) (r : Reply) (x : State) → repair s r ≡ accepted x → Mended s r x
unfolding repair
repaired s r x e =
    let formed = passes_not IllFormed (reply_formed s.table r) _ e in
    let held = passes_not OutOfRange (all? (λ p. both_hold s r.sender p.key) r.points) _ formed.1 in
    let peer = passes_not NotPeer (other_peer s r.sender && same_controller r.addressee s.own) _ held.1 in
    let ahead = passes HistoryLost (some? (λ p. ahead_of_us s p.object) r.points || row_ahead_of_us s r.clock) _ peer.1 in
    let clash = passes DotClash (some? (λ p. some? (clashes s p.key) p.object.versions) r.points) _ ahead.1 in
    let bind = bound (settle s (with_row s.clock r.sender (row r.clock r.sender)) (map (mended s r) r.points)) _ clash.1 in
    let after = settle_accepted s (with_row s.clock r.sender (row r.clock r.sender)) (map (mended s r) r.points) bind.1 in
    record {
      formed = formed.0;
      held = λ p m. and_left (holds s.table s.own p.key.job) (holds s.table r.sender p.key.job)
          (unfold both_hold in (all_in (λ q. both_hold s r.sender q.key) r.points held.0 m));
      from = and_left (other_peer s r.sender) (same_controller r.addressee s.own) peer.0;
      to = same_controllers r.addressee s.own (and_right (other_peer s r.sender) (same_controller r.addressee s.own) peer.0);
      state = ap (λ (z : State). tidied z r) after.1 ∙ same_accepted (tidied bind.0 r) x bind.2;
    }

-- the results are of the reply's points
pub distinct_mended : (s : State) (r : Reply) (ps : List Stored) → Distinct ps → Distinct (map (mended s r) ps)
unfolding mended
distinct_mended s r [] d = tt
distinct_mended s r (p ∷ ps) d =
    let rest = distinct_mended s r ps d.1 in
    ((λ q m. let x = in_map (mended s r) ps m in subst (λ (z : Stored). same_key p.key z.key ≡ false) (sym x.2) (d.0 x.0 x.1)), rest)

module _ (All S T : Writes) (s : State) (H : History s.table All) (K : Knows All S s) (r : Reply) (G : Told All S T s.table s.own r)
    (held : (p : Stored) → p ∈ r.points → holds s.table s.own p.key.job ≡ true) where
  abbrev X : Writes
  X = Brought T r

  abbrev rs : List Stored
  rs = map (mended s r) r.points

  abbrev united : Clock
  united = with_row s.clock r.sender (row r.clock r.sender)

  mended_key : (p : Stored) → (mended s r p).key ≡ p.key
  unfolding mended
  mended_key p = refl

  right_of : (p : Stored) → p ∈ r.points → Right All p.key (At (S ∪ X) p.key) (mended s r p).object
  unfolding mended
  right_of p m =
      right_set All (At S p.key ∪ At T p.key) (At (S ∪ X) p.key) p.key (mended s r p).object
      (λ w. ⊎_elim (λ h. (inl h.0, h.1)) (λ h. (inr (h.0, subst (λ (z : Key). carries r z ≡ true) (sym h.1) (in_carries r p m)), h.1)))
      (λ w h. ⊎_map (λ x. (x, h.1)) (λ x. (x.0, h.1)) h.0)
      (merge_right s.table All H p.key (At S p.key) (At T p.key) (local s p.key) (fill s.table p.key.job r.clock p.object) (K.right p.key (held p m)) (G.right p m))

  named_of : (p : Stored) → p ∈ r.points → Named s.table p.key.job (mended s r p).object.context
  unfolding mended merge fill
  named_of p m =
      higher_named s.table p.key.job (local s p.key).context (fill_context s.table p.key.job r.clock p.object.context) (local_named All S s K p.key)
      (fill_named s.table p.key.job r.clock p.object.context (G.named p m))

  of_each : (P : Stored → Type 0) → ((p : Stored) → p ∈ r.points → P (mended s r p)) → (q : Stored) → q ∈ rs → P q
  of_each P h q m = let x = in_map (mended s r) r.points m in subst P (sym x.2) (h x.0 x.1)

  united_closed : Closed All (S ∪ X) s.table s.own united
  united_closed w al hd h =
      ⊎_elim (λ x. inl (K.closed w al hd x)) (λ x. G.brought w al hd x.0 x.1)
      (with_row_has s.clock r.sender (row r.clock r.sender) w.dot (H.by_crew w al) h)

  pub each_right : (q : Stored) → q ∈ rs → Right All q.key (At (S ∪ X) q.key) q.object
  each_right =
      of_each (λ q. Right All q.key (At (S ∪ X) q.key) q.object)
      (λ p m. subst (λ (k : Key). Right All k (At (S ∪ X) k) (mended s r p).object) (sym (mended_key p)) (right_of p m))

  results : Results All S (S ∪ X) s united rs
  results = record {
    distinct = distinct_mended s r r.points G.distinct;
    each_right = each_right;
    each_named = of_each (λ q. Named s.table q.key.job q.object.context)
        (λ p m. subst (λ (k : Key). Named s.table k.job (mended s r p).object.context) (sym (mended_key p)) (named_of p m));
    more = λ w. inl;
    elsewhere = λ w h away. ⊎_elim (λ x. x)
        (λ x.
        let p = carries_in r w.key x.1 in
        never (subst (λ (z : Key). same_key w.key z ≡ true) (p.2 ∙ sym (mended_key p.0)) (key_itself w.key)) (away (mended s r p.0) (map_in (mended s r) r.points p.1))) h;
    closed_after = closed_entered s.table All (S ∪ X) H rs each_right s.own united united_closed;
    rising = with_row_rising s.clock r.sender (row r.clock r.sender);
  }

  -- raising the watermark and forgetting listed dots touch nothing of it
  tidied_knows : (t : State) → Knows All (S ∪ X) t → Knows All (S ∪ X) (tidied t r)
  unfolding tidied local
  tidied_knows t k = record { right = k.right; closed = k.closed; named = k.named }

  -- an accepted repair: what was seen, and what the sender had seen of the reply's points
  pub repair_knows : (x : State) → Mended s r x → Knows All (S ∪ Brought T r) x
  repair_knows x A =
      subst (λ (z : State). Knows All (S ∪ X) z) A.state
      (tidied_knows (settled s united rs) (settled_knows All S (S ∪ X) s H K united rs results))
