-- Every call keeps the invariant of a run. Assumes nothing.
use Prim.Native.Nat.{◌+◌, ◌≤◌}
use mathlib.Core.Path.{◌≡◌, refl, sym, ap, subst}
use mathlib.Core.Logic.{◌⊎◌, inl, inr, ⊎_elim}
use mathlib.Core.Bool.{true}
use mathlib.Core.List.Memᴰ
use mathlib.Core.List.{List, [], ◌∷◌, ◌++◌}
use native.Mathlib.Nat.{le_refl, le_trans}
use Rattle.numbers.specs.declared.Controller.{Controller}
use Rattle.numbers.specs.declared.Key.{Key}
use Rattle.numbers.specs.Numbers.{is_counter, same_controller}
use Rattle.numbers.proofs.Tests.{never, ◌∈◌}
use Rattle.numbers.proofs.Lists.{in_left, in_right}
use Rattle.numbers.proofs.Controllers.{Crew, controller_itself}
use Rattle.meaning.specs.CrewTable.{CrewTable}
use Rattle.meaning.specs.Clock.{Clock, row, in_clock}
use Rattle.meaning.specs.Object.{merge}
use Rattle.meaning.specs.State.{Stored, Listed, State, Watermark, mark, dots_of, local}
use Rattle.meaning.specs.Message.{Outgoing, Reply}
use Rattle.meaning.specs.Settle.{settled}
use Rattle.meaning.specs.OwnSteps.{strip_pass}
use Rattle.meaning.specs.Exchange.{tidied}
use Rattle.meaning.specs.Write.{Write}
use Rattle.laws.proofs.ContextLaws.{Named, Rising, higher_named}
use Rattle.laws.proofs.Goodness.{Good}
use Rattle.laws.proofs.Entering.{entered_more}
use Rattle.laws.proofs.Settling.{Growing}
use Rattle.laws.proofs.StaysGood.{TakenIn}
use Rattle.crew.specs.Moment.{Sent, Moment, for, starting, seeing, made, brings}
use Rattle.crew.proofs.Right.{Writes, ◌∪◌, At, History, Right}
use Rattle.crew.proofs.Looking.{ascending_distinct}
use Rattle.crew.proofs.Knows.{Knows, local_named}
use Rattle.crew.proofs.Storing.{dots_counted, take_in_right, take_in_knows}
use Rattle.crew.proofs.Storing as storing
use Rattle.crew.proofs.Stripped.{strip_pass_knows}
use Rattle.crew.proofs.Steps.{for_each, Steps, stays, take_in_steps, strip_steps}
use Rattle.crew.proofs.Sound.{Sound}
use Rattle.crew.proofs.Listing.{own_stays, Kept, tidied_kept}
use Rattle.crew.proofs.Invariant.{In, knows_set, in_brings, brings_in, OutRight, Inv, Onward, out_onward, ask_onward, reply_onward, for_both, Stepped, rising_after, growing_after, marks_after, listed_after, seeing_inv}

-- ---- what storing does to the clock and the lists

pub settled_growing : (s : State) (k : Clock) (rs : List Stored) → Growing s.clock k → ((l : Listed) → l ∈ dots_of rs → is_counter l.dot.count ≡ true) → Growing s.clock (settled s k rs).clock
unfolding settled
settled_growing s k rs more counted d c h = entered_more k rs counted d c (more d c h)

pub settled_kept : (s : State) → Good s → (k : Clock) (rs : List Stored) → Kept s (settled s k rs)
unfolding settled
settled_kept s G k rs l m = inl (own_stays s G rs l m)

pub settled_marks : (s : State) (k : Clock) (rs : List Stored) → (settled s k rs).watermark ≡ s.watermark
unfolding settled
settled_marks s k rs = refl

-- own dots listed before a repair are listed after it, or the watermark of every peer has them
pub mended_kept : (s : State) → Good s → (k : Clock) (rs : List Stored) (r : Reply) → Kept s (tidied (settled s k rs) r)
mended_kept s G k rs r l m = unfold settled in (tidied_kept (settled s k rs) r l (unfold settled in (own_stays s G rs l m)))

module _ (t : CrewTable) (All : Writes) (M : Moment) (S : Sound t M) (I : Inv t All M) (n : Controller) (x : State) (D : Steps (M.state n) x) where
  pub rises_to : (m : Controller) → Rising (M.state m).clock (for n x M.state m).clock
  rises_to = for_each (λ m z. Rising (M.state m).clock z.clock) n x M.state D.rising (λ m f k c. le_refl (row (M.state m).clock k).base)

  -- a watermark that is not touched is no higher than what is had
  pub same_marks : x.watermark ≡ (M.state n).watermark → (m k : Controller) → Crew m → Crew k → mark x.watermark m k ≤ (row (for n x M.state m).clock k).base
  same_marks e m k cm ck =
      subst (λ (z : Watermark). mark z m k ≤ (row (for n x M.state m).clock k).base) (sym e) (le_trans (I.marks n m k cm ck) (rises_to m k ck))

  -- at n there is x
  pub at_n : (P : State → Type 0) → P x → P (for n x M.state n)
  at_n P p = for_each (λ m z. m ≡ n → P z) n x M.state (λ e. p) (λ m f e. never (subst (λ (z : Controller). same_controller z n ≡ true) (sym e) (controller_itself n)) f) n refl

-- ---- start

pub starting_inv : (t : CrewTable) (All : Writes) (M : Moment) → Sound t M → Inv t All M → (n : Controller) (s : State) → M.state n ≡ s → M.seen n ≡ [] → Inv t All (starting M n s)
starting_inv t All M S I n s e f = whole
  where
    D : Stepped M n s
    D = record {
      steps = stays (M.state n) s e;
      growing = λ d c h. subst (λ (z : State). in_clock z.clock d ≡ true) e h;
      kept = λ l m. inl (subst (λ (z : State). l ∈ z.own_dots) e m);
      marks = same_marks t All M S I n s (stays (M.state n) s e) (ap (λ (z : State). z.watermark) (sym e));
    }

    onward : Onward M (starting M n s)
    onward = unfold starting in record {
      rising = rising_after t All M S I n s D;
      growing = growing_after t All M S I n s D;
      more = for_each (λ m q. (w : Write) → w ∈ M.seen m → w ∈ q) n [] M.seen (λ w h. subst (λ (q : List Write). w ∈ q) f h) (λ m g w h. h);
      writes = λ w h. h;
    }

    whole : Inv t All (starting M n s)
    whole = unfold starting in record {
      knows = for_both (λ m z q. Knows All (In q) z) n s M.state [] M.seen
          (subst (λ (z : State). Knows All (In []) z) e (subst (λ (q : List Write). Knows All (In q) (M.state n)) f (I.knows n))) (λ m g. I.knows m);
      seen_made = for_each (λ m q. (w : Write) → w ∈ q → w ∈ M.writes) n [] M.seen (λ w h. I.seen_made n w (subst (λ (q : List Write). w ∈ q) (sym f) h)) (λ m g. I.seen_made m);
      outgoings = λ m h. out_onward t All M (starting M n s) onward m (I.outgoings m h);
      asks = λ a h. ask_onward t All M (starting M n s) onward a (I.asks a h);
      replies = λ r h. reply_onward t All M (starting M n s) onward r (I.replies r h);
      listed = listed_after t All M S I n s D;
      marks = marks_after t All M S I n s D;
    }

-- ---- take in, repair, strip pass

module _ (t : CrewTable) (All : Writes) (H : History t All) (M : Moment) (S : Sound t M) (I : Inv t All M) (n : Controller) (on : M.started n ≡ true) where
  abbrev s : State
  s = M.state n

  abbrev T : Writes
  T = In (M.seen n)

  pub good : Good s
  good = S.good n (S.crew n on)

  pub history_here : History s.table All
  history_here = subst (λ (z : CrewTable). History z All) (sym (S.table n)) H

  module _ (m : Sent Outgoing) (R : OutRight t All M m) (x : State) (A : TakenIn s m.message x) where
    abbrev k : Key
    k = m.message.key

    named_here : Named s.table k.job m.message.object.context
    named_here = subst (λ (z : CrewTable). Named z k.job m.message.object.context) (sym (S.table n)) R.named

    abbrev rs : List Stored
    rs = record { key = k; object = merge (local s k) m.message.object } ∷ []

    merged_named : Named s.table k.job (merge (local s k) m.message.object).context
    unfolding merge
    merged_named = higher_named s.table k.job (local s k).context m.message.object.context (local_named All T s (I.knows n) k) named_here

    pub taken_right : (q : Stored) → q ∈ rs → Right All q.key (At (T ∪ At (In m.seen) k) q.key) q.object
    taken_right =
        storing.each_right All T (At (In m.seen) k) s history_here (I.knows n) k (merge (local s k) m.message.object)
        (take_in_right All T (In m.seen) s history_here (I.knows n) m.message R.right named_here x A) merged_named

    counted : (l : Listed) → l ∈ dots_of rs → is_counter l.dot.count ≡ true
    counted = dots_counted s.table All (T ∪ At (In m.seen) k) history_here rs taken_right

    pub take_in_stepped : Stepped M n x
    take_in_stepped = subst (λ (z : State). Stepped M n z) A.state (record {
      steps = subst (λ (z : State). Steps s z) (sym A.state) (take_in_steps s m.message x A);
      growing = settled_growing s s.clock rs (λ d c h. h) counted;
      kept = settled_kept s good s.clock rs;
      marks = same_marks t All M S I n (settled s s.clock rs) (subst (λ (z : State). Steps s z) (sym A.state) (take_in_steps s m.message x A)) (settled_marks s s.clock rs);
    })

    brought : Knows All (In (brings m ++ M.seen n)) x
    brought =
        knows_set All (T ∪ At (In m.seen) k) (In (brings m ++ M.seen n)) x to from
        (take_in_knows All T (In m.seen) s history_here (I.knows n) m.message R.right named_here x A)
      where
        to : (w : Write) → (T ∪ At (In m.seen) k) w → w ∈ brings m ++ M.seen n
        to w h = ⊎_elim {B = At (In m.seen) k w} (in_right (brings m) (M.seen n)) (λ q. in_left (brings m) (M.seen n) (brings_in m q.0 q.1)) h

        from : (w : Write) → w ∈ brings m ++ M.seen n → (T ∪ At (In m.seen) k) w
        from w h = ⊎_elim (λ q. inr (in_brings m q)) inl (Memᴰ.append_cases (brings m) h)

    pub take_in_inv : Inv t All (seeing M n x (brings m))
    take_in_inv =
        seeing_inv t All M S I n x take_in_stepped (brings m) (λ w h. R.made w (in_brings m h).0) brought

  pub strip_inv : Inv t All (seeing M n (strip_pass s).state [])
  strip_inv =
      seeing_inv t All M S I n (strip_pass s).state
      (record {
        steps = strip_steps s;
        growing = λ d c h. unfold strip_pass in h;
        kept = λ l m. inl (unfold strip_pass in m);
        marks = same_marks t All M S I n (strip_pass s).state (strip_steps s) (unfold strip_pass in refl);
      })
      [] (λ w h. absurd (Memᴰ.not-nil h)) (strip_pass_knows s (ascending_distinct s.points good.points_asc) All T history_here (I.knows n))
