-- The invariant of a run, and what moves it: one controller's step. Assumes nothing.
-- All is the set of the writes of a whole run, past and future: so nothing here moves when a write is made elsewhere.
use Prim.Native.Nat.{◌≤◌}
use mathlib.Core.Path.{◌≡◌, sym, subst}
use mathlib.Core.Logic.{◌⊎◌, inl, inr, ⊎_elim, ⊎_map}
use mathlib.Core.Bool.{true, false}
use mathlib.Core.List.Memᴰ
use mathlib.Core.List.{List, ◌++◌}
use native.Mathlib.Nat.{le_refl, le_trans}
use Rattle.numbers.specs.declared.Controller.{Controller}
use Rattle.numbers.specs.declared.Dot.{Dot}
use Rattle.numbers.specs.declared.Key.{Key}
use Rattle.numbers.specs.Numbers.{same_controller}
use Rattle.numbers.specs.Key.{same_key}
use Rattle.numbers.proofs.Tests.{by_test, ◌∈◌}
use Rattle.numbers.proofs.Lists.{in_keep, keep_in, in_right}
use Rattle.numbers.proofs.Controllers.{Crew, same_controllers}
use Rattle.numbers.proofs.Dots.{same_keys, key_itself}
use Rattle.meaning.specs.CrewTable.{CrewTable}
use Rattle.meaning.specs.Clock.{row}
use Rattle.meaning.specs.State.{Listed, State, mark, local}
use Rattle.meaning.specs.Message.{Outgoing, Ask, Reply}
use Rattle.meaning.specs.Write.{Write}
use Rattle.laws.proofs.ContextLaws.{Named, Rising}
use Rattle.laws.proofs.Settling.{Growing}
use Rattle.crew.specs.Moment.{Sent, Moment, for, seeing, brings, carries, reply_brings}
use Rattle.crew.proofs.Right.{Writes, At, Right}
use Rattle.crew.proofs.Knows.{Knows, right_set}
use Rattle.crew.proofs.Repaired.{Told}
use Rattle.crew.proofs.Steps.{for_each, Steps}
use Rattle.crew.proofs.Sound.{Sound}
use Rattle.crew.proofs.Listing.{Peer, Kept}

-- the writes of a list
abbrev pub In : List Write → Writes
In ws = λ w. w ∈ ws

pub knows_set : (All S S' : Writes) (s : State) → ((w : Write) → S w → S' w) → ((w : Write) → S' w → S w) → Knows All S s → Knows All S' s
knows_set All S S' s to from K = record {
  right = λ k held. right_set All (At S k) (At S' k) k (local s k) (λ w h. (to w h.0, h.1)) (λ w h. (from w h.0, h.1)) (K.right k held);
  closed = λ w al held h. to w (K.closed w al held h);
  named = K.named;
}

-- what a message brings
pub in_brings : (m : Sent Outgoing) {w : Write} → w ∈ brings m → (w ∈ m.seen) × (w.key ≡ m.message.key)
unfolding brings
in_brings m {w} h = let q = in_keep (λ z. same_key z.key m.message.key) m.seen h in (q.0, same_keys w.key m.message.key q.1)

pub brings_in : (m : Sent Outgoing) {w : Write} → w ∈ m.seen → w.key ≡ m.message.key → w ∈ brings m
unfolding brings
brings_in m h e =
    keep_in (λ z. same_key z.key m.message.key) m.seen h (subst (λ (k : Key). same_key k m.message.key ≡ true) (sym e) (key_itself m.message.key))

pub in_reply_brings : (r : Sent Reply) {w : Write} → w ∈ reply_brings r → (w ∈ r.seen) × (carries r.message w.key ≡ true)
unfolding reply_brings
in_reply_brings r h = in_keep (λ z. carries r.message z.key) r.seen h

pub reply_brings_in : (r : Sent Reply) {w : Write} → w ∈ r.seen → carries r.message w.key ≡ true → w ∈ reply_brings r
unfolding reply_brings
reply_brings_in r h t = keep_in (λ z. carries r.message z.key) r.seen h t

-- the object of a message is right for what its sender had seen: invariant 8
pub record OutRight (t : CrewTable) (All : Writes) (M : Moment) (m : Sent Outgoing) : Type 0 where
  pub right : Right All m.message.key (At (In m.seen) m.message.key) m.message.object
  pub named : Named t m.message.key.job m.message.object.context
  pub made : (w : Write) → w ∈ m.seen → w ∈ M.writes

-- the same of a reply; its clock is no further than its sender's is now: invariants 7 and 8
pub record ReplyRight (t : CrewTable) (All : Writes) (M : Moment) (r : Sent Reply) : Type 0 where
  pub told : Told All (In (M.seen r.message.addressee)) (In r.seen) t r.message.addressee r.message
  pub rising : Rising r.message.clock (M.state r.message.sender).clock
  pub made : (w : Write) → w ∈ r.seen → w ∈ M.writes

-- every peer of the dot's maker has it within its base
abbrev pub KnownToAll : CrewTable → Moment → Dot → Type 0
KnownToAll t M d = (m : Controller) → Crew m → Peer t d.who m ≡ true → d.count.0 ≤ (row (M.state m).clock d.who).base

pub record Inv (t : CrewTable) (All : Writes) (M : Moment) : Type 0 where
  -- 1 to 5
  pub knows : (n : Controller) → Knows All (In (M.seen n)) (M.state n)
  pub seen_made : (n : Controller) (w : Write) → w ∈ M.seen n → w ∈ M.writes
  -- 8
  pub outgoings : (m : Sent Outgoing) → m ∈ M.outgoings → OutRight t All M m
  pub asks : (a : Ask) → a ∈ M.asks → Growing a.clock (M.state a.sender).clock
  pub replies : (r : Sent Reply) → r ∈ M.replies → ReplyRight t All M r
  -- 6: a write's dot is in its maker's own list, with its point, or every peer has it within its base
  pub listed : (w : Write) → w ∈ M.writes → (record { dot = w.dot; key = w.key } ∈ (M.state w.dot.who).own_dots) ⊎ KnownToAll t M w.dot
  -- 7
  pub marks : (i m n : Controller) → Crew m → Crew n → mark (M.state i).watermark m n ≤ (row (M.state m).clock n).base

-- ---- what only grows

pub record Onward (M N : Moment) : Type 0 where
  pub rising : (n : Controller) → Rising (M.state n).clock (N.state n).clock
  pub growing : (n : Controller) → Growing (M.state n).clock (N.state n).clock
  pub more : (n : Controller) (w : Write) → w ∈ M.seen n → w ∈ N.seen n
  pub writes : (w : Write) → w ∈ M.writes → w ∈ N.writes

module _ (t : CrewTable) (All : Writes) (M N : Moment) (O : Onward M N) where
  pub out_onward : (m : Sent Outgoing) → OutRight t All M m → OutRight t All N m
  out_onward m R = record { right = R.right; named = R.named; made = λ w h. O.writes w (R.made w h) }

  pub ask_onward : (a : Ask) → Growing a.clock (M.state a.sender).clock → Growing a.clock (N.state a.sender).clock
  ask_onward a g d c h = O.growing a.sender d c (g d c h)

  pub reply_onward : (r : Sent Reply) → ReplyRight t All M r → ReplyRight t All N r
  reply_onward r R = record {
    told = record {
      distinct = R.told.distinct;
      right = R.told.right;
      named = R.told.named;
      brought = λ w al held e h. ⊎_map (O.more r.message.addressee w) (λ x. x) (R.told.brought w al held e h);
    };
    rising = λ n c. le_trans (R.rising n c) (O.rising r.message.sender n c);
    made = λ w h. O.writes w (R.made w h);
  }

  pub known_onward : (d : Dot) → Crew d.who → KnownToAll t M d → KnownToAll t N d
  known_onward d c k m r p = le_trans (k m r p) (O.rising m d.who c)

-- ---- controller n steps to the state x

pub for_both : {A B : Type 0} (P : Controller → A → B → Type 0) (n : Controller) (x : A) (f : Controller → A) (y : B) (g : Controller → B) → P n x y
    → ((m : Controller) → same_controller m n ≡ false → P m (f m) (g m)) → (m : Controller) → P m (for n x f m) (for n y g m)
unfolding for
for_both P n x f y g p q m =
    by_test (same_controller m n) (λ t. rw t (subst (λ (z : Controller). P z x y) (sym (same_controllers m n t)) p)) (λ t. rw t (q m t))

-- what a step at controller n has to show
pub record Stepped (M : Moment) (n : Controller) (x : State) : Type 0 where
  pub steps : Steps (M.state n) x
  pub growing : Growing (M.state n).clock x.clock
  pub kept : Kept (M.state n) x
  pub marks : (m k : Controller) → Crew m → Crew k → mark x.watermark m k ≤ (row (for n x M.state m).clock k).base

module _ (t : CrewTable) (All : Writes) (M : Moment) (S : Sound t M) (I : Inv t All M) (n : Controller) (x : State) (D : Stepped M n x) where
  pub rising_after : (m : Controller) → Rising (M.state m).clock (for n x M.state m).clock
  rising_after = for_each (λ m z. Rising (M.state m).clock z.clock) n x M.state D.steps.rising (λ m f k c. le_refl (row (M.state m).clock k).base)

  pub growing_after : (m : Controller) → Growing (M.state m).clock (for n x M.state m).clock
  growing_after = for_each (λ m z. Growing (M.state m).clock z.clock) n x M.state D.growing (λ m f d c h. h)

  pub marks_after : (i m k : Controller) → Crew m → Crew k → mark (for n x M.state i).watermark m k ≤ (row (for n x M.state m).clock k).base
  marks_after =
      for_each (λ i z. (m k : Controller) → Crew m → Crew k → mark z.watermark m k ≤ (row (for n x M.state m).clock k).base) n x M.state D.marks
      (λ i f m k cm ck. le_trans (I.marks i m k cm ck) (rising_after m k ck))

  pub listed_after : (w : Write) → w ∈ M.writes → (record { dot = w.dot; key = w.key } ∈ (for n x M.state w.dot.who).own_dots)
      ⊎ ((m : Controller) → Crew m → Peer t w.dot.who m ≡ true → w.dot.count.0 ≤ (row (for n x M.state m).clock w.dot.who).base)
  listed_after w h =
      ⊎_elim
      (for_each (λ i z. l ∈ (M.state i).own_dots → (l ∈ z.own_dots) ⊎ Known) n x M.state
      (λ m. ⊎_map (λ q. q) (λ q k c p. le_trans (q k c (subst (λ (z : CrewTable). Peer z w.dot.who k ≡ true) (sym (S.table n)) p)) (D.marks k w.dot.who c crew)) (D.kept l m))
      (λ i f m. inl m) w.dot.who)
      (λ q. inr (λ m c p. le_trans (q m c p) (rising_after m w.dot.who crew)))
      (I.listed w h)
    where
      l : Listed
      l = record { dot = w.dot; key = w.key }

      crew : Crew w.dot.who
      crew = (S.made w h).crew

      Known : Type 0
      Known = (m : Controller) → Crew m → Peer t w.dot.who m ≡ true → w.dot.count.0 ≤ (row (for n x M.state m).clock w.dot.who).base

  module _ (ws : List Write) (made : (w : Write) → w ∈ ws → w ∈ M.writes) (K : Knows All (In (ws ++ M.seen n)) x) where
    onward : Onward M (seeing M n x ws)
    unfolding seeing
    onward = record {
      rising = rising_after;
      growing = growing_after;
      more = for_each (λ m q. (w : Write) → w ∈ M.seen m → w ∈ q) n (ws ++ M.seen n) M.seen (λ w h. in_right ws (M.seen n) h) (λ m f w h. h);
      writes = λ w h. h;
    }

    pub seeing_inv : Inv t All (seeing M n x ws)
    unfolding seeing
    seeing_inv = record {
      knows = for_both (λ m z q. Knows All (In q) z) n x M.state (ws ++ M.seen n) M.seen K (λ m f. I.knows m);
      seen_made = for_each (λ m q. (w : Write) → w ∈ q → w ∈ M.writes) n (ws ++ M.seen n) M.seen
          (λ w h. ⊎_elim (made w) (I.seen_made n w) (Memᴰ.append_cases ws h)) (λ m f. I.seen_made m);
      outgoings = λ m h. out_onward t All M (seeing M n x ws) onward m (I.outgoings m h);
      asks = λ a h. ask_onward t All M (seeing M n x ws) onward a (I.asks a h);
      replies = λ r h. reply_onward t All M (seeing M n x ws) onward r (I.replies r h);
      listed = listed_after;
      marks = marks_after;
    }
