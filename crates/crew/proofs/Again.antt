-- What follows from demand 3: what was once seen deleted is never shown again, and what brings nothing new shows nothing new. Assumes nothing.
use mathlib.Core.Path.{◌≡◌, refl, sym, ap, ◌∙◌, subst}
use mathlib.Core.Logic.{⊎_elim}
use mathlib.Core.Bool.{true, false}
use mathlib.Core.List.Memᴰ
use mathlib.Core.List.{List, [], ◌∷◌, ◌++◌}
use Rattle.numbers.specs.declared.Controller.{Controller}
use Rattle.numbers.specs.declared.Key.{Key}
use Rattle.numbers.proofs.Tests.{by_test, never, ◌∈◌, there}
use Rattle.numbers.proofs.Lists.{in_left, in_right}
use Rattle.numbers.proofs.Orders.{ascending_same}
use Rattle.refusal.specs.declared.Refusal.TheVariants.{OutOfRange}
use Rattle.refusal.specs.Refusal.{accepted}
use Rattle.meaning.specs.CrewTable.{CrewTable, is_table, holds}
use Rattle.meaning.specs.Object.{Version, version_before, has_dot}
use Rattle.meaning.specs.State.{State, local}
use Rattle.meaning.specs.Message.{Outgoing, Reply}
use Rattle.meaning.specs.OwnSteps.{ours, shown, read, Done}
use Rattle.meaning.specs.Write.{Write, covers_write}
use Rattle.laws.proofs.MergeLaws.{version_order, has_dot_of}
use Rattle.laws.proofs.Answers.{same_accepted, passes_not}
use Rattle.laws.proofs.StaysGood.{ours_is}
use Rattle.crew.specs.Moment.{Sent, Moment, starting, seeing, made, writing, asking, replying}
use Rattle.crew.specs.Run as run
use Rattle.crew.specs.Run.{Next, Later, Reached, now, ◌then◌}
use Rattle.crew.specs.Demand.{due, NeverShownAgain}
use Rattle.crew.proofs.Right.{version_dot}
use Rattle.crew.proofs.Steps.{for_each, Steps, for_at}
use Rattle.crew.proofs.Sound.{Sound, history, sound, later_sound}
use Rattle.crew.proofs.Invariant.{In, Inv}
use Rattle.crew.proofs.Held.{next_writes, invariant}
use Rattle.crew.proofs.Shown.{in_due, due_in, due_ascends, shows}

-- ---- what is never taken back

pub later_on : (t : CrewTable) {M N P : Moment} → Later t M N → Later t N P → Later t M P
later_on t r now = r
later_on t r (q then e) = later_on t r q then e

-- what a call never takes from a controller, or from the messages
pub record Keeps (M N : Moment) : Type 0 where
  pub started : (n : Controller) → M.started n ≡ true → N.started n ≡ true
  pub seen : (n : Controller) (w : Write) → w ∈ M.seen n → w ∈ N.seen n
  pub outgoings : (m : Sent Outgoing) → m ∈ M.outgoings → m ∈ N.outgoings
  pub replies : (r : Sent Reply) → r ∈ M.replies → r ∈ N.replies

start_keeps : (t : CrewTable) (M : Moment) → Sound t M → (n : Controller) (s : State) → M.started n ≡ false → Keeps M (starting M n s)
unfolding starting
start_keeps t M S n s off = record {
  started = for_each (λ m b. M.started m ≡ true → b ≡ true) n true M.started (λ h. refl) (λ m f h. h);
  seen = for_each (λ m q. (w : Write) → w ∈ M.seen m → w ∈ q) n [] M.seen (λ w h. subst (λ (q : List Write). w ∈ q) (S.idle n off).1 h) (λ m f w h. h);
  outgoings = λ m h. h;
  replies = λ r h. h;
}

seeing_keeps : (M : Moment) (n : Controller) (s : State) (ws : List Write) → Keeps M (seeing M n s ws)
unfolding seeing
seeing_keeps M n s ws = record {
  started = λ m h. h;
  seen = for_each (λ m q. (w : Write) → w ∈ M.seen m → w ∈ q) n (ws ++ M.seen n) M.seen (λ w h. in_right ws (M.seen n) h) (λ m f w h. h);
  outgoings = λ m h. h;
  replies = λ r h. h;
}

writing_keeps : (M : Moment) (n : Controller) (u : Write) (d : Done) → Keeps M (writing M n u d)
unfolding writing
writing_keeps M n u d = record {
  started = λ m h. h;
  seen = for_each (λ m q. (w : Write) → w ∈ M.seen m → w ∈ q) n (u ∷ M.seen n) M.seen (λ w h. there h) (λ m f w h. h);
  outgoings = λ m h. there h;
  replies = λ r h. h;
}

pub next_keeps : (t : CrewTable) {M N : Moment} → Sound t M → Next t M N → Keeps M N
next_keeps t {M} S (run.starts n s off e) = start_keeps t M S n s off
next_keeps t S run.refuses = record { started = λ n h. h; seen = λ n w h. h; outgoings = λ m h. h; replies = λ r h. h }
next_keeps t S (run.reads n on k o e) = record { started = λ m h. h; seen = λ m w h. h; outgoings = λ m h. h; replies = λ r h. h }
next_keeps t {M} S (run.writes n on k v c d bytes e) = writing_keeps M n _ d
next_keeps t {M} S (run.deletes n on k c d e) = writing_keeps M n _ d
next_keeps t {M} S (run.takes_in n on m h s e) = seeing_keeps M n s _
next_keeps t S (run.asks n on to a e) = unfold asking in record { started = λ m h. h; seen = λ m w h. h; outgoings = λ m h. h; replies = λ r h. h }
next_keeps t S (run.replies n on a q r e) = unfold replying in record { started = λ m h. h; seen = λ m w h. h; outgoings = λ m h. h; replies = λ z h. there h }
next_keeps t {M} S (run.repairs n on r h s e) = seeing_keeps M n s _
next_keeps t {M} S (run.strips n on) = seeing_keeps M n _ _

pub later_keeps : (t : CrewTable) → is_table t ≡ true → {M N : Moment} → Sound t M → Later t M N → Keeps M N
later_keeps t ok S now = record { started = λ n h. h; seen = λ n w h. h; outgoings = λ m h. h; replies = λ r h. h }
later_keeps t ok S (r then e) =
    let A = later_keeps t ok S r in
    let B = next_keeps t (later_sound t ok S r) e in
    record {
      started = λ n h. B.started n (A.started n h);
      seen = λ n w h. B.seen n w (A.seen n w h);
      outgoings = λ m h. B.outgoings m (A.outgoings m h);
      replies = λ z h. B.replies z (A.replies z h);
    }

pub later_writes : (t : CrewTable) {M N : Moment} → Later t M N → (w : Write) → w ∈ M.writes → w ∈ N.writes
later_writes t now w h = h
later_writes t (r then e) w h = next_writes t e w (later_writes t r w h)

-- ---- the versions that a reading shows

read_parts : (s : State) (k : Key) (o : Outgoing) → read s k ≡ accepted o → (ours s k ≡ true) × ((shown (local s k)).versions ≡ o.object.versions)
unfolding read
read_parts s k o e =
    let q = passes_not OutOfRange (ours s k) _ e in
    (q.0, ap (λ (z : Outgoing). z.object.versions) (same_accepted (record { sender = s.own; key = k; object = shown (local s k) }) o q.1))

-- ---- never again

pub never_shown_again : NeverShownAgain
unfolding NeverShownAgain
never_shown_again t ok M N r l n on w u mw mu c k o e =
    by_test (has_dot o.object.versions w.dot) (λ h. absurd (bad h)) (λ f. f)
  where
    whole : Reached t N
    whole = later_on t r l

    S : Sound t N
    S = sound t ok N whole

    I : Inv t (In N.writes) N
    I = invariant t ok N whole

    bad : has_dot o.object.versions w.dot ≡ true → ⊥
    bad h =
        let p = read_parts (N.state n) k o e in
        let v = has_dot_of o.object.versions w.dot h in
        let same = sym p.1 ∙ shows t ok N whole n on k (ours_is (N.state n) k p.0).1 in
        let q = in_due t (In N.writes) (history t N S) (N.seen n) (I.seen_made n) k v.0 (subst (λ (vs : List Version). v.0 ∈ vs) same v.1) in
        let x = q.0 in
        let is_w : x ≡ w = S.one_each x w (I.seen_made n x q.1) mw (sym (version_dot x) ∙ ap (λ (z : Version). z.dot) (sym q.3) ∙ v.2) in
        never (subst (λ (z : Write). covers_write u z ≡ true) (sym is_w) c) (q.2.uncovered u ((later_keeps t ok (sound t ok M r) l).seen n u mu))

-- ---- again

-- what is due depends on what was seen, and not on how often or in which order
due_same : (t : CrewTable) (M : Moment) → Sound t M → (ws vs : List Write) → ((w : Write) → w ∈ ws → w ∈ M.writes) → ((w : Write) → w ∈ vs → w ∈ ws) → ((w : Write) → w ∈ ws → w ∈ vs)
    → (k : Key) → due k ws ≡ due k vs
due_same t M S ws vs made to from k =
    ascending_same version_before version_order (due k ws) (due k vs) (due_ascends k ws) (due_ascends k vs) (λ v. (half ws vs made made_vs from to v, half vs ws made_vs made to from v))
  where
    made_vs : (w : Write) → w ∈ vs → w ∈ M.writes
    made_vs w h = made w (to w h)

    half : (xs ys : List Write) → ((w : Write) → w ∈ xs → w ∈ M.writes) → ((w : Write) → w ∈ ys → w ∈ M.writes) → ((w : Write) → w ∈ xs → w ∈ ys) → ((w : Write) → w ∈ ys → w ∈ xs)
        → (v : Version) → v ∈ due k xs → v ∈ due k ys
    half xs ys mx my into back v m =
        let q = in_due t (In M.writes) (history t M S) xs mx k v m in
        Memᴰ.cast q.3 (due_in t (In M.writes) (history t M S) ys my k q.0 (into q.0 q.1)
        (record { of_point = q.2.of_point; valued = q.2.valued; uncovered = λ u h. q.2.uncovered u (back u h) }))

-- a step that brings nothing new shows nothing new
module _ (t : CrewTable) (ok : is_table t ≡ true) (N : Moment) (r : Reached t N) (n : Controller) (on : N.started n ≡ true) (x : State) (ws : List Write)
    (step : Next t N (seeing N n x ws)) (D : Steps (N.state n) x) (old : (w : Write) → w ∈ ws → w ∈ N.seen n) where
  after : Moment
  after = seeing N n x ws

  there_x : after.state n ≡ x
  unfolding after seeing
  there_x = for_at n x N.state

  there_seen : after.seen n ≡ ws ++ N.seen n
  unfolding after seeing
  there_seen = for_at n (ws ++ N.seen n) N.seen

  S : Sound t N
  S = sound t ok N r

  I : Inv t (In N.writes) N
  I = invariant t ok N r

  same_due : (k : Key) → due k (ws ++ N.seen n) ≡ due k (N.seen n)
  same_due =
      due_same t N S (ws ++ N.seen n) (N.seen n) (λ w h. I.seen_made n w (back w h)) (λ w h. in_right ws (N.seen n) h) back
    where
      back : (w : Write) → w ∈ ws ++ N.seen n → w ∈ N.seen n
      back w h = ⊎_elim (old w) (λ q. q) (Memᴰ.append_cases ws h)

  held_after : (k : Key) → holds (N.state n).table (N.state n).own k.job ≡ true → holds (after.state n).table (after.state n).own k.job ≡ true
  held_after k h =
      subst (λ (z : State). holds z.table z.own k.job ≡ true) (sym there_x)
      (subst (λ (z : CrewTable). holds z x.own k.job ≡ true) (sym D.table) (subst (λ (z : Controller). holds (N.state n).table z k.job ≡ true) (sym D.own) h))

  pub shown_the_same : (k : Key) → holds (N.state n).table (N.state n).own k.job ≡ true → (shown (local x k)).versions ≡ (shown (local (N.state n) k)).versions
  shown_the_same k held =
      ap (λ (z : State). (shown (local z k)).versions) (sym there_x)
      ∙ shows t ok after (unfold after in (r then step)) n (unfold after seeing in on) k (held_after k held)
      ∙ ap (due k) there_seen ∙ same_due k ∙ sym (shows t ok N r n on k held)

-- what was brought once has been seen
pub brought_before : (t : CrewTable) → is_table t ≡ true → (M N : Moment) (n : Controller) (s : State) (ws : List Write) → Sound t (seeing M n s ws) → Later t (seeing M n s ws) N
    → (w : Write) → w ∈ ws → w ∈ N.seen n
brought_before t ok M N n s ws S l w h =
    (later_keeps t ok S l).seen n w (unfold seeing in (subst (λ (q : List Write). w ∈ q) (sym (for_at n (ws ++ M.seen n) M.seen)) (in_left ws (M.seen n) h)))
