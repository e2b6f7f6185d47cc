-- The foreman's story: after a repair the truck never shows the deleted base again. Assumes nothing.
use mathlib.Core.Path.{◌≡◌, refl, sym, ◌∙◌, subst}
use mathlib.Core.Logic.{◌⊎◌, ⊎_elim}
use mathlib.Core.Bool.{true}
use mathlib.Core.List.Memᴰ
use mathlib.Core.List.{List, ◌∷◌, ◌++◌}
use Rattle.numbers.specs.declared.Controller.{Controller}
use Rattle.numbers.proofs.Tests.{by_test, ◌∈◌, here}
use Rattle.numbers.proofs.Lists.{in_left, in_right}
use Rattle.numbers.specs.declared.Key.{Key}
use Rattle.row.specs.Row.{has}
use Rattle.meaning.specs.CrewTable.{CrewTable, is_table, holds}
use Rattle.meaning.specs.Clock.{row, in_clock}
use Rattle.meaning.specs.State.{State}
use Rattle.meaning.specs.OwnSteps.{next_dot, Done}
use Rattle.meaning.specs.Exchange.{repair}
use Rattle.meaning.specs.Write.{Write}
use Rattle.meaning.specs.Context.{Context}
use Rattle.meaning.specs.Message.{Reply}
use Rattle.meaning.specs.Object.{Contents, deleted, value}
use Rattle.refusal.specs.Refusal.{accepted}
use Rattle.crew.specs.Moment.{Sent, Moment, for, beginning, starting, seeing, made, writing, asking, replying, reply_brings}
use Rattle.crew.specs.Run as run
use Rattle.crew.specs.Run.{Next, Later, Reached, now, ◌then◌}
use Rattle.crew.specs.Demand.{Story, NeverShownAgain}
use Rattle.crew.proofs.Repaired.{Brought, repaired}
use Rattle.crew.proofs.Sound.{Sound, sound, later_sound, begins_sound}
use Rattle.crew.proofs.Invariant.{In, reply_brings_in}
use Rattle.crew.proofs.Held.{invariant}
use Rattle.crew.proofs.Again.{later_on, Keeps, next_keeps, later_keeps, later_writes, never_shown_again}
use Rattle.crew.proofs.Steps.{for_at}

-- ---- who makes a write has seen it

abbrev Makers : Moment → Type 0
Makers M = (w : Write) → w ∈ M.writes → w ∈ M.seen w.dot.who

made_sees : (M : Moment) (n : Controller) (w : Write) (d : Done) → w.dot.who ≡ n → w ∈ (writing M n w d).seen w.dot.who
unfolding writing
made_sees M n w d e =
    subst (λ (m : Controller). w ∈ for n (w ∷ M.seen n) M.seen m) (sym e) (subst (λ (q : List Write). w ∈ q) (sym (for_at n (w ∷ M.seen n) M.seen)) (here refl))

writing_makers : (M : Moment) (n : Controller) (w : Write) (d : Done) → Makers M → w.dot.who ≡ n → Keeps M (writing M n w d) → Makers (writing M n w d)
writing_makers M n w d P e K z h =
    ⊎_elim (λ f. subst (λ (y : Write). y ∈ (writing M n w d).seen y.dot.who) (sym f) (made_sees M n w d e)) (λ q. K.seen z.dot.who z (P z q)) (parts h)
  where
    parts : z ∈ (writing M n w d).writes → (z ≡ w) ⊎ (z ∈ M.writes)
    parts h = unfold writing in (Memᴰ.cases_cons h)

made_by : (M : Moment) (t : CrewTable) → Sound t M → (n : Controller) (k : Key) (b : Contents) (c : Context)
    → (made (M.state n) k b c).dot.who ≡ n
unfolding made next_dot
made_by M t S n k b c = S.own n

next_makers : (t : CrewTable) {M N : Moment} → Sound t M → Makers M → Next t M N → Keeps M N → Makers N
next_makers t S P (run.starts n s off e) K = unfold starting in (λ w h. K.seen w.dot.who w (P w h))
next_makers t S P run.refuses K = P
next_makers t S P (run.reads n on k o e) K = P
next_makers t {M} S P (run.writes n on k v c d bytes e) K = writing_makers M n _ d P (made_by M t S n k (value v) c) K
next_makers t {M} S P (run.deletes n on k c d e) K = writing_makers M n _ d P (made_by M t S n k deleted c) K
next_makers t S P (run.takes_in n on m q s e) K = unfold seeing in (λ w h. K.seen w.dot.who w (P w h))
next_makers t S P (run.asks n on to a e) K = unfold asking in (λ w h. K.seen w.dot.who w (P w h))
next_makers t S P (run.replies n on a q r e) K = unfold replying in (λ w h. K.seen w.dot.who w (P w h))
next_makers t S P (run.repairs n on r q s e) K = unfold seeing in (λ w h. K.seen w.dot.who w (P w h))
next_makers t S P (run.strips n on) K = unfold seeing in (λ w h. K.seen w.dot.who w (P w h))

later_makers : (t : CrewTable) → is_table t ≡ true → {M N : Moment} → Sound t M → Makers M → Later t M N → Makers N
later_makers t ok S P now = P
later_makers t ok S P (r then e) = let Q = later_sound t ok S r in next_makers t Q (later_makers t ok S P r) e (next_keeps t Q e)

pub maker_sees : (t : CrewTable) → is_table t ≡ true → (M : Moment) → Reached t M → (w : Write) → w ∈ M.writes → w ∈ M.seen w.dot.who
maker_sees t ok M r = later_makers t ok (begins_sound t ok) (unfold beginning in (λ w h. absurd (Memᴰ.not-nil h))) r

-- who has seen something has been started
seer_started : (t : CrewTable) (M : Moment) → Sound t M → (n : Controller) (w : Write) → w ∈ M.seen n → M.started n ≡ true
seer_started t M S n w h = by_test (M.started n) (λ e. e) (λ f. absurd (Memᴰ.not-nil (subst (λ (q : List Write). w ∈ q) (S.idle n f).1 h)))

-- ---- after a repair every write of the sender's that the reply's row stands for has been seen

module _ (t : CrewTable) (ok : is_table t ≡ true) (M : Moment) (r : Reached t M) (m : Sent Reply) (mm : m ∈ M.replies) (n : Controller) (on : M.started n ≡ true)
    (s : State) (e : repair (M.state n) m.message ≡ accepted s) where
  pub repair_sees : (u : Write) → u ∈ M.writes → m.message.sender ≡ u.dot.who → in_clock m.message.clock u.dot ≡ true → holds t n u.key.job ≡ true
      → u ∈ (seeing M n s (reply_brings m)).seen n
  unfolding seeing
  repair_sees u mu from has_it held =
      subst (λ (q : List Write). u ∈ q) (sym (for_at n (reply_brings m ++ M.seen n) M.seen))
      (⊎_elim (λ h. in_right (reply_brings m) (M.seen n) (subst (λ (z : Controller). u ∈ M.seen z) to_us h))
      (λ h. in_left (reply_brings m) (M.seen n) (reply_brings_in m h.0 h.1))
      (told u mu (subst (λ (z : Controller). holds t z u.key.job ≡ true) (sym to_us) held) (sym from) in_row))
    where
      to_us : m.message.addressee ≡ n
      to_us = (repaired (M.state n) m.message s e).to ∙ (sound t ok M r).own n

      in_row : has (row m.message.clock m.message.sender) u.dot.count ≡ true
      in_row = unfold in_clock in (subst (λ (z : Controller). has (row m.message.clock z) u.dot.count ≡ true) (sym from) has_it)

      told : (w : Write) → w ∈ M.writes → holds t m.message.addressee w.key.job ≡ true → w.dot.who ≡ m.message.sender
          → has (row m.message.clock m.message.sender) w.dot.count ≡ true → (w ∈ M.seen m.message.addressee) ⊎ Brought (In m.seen) m.message w
      told = ((invariant t ok M r).replies m mm).told.brought

pub story : Story
unfolding Story NeverShownAgain
story t ok M r w u mw mu c m mm from has_it n on held s e N l a who k o q =
    never_shown_again t ok N N whole now a (seer_started t N (sound t ok N whole) a u sees) w u (later_writes t l w (written w mw)) sees c k o q
  where
    after : Moment
    after = seeing M n s (reply_brings m)

    first : Reached t after
    first = r then run.repairs n on m mm s e

    whole : Reached t N
    whole = later_on t first l

    written : (z : Write) → z ∈ M.writes → z ∈ after.writes
    written z h = unfold seeing in h

    kept : (z : Controller) → u ∈ after.seen z → u ∈ N.seen z
    kept z h = (later_keeps t ok (sound t ok after first) l).seen z u h

    sees : u ∈ N.seen a
    sees =
        ⊎_elim (λ f. subst (λ (z : Controller). u ∈ N.seen z) (sym f) (kept n (repair_sees t ok M r m mm n on s e u mu from has_it held)))
        (⊎_elim (λ f. subst (λ (z : Controller). u ∈ N.seen z) (sym f) (maker_sees t ok N whole u (later_writes t l u (written u mu)))) (λ h. h)) who
