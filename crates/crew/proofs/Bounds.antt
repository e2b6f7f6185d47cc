-- No clock, context or list of a run is ahead of the writes made: what refusals 9 and 10 ask for. Assumes nothing.
use Prim.Native.Nat.{ℕ, zero, suc, ◌+◌, ◌≤◌}
use mathlib.Core.Path.{◌≡◌, refl, sym, ap, ◌∙◌, subst}
use mathlib.Core.Logic.{◌⊎◌, ⊎_elim}
use mathlib.Core.Bool.{Bool, true, not}
use mathlib.Core.List.Memᴰ
use mathlib.Core.List.{List, ◌++◌}
use native.Mathlib.Omega.{arith}
use native.Mathlib.Nat.{le_refl, le_trans}
use Rattle.numbers.specs.declared.Controller.{Controller}
use Rattle.numbers.specs.declared.Counter.{Counter}
use Rattle.numbers.specs.declared.Dot.{Dot}
use Rattle.numbers.specs.declared.Key.{Key}
use Rattle.numbers.specs.Words.{keep, fold}
use Rattle.numbers.specs.Numbers.{counter, is_counter}
use Rattle.numbers.proofs.Tests.{by_test, ◌∈◌, never}
use Rattle.numbers.proofs.Lists.{in_keep, in_left, in_right}
use Rattle.numbers.proofs.Controllers.{Crew}
use Rattle.numbers.proofs.Dots.{dot_path}
use Rattle.row.specs.declared.Row.{Row}
use Rattle.row.specs.Row.{none_seen, has}
use Rattle.row.proofs.Members.{low_has, none_has}
use Rattle.meaning.specs.CrewTable.{CrewTable, holds}
use Rattle.meaning.specs.Clock.{Clock, row, in_clock}
use Rattle.meaning.specs.Context.{Context, entry, no_context, fill_context}
use Rattle.meaning.specs.Object.{Object, fill, strip, gone, merge}
use Rattle.meaning.specs.State.{Stored, Listed, State, own_base, listed, dots_of, look_up, local}
use Rattle.meaning.specs.Message.{Outgoing, Ask, Reply}
use Rattle.meaning.specs.Settle.{entered, put, settled}
use Rattle.meaning.specs.OwnSteps.{fresh, strip_pass}
use Rattle.meaning.specs.Exchange.{raised, known_to_all, tidied}
use Rattle.meaning.specs.Write.{Write}
use Rattle.laws.proofs.ContextLaws.{no_entry, fill_holder, fill_other, strip_within, higher_entry}
use Rattle.laws.proofs.Entering.{row_each, in_counts, entered_has}
use Rattle.laws.proofs.Putting.{in_newly, in_listed}
use Rattle.crew.specs.Moment.{Sent, Moment}
use Rattle.crew.proofs.Looking.{kept, Distinct, look_others, look_result, find}
use Rattle.crew.proofs.Sound.{Sound}
use Rattle.crew.proofs.Stripped.{look_stripped}

-- every dot of the clock is at most its maker's own base
abbrev pub ClockLow : Moment → Clock → Type 0
ClockLow M c = (d : Dot) → Crew d.who → in_clock c d ≡ true → d.count.0 ≤ own_base (M.state d.who)

-- and so is every entry of the context
abbrev pub ContextLow : Moment → Context → Type 0
ContextLow M c = (j : Controller) → Crew j → (entry c j).0 ≤ own_base (M.state j)

-- a listed dot is that of a write that was made, with its point
abbrev pub Real : Moment → Listed → Type 0
Real M l = (w : Write) × (w ∈ M.writes) × (l ≡ record { dot = w.dot; key = w.key })

-- what is known of one state
pub record Low (M : Moment) (s : State) : Type 0 where
  pub clock : ClockLow M s.clock
  pub stored : (k : Key) → ContextLow M (look_up k s.points).context
  pub lists : (l : Listed) → l ∈ listed s → Real M l

pub record ReplyLow (M : Moment) (r : Reply) : Type 0 where
  pub clock : ClockLow M r.clock
  pub points : (p : Stored) → p ∈ r.points → ContextLow M p.object.context

pub record Bounded (M : Moment) : Type 0 where
  pub states : (n : Controller) → Low M (M.state n)
  pub outgoings : (m : Sent Outgoing) → m ∈ M.outgoings → ContextLow M m.message.object.context
  pub asks : (a : Ask) → a ∈ M.asks → ClockLow M a.clock
  pub replies : (r : Sent Reply) → r ∈ M.replies → ReplyLow M r.message

-- ---- own bases only rise, and no write is taken back

pub record Up (M N : Moment) : Type 0 where
  pub bases : (n : Controller) → Crew n → own_base (M.state n) ≤ own_base (N.state n)
  pub writes : (w : Write) → w ∈ M.writes → w ∈ N.writes

module _ (M N : Moment) (U : Up M N) where
  pub clock_up : (c : Clock) → ClockLow M c → ClockLow N c
  clock_up c low d r h = le_trans (low d r h) (U.bases d.who r)

  pub context_up : (c : Context) → ContextLow M c → ContextLow N c
  context_up c low j r = le_trans (low j r) (U.bases j r)

  pub low_up : (s : State) → Low M s → Low N s
  low_up s L = record {
    clock = clock_up s.clock L.clock;
    stored = λ k. context_up (look_up k s.points).context (L.stored k);
    lists = λ l m. let q = L.lists l m in (q.0, U.writes q.0 q.1, q.2);
  }

  pub reply_up : (r : Reply) → ReplyLow M r → ReplyLow N r
  reply_up r L = record { clock = clock_up r.clock L.clock; points = λ p m. context_up p.object.context (L.points p m) }

-- ---- contexts

pub base_low : (M : Moment) (c : Clock) → ClockLow M c → (n : Controller) → Crew n → (row c n).base ≤ own_base (M.state n)
base_low M c low n r = go (row c n).base refl
  where
    go : (b : ℕ) → (row c n).base ≡ b → (row c n).base ≤ own_base (M.state n)
    go zero e = omega (arith, e)
    go (suc b) e = low (record { who = n; count = counter (row c n).base }) r (unfold in_clock in (low_has (row c n) (counter (row c n).base) (omega (arith, e)) (le_refl (row c n).base)))

pub fill_low : (M : Moment) (t : CrewTable) (j : ℕ) (c : Clock) (x : Context) → ClockLow M c → ContextLow M x → ContextLow M (fill_context t j c x)
fill_low M t j c x cl low n r =
    by_test (holds t n j) (λ h. omega (arith, fill_holder t j c x n r h, low n r, base_low M c cl n r)) (λ h. omega (arith, fill_other t j c x n r h, low n r))

pub local_low : (M : Moment) (s : State) → Low M s → (k : Key) → ContextLow M (local s k).context
unfolding local fill
local_low M s L k = fill_low M s.table k.job s.clock (look_up k s.points).context L.clock (L.stored k)

pub merge_low : (M : Moment) (a b : Object) → ContextLow M a.context → ContextLow M b.context → ContextLow M (merge a b).context
unfolding merge
merge_low M a b p q n r = omega (arith, higher_entry a.context b.context n r, p n r, q n r)

none_low : (M : Moment) → ContextLow M no_context
none_low M n r = omega (arith, no_entry n r)

kept_low : (M : Moment) (c : Clock) (o : Object) → ContextLow M o.context → ContextLow M (kept c o).context
kept_low M c o low n r =
    by_test (gone (strip c o)) (λ g. rw g (none_low M n r)) (λ g. rw g (unfold strip in (le_trans (strip_within c o.context n r) (low n r))))

-- ---- storing

-- a clock that real dots entered
module _ (t : CrewTable) (N : Moment) (S : Sound t N) where
  pub real_low : (l : Listed) → Real N l → l.dot.count.0 ≤ own_base (N.state l.dot.who)
  real_low l q = subst (λ (z : Listed). z.dot.count.0 ≤ own_base (N.state z.dot.who)) (sym q.2) (S.made q.0 q.1).low

  real_counted : (l : Listed) → Real N l → is_counter l.dot.count ≡ true
  real_counted l q = subst (λ (z : Listed). is_counter z.dot.count ≡ true) (sym q.2) (S.made q.0 q.1).counted

  module _ (s : State) (k : Clock) (rs : List Stored) (L : Low N s) (KL : ClockLow N k) (distinct : Distinct rs)
      (real : (l : Listed) → l ∈ dots_of rs → Real N l) (low : (r : Stored) → r ∈ rs → ContextLow N r.object.context) where
    entered_low : ClockLow N (entered k rs)
    entered_low d r h =
        ⊎_elim (KL d r)
        (λ m.
        let q = in_counts d.who (dots_of rs) m in
        subst (λ (z : Dot). z.count.0 ≤ own_base (N.state z.who)) (dot_path q.0.dot d (ap (λ (x : Controller). x.0) q.2, ap (λ (x : Counter). x.0) q.3))
        (real_low q.0 (real q.0 q.1)))
        ((entered_has k rs (λ l m. real_counted l (real l m)) d r).0 h)

    stored_low : (x : Key) → ContextLow N (look_up x (fold (put (entered k rs)) s.points rs)).context
    stored_low x =
        ⊎_elim
        (λ f. subst (λ (z : Key). ContextLow N (look_up z (fold (put (entered k rs)) s.points rs)).context) (sym f.2)
        (subst (λ (o : Object). ContextLow N o.context) (sym (look_result (entered k rs) s.points rs distinct f.0 f.1)) (kept_low N (entered k rs) f.0.object (low f.0 f.1))))
        (λ away. subst (λ (o : Object). ContextLow N o.context) (sym (look_others x (entered k rs) s.points rs away)) (L.stored x)) (find x rs)

    pub settled_low : Low N (settled s k rs)
    unfolding settled
    settled_low = record {
      clock = entered_low;
      stored = stored_low;
      lists = λ l m. ⊎_elim (λ h. real l (in_newly s rs h).0) (L.lists l) (in_listed s rs m);
    }

-- ---- a repair's end, and a strip pass

pub tidied_low : (N : Moment) (s : State) (r : Reply) → Low N s → Low N (tidied s r)
unfolding tidied
tidied_low N s r L = record { clock = L.clock; stored = L.stored; lists = λ l m. L.lists l (still m) }
  where
    stay : Listed → Bool
    stay l = not (known_to_all s (raised s r) l)

    still : {l : Listed} → l ∈ keep stay s.own_dots ++ keep stay s.foreign_dots → l ∈ listed s
    still m =
        ⊎_elim (λ h. in_left s.own_dots s.foreign_dots (in_keep stay s.own_dots h).0) (λ h. in_right s.own_dots s.foreign_dots (in_keep stay s.foreign_dots h).0)
        (Memᴰ.append_cases (keep stay s.own_dots) m)

pub strip_pass_low : (N : Moment) (s : State) → Distinct s.points → Low N s → Low N (strip_pass s).state
unfolding strip_pass
strip_pass_low N s distinct L = record {
  clock = L.clock;
  stored = λ k. ⊎_elim
      (λ e. subst (λ (o : Object). ContextLow N o.context) (sym e) (kept_low N s.clock (look_up k s.points) (L.stored k)))
      (λ e. subst (λ (o : Object). ContextLow N o.context) (sym e) (L.stored k)) (look_stripped s distinct k);
  lists = L.lists;
}

-- ---- a fresh controller

pub fresh_low : (M : Moment) (n : Controller) (t : CrewTable) → Low M (fresh n t)
fresh_low M n t = record {
  clock = λ d r h. absurd (unseen d r h);
  stored = λ k. unfold look_up in (none_low M);
  lists = λ l m. absurd (Memᴰ.not-nil m);
}
  where
    unseen : (d : Dot) → Crew d.who → in_clock (fresh n t).clock d ≡ true → ⊥
    unseen d r h =
        unfold in_clock in
        (never h (ap (λ (z : Row). has z d.count) (row_each (λ x. none_seen) d.who r) ∙ none_has d.count))
