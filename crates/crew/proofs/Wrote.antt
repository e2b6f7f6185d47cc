-- A write keeps what a controller knows, and adds itself. Assumes nothing.
use Rattle.std.specs.Prelude.{if◌then◌else◌}
use Prim.Native.Nat.{◌+◌, ◌≤◌, ◌<◌}
use mathlib.Core.Path.{◌≡◌, refl, sym, ap, ◌∙◌, subst}
use mathlib.Core.Logic.{◌⊎◌, inl, inr, ⊎_elim, ⊎_map}
use mathlib.Core.Bool.{true, false, not}
use mathlib.Core.List.Memᴰ
use mathlib.Core.List.{List, [], ◌∷◌}
use native.Mathlib.Omega.{arith}
use lib.ListN.{length}
use lib.Dec.{leb, ltb}
use borrow.Author.Tests.{ltb-false, leb-false}
use Rattle.numbers.specs.declared.Controller.{Controller}
use Rattle.numbers.specs.declared.Counter.{Counter}
use Rattle.numbers.specs.declared.Dot.{Dot}
use Rattle.numbers.specs.declared.Key.{Key}
use Rattle.numbers.specs.Words.{keep, place}
use Rattle.numbers.specs.Numbers.{counter, last_counter, same_controller, controllers}
use Rattle.numbers.proofs.Tests.{by_test, never, not-true, ◌∈◌}
use Rattle.numbers.proofs.Lists.{in_keep, keep_in, none_in, Tied, in_place, place_here, place_there}
use Rattle.numbers.proofs.Controllers.{Crew, crew_in, same_controllers, controller_itself}
use Rattle.numbers.proofs.Dots.{tied_dots, dot_path}
use Rattle.refusal.specs.declared.Refusal.TheVariants.{ContextAhead, OwnListFull, CountersUsedUp}
use Rattle.refusal.specs.Refusal.{accepted}
use Rattle.meaning.specs.CrewTable.{CrewTable, holds}
use Rattle.meaning.specs.Context.{Context, entry, covers}
use Rattle.meaning.specs.Object.{Contents, Version, version_before, Object, fill}
use Rattle.meaning.specs.State.{State, own_base, look_up, local}
use Rattle.meaning.specs.Settle.{most_listed, settled, settle}
use Rattle.meaning.specs.OwnSteps.{next_dot, written, context_ahead, Done, put_down}
use Rattle.meaning.specs.Write.{Write}
use Rattle.laws.proofs.ContextLaws.{entry_each, Within, Named, covers_le, le_covers, not_covers_lt, fill_holder}
use Rattle.laws.proofs.Answers.{same_accepted, passes, bound, settle_accepted}
use Rattle.crew.specs.Moment.{made}
use Rattle.crew.specs.Demand.{version_of}
use Rattle.crew.proofs.Right.{Writes, ◌∪◌, At, Uncovered, dot_of, version_dot, History, Right}
use Rattle.crew.proofs.Knows.{Knows, local_named}
use Rattle.crew.proofs.Storing.{one_result}

-- the own entry of what is written is the new counter
pub written_own : (s : State) (k : Key) (b : Contents) (c : Context) → Crew s.own → (entry (written s k b c).context s.own).0 ≡ own_base s + 1
unfolding written next_dot
written_own s k b c crew =
    ap (λ (x : Counter). x.0) (entry_each (λ n. if same_controller n s.own then counter (own_base s + 1) else entry (local s k).context n) s.own crew ∙ rw (controller_itself s.own))

pub written_other : (s : State) (k : Key) (b : Contents) (c : Context) (n : Controller) → Crew n → same_controller n s.own ≡ false → (entry (written s k b c).context n).0 ≡ (entry (local s k).context n).0
unfolding written next_dot
written_other s k b c n r f =
    ap (λ (x : Counter). x.0) (entry_each (λ m. if same_controller m s.own then counter (own_base s + 1) else entry (local s k).context m) n r ∙ rw f)

module _ (t : CrewTable) (All S : Writes) (H : History t All) (s : State) (k : Key) (b : Contents) (c : Context)
    (crew : Crew s.own) (held : holds s.table s.own k.job ≡ true)
    (R : Right All k S (local s k))
    -- no own entry is above the own base, and the given context is not above the reading's
    (own_top : (entry (local s k).context s.own).0 ≤ own_base s)
    (given_low : Within c (local s k).context) where
  -- the write that is made
  abbrev new : Write
  new = record { dot = record { who = s.own; count = counter (own_base s + 1) }; key = k; contents = b; given = c }

  abbrev New : Writes
  New w = w ≡ new

  abbrev o : Object
  o = local s k

  abbrev o' : Object
  o' = written s k b c

  own_base_low : own_base s ≤ (entry o.context s.own).0
  unfolding local fill
  own_base_low = omega (arith, fill_holder s.table k.job s.clock (look_up k s.points).context s.own crew held)

  own_entry : (entry o'.context s.own).0 ≡ own_base s + 1
  own_entry = written_own s k b c crew

  other_entry : (n : Controller) → Crew n → same_controller n s.own ≡ false → (entry o'.context n).0 ≡ (entry o.context n).0
  other_entry = written_other s k b c

  -- at the own number
  at_own : (n : Controller) → same_controller n s.own ≡ true
      → ((entry o.context n).0 ≤ own_base s) × (own_base s ≤ (entry o.context n).0) × ((entry o'.context n).0 ≡ own_base s + 1)
  at_own n t =
      subst (λ (m : Controller). ((entry o.context m).0 ≤ own_base s) × (own_base s ≤ (entry o.context m).0) × ((entry o'.context m).0 ≡ own_base s + 1)) (sym (same_controllers n s.own t))
      (own_top, own_base_low, own_entry)

  rises : Within o.context o'.context
  rises n r = by_test (same_controller n s.own) (λ t. omega (arith, at_own n t)) (λ f. omega (arith, other_entry n r f))

  -- a write that the new context covers was seen, or is the new one
  covers_cases : (w : Write) → All w → All new → covers o'.context w.dot ≡ true → (covers o.context w.dot ≡ true) ⊎ (w ≡ new)
  covers_cases w al an h = by_test (covers o.context w.dot) inl (λ f. inr (H.one_each w new al an (later f)))
    where
      n : Controller
      n = w.dot.who

      same_who : covers o.context w.dot ≡ false → same_controller n s.own ≡ true
      same_who f =
          by_test (same_controller n s.own) (λ t. t)
          (λ t. absurd (omega (arith, not_covers_lt o.context w.dot f, covers_le o'.context w.dot h, other_entry n (H.by_crew w al) t)))

      later : covers o.context w.dot ≡ false → w.dot ≡ new.dot
      later f =
          let t = same_who f in
          let e : w.dot.count.0 ≡ own_base s + 1 =
          omega (arith, not_covers_lt o.context w.dot f, covers_le o'.context w.dot h, at_own n t) in
          dot_path w.dot new.dot (ap (λ (x : Controller). x.0) (same_controllers n s.own t), e)

  -- no write that was seen covers the new one, and neither does its own context
  uncovered_new : Uncovered (S ∪ New) new
  uncovered_new u su = by_test (covers u.given new.dot) (λ t. absurd (⊎_elim
      (λ h. omega (arith, covers_le u.given new.dot t, R.within u h s.own crew, own_top))
      (λ e. omega (arith, covers_le c new.dot (subst (λ (z : Write). covers z.given new.dot ≡ true) e t), given_low s.own crew, own_top)) su)) (λ f. f)

  abbrev kept_versions : List Version
  kept_versions = keep (λ v. not (covers c v.dot)) o.versions

  versions_are : o'.versions ≡ place version_before (version_of new) kept_versions
  unfolding written next_dot version_of
  versions_are = refl

  -- a seen write is not at the new dot: its counter is at most the own base
  not_tied : (v : Version) → v ∈ o.versions → Tied version_before v (version_of new) → ⊥
  not_tied v m t =
      let p = R.honest v m in
      let d : p.0.dot ≡ new.dot = dot_of p.0 v p.2 ∙ tied_dots v.dot (version_of new).dot t ∙ version_dot new in
      let l = subst (λ (z : Dot). covers (local s k).context z ≡ true) d (R.covered p.0 p.1) in
      omega (arith, covers_le (local s k).context new.dot l, own_top)

  covers_new : covers o'.context new.dot ≡ true
  covers_new = le_covers o'.context new.dot (omega (arith, own_entry))

  written_right : All new → Right All k (S ∪ New) o'
  written_right an = record {
    made = λ w. ⊎_elim (R.made w) (λ e. subst (λ (z : Write). All z × (z.key ≡ k)) (sym e) (an, refl));
    closed = λ w al e h. ⊎_map (R.closed w al e) (λ x. x) (covers_cases w al an h);
    covered = λ w h.
        ⊎_elim
        (λ x. le_covers o'.context w.dot
        (omega (arith, covers_le (local s k).context w.dot (R.covered w x), rises w.dot.who (H.by_crew w (R.made w x).0))))
        (λ e. subst (λ (z : Write). covers o'.context z.dot ≡ true) (sym e) covers_new) h;
    within = λ w h n r.
        ⊎_elim (λ x. omega (arith, R.within w x n r, rises n r))
        (λ e. subst (λ (z : Write). (entry z.given n).0 ≤ (entry o'.context n).0) (sym e) (omega (arith, given_low n r, rises n r))) h;
    honest = λ v m.
        ⊎_elim (λ e. (new, inr refl, sym e, uncovered_new))
        (λ h.
        let q = in_keep (λ x. not (covers c x.dot)) o.versions h in
        let p = R.honest v q.0 in (
          p.0,
          inl p.1,
          p.2,
          λ u. ⊎_elim (p.3 u)
              (λ e. subst (λ (z : Write). covers z.given p.0.dot ≡ false) (sym e)
              (subst (λ (d : Dot). covers c d ≡ false) (sym (dot_of p.0 v p.2)) (not-true (covers c v.dot) q.1))),
        ))
        (in_place version_before (version_of new) kept_versions (rw versions_are at m));
    complete = λ w h hv un.
        rw versions_are
        (⊎_elim
        (λ x.
        let m = R.complete w x hv (λ u q. un u (inl q)) in
        ⊎_elim (λ y. y) (λ t. absurd (not_tied (version_of w) m t))
        (place_there version_before (version_of new) kept_versions
        (keep_in (λ y. not (covers c y.dot)) o.versions m
        (ap not (subst (λ (d : Dot). covers c d ≡ false) (sym (version_dot w)) (un new (inr refl)))))))
        (λ e. Memᴰ.cast (ap version_of e) (place_here version_before (version_of new) kept_versions)) h);
  }

  written_named : Named s.table k.job o.context → Named s.table k.job o'.context
  written_named named n r f =
      by_test (same_controller n s.own) (λ t. never held (subst (λ (m : Controller). holds s.table m k.job ≡ false) (same_controllers n s.own t) f))
      (λ t. other_entry n r t ∙ named n r f)

-- what an accepted write or delete has tested of the given context and the counter, and what it gives
pub record PutDown (s : State) (k : Key) (b : Contents) (c : Context) (d : Done) : Type 0 where
  pub low : Within c (local s k).context
  pub left : own_base s < last_counter
  pub state : settled s s.clock (record { key = k; object = written s k b c } ∷ []) ≡ d.state
  pub message : record { sender = s.own; key = k; object = written s k b c } ≡ d.message

pub put_down_is : (s : State) (k : Key) (b : Contents) (c : Context) (d : Done) → put_down s k b c ≡ accepted d → PutDown s k b c d
unfolding put_down context_ahead
put_down_is s k b c d e =
    let first = passes ContextAhead (context_ahead s k c) _ e in
    let kept = bound (settle s s.clock (record { key = k; object = written s k b c } ∷ [])) _ first.1 in
    let room = passes OwnListFull (leb most_listed (length s.own_dots)) _ kept.2 in
    let left = passes CountersUsedUp (leb last_counter (own_base s)) _ room.1 in
    let after = settle_accepted s s.clock (record { key = k; object = written s k b c } ∷ []) kept.1 in
    let done = same_accepted _ d left.1 in
    record {
      low = λ n r. ltb-false (entry (local s k).context n).0 (entry c n).0 (none_in (λ m. ltb (entry (local s k).context m).0 (entry c m).0) controllers first.0 (crew_in n r));
      left = leb-false last_counter (own_base s) left.0;
      state = after.1 ∙ ap (λ (x : Done). x.state) done;
      message = ap (λ (x : Done). x.message) done;
    }

-- an accepted write or delete is seen, by its own controller
module _ (All S : Writes) (s : State) (H : History s.table All) (K : Knows All S s) (k : Key) (b : Contents) (c : Context)
    (crew : Crew s.own) (held : holds s.table s.own k.job ≡ true) (own_top : (entry (local s k).context s.own).0 ≤ own_base s)
    (al : All (made s k b c)) (d : Done) (P : PutDown s k b c d) where
  made_new : made s k b c ≡ record { dot = record { who = s.own; count = counter (own_base s + 1) }; key = k; contents = b; given = c }
  unfolding made next_dot
  made_new = refl

  pub put_down_right : Right All k (At S k ∪ (λ w. w ≡ made s k b c)) (written s k b c)
  unfolding made next_dot
  put_down_right = written_right s.table All (At S k) H s k b c crew held (K.right k held) own_top P.low al

  pub put_down_named : Named s.table k.job (written s k b c).context
  put_down_named = written_named s.table All (At S k) H s k b c crew held (K.right k held) own_top P.low (local_named All S s K k)

  pub put_down_knows : Knows All (S ∪ (λ w. w ≡ made s k b c)) d.state
  put_down_knows =
      subst (λ (z : State). Knows All (S ∪ (λ w. w ≡ made s k b c)) z) P.state
      (one_result All S (λ w. w ≡ made s k b c) s H K k (written s k b c) put_down_right put_down_named)
