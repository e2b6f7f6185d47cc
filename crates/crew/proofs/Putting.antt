-- A write and a delete keep the invariant of a run. Assumes nothing.
use Prim.Native.Nat.{◌≤◌}
use mathlib.Core.Path.{◌≡◌, refl, sym, ap, ◌∙◌, subst}
use mathlib.Core.Logic.{◌⊎◌, inl, inr, ⊎_elim}
use mathlib.Core.Bool.{true, false, not}
use mathlib.Core.List.Memᴰ
use mathlib.Core.List.{List, [], ◌∷◌}
use native.Mathlib.Omega.{arith}
use Rattle.numbers.specs.declared.Controller.{Controller}
use Rattle.numbers.specs.declared.Key.{Key}
use Rattle.numbers.specs.Words.{keep}
use Rattle.numbers.specs.Numbers.{is_counter, same_controller}
use Rattle.numbers.proofs.Tests.{by_test, ◌∈◌, here, there}
use Rattle.numbers.proofs.Lists.{in_keep, keep_in, place_here}
use Rattle.numbers.proofs.Controllers.{controller_itself}
use Rattle.numbers.proofs.Dots.{tied_dots}
use Rattle.meaning.specs.CrewTable.{CrewTable}
use Rattle.meaning.specs.Clock.{in_clock}
use Rattle.meaning.specs.Context.{Context, entry, covers}
use Rattle.meaning.specs.Object.{Contents, version_before}
use Rattle.meaning.specs.State.{Stored, Listed, listed_before, State, own_base, listed, dots_of, local}
use Rattle.meaning.specs.Message.{Outgoing}
use Rattle.meaning.specs.Settle.{newly_listed, own_listed, settled}
use Rattle.meaning.specs.OwnSteps.{next_dot, written, Done}
use Rattle.meaning.specs.Write.{Write}
use Rattle.laws.proofs.ContextLaws.{Named}
use Rattle.laws.proofs.Goodness.{Good}
use Rattle.laws.proofs.Facts.{in_dots, dots_in}
use Rattle.laws.proofs.Local.{local_facts}
use Rattle.laws.proofs.Writing.{own_known}
use Rattle.crew.specs.Moment.{Sent, Moment, for, made, writing}
use Rattle.crew.proofs.Right.{Writes, ◌∪◌, At, History, Right}
use Rattle.crew.proofs.Knows.{Knows, right_set}
use Rattle.crew.proofs.Storing.{dots_counted}
use Rattle.crew.proofs.Storing as storing
use Rattle.crew.proofs.Wrote.{put_down_right, put_down_named, put_down_knows}
use Rattle.crew.proofs.Steps.{for_each, Steps}
use Rattle.crew.proofs.Sound.{Sound, Wrote, wrote_steps, made_who}
use Rattle.crew.proofs.Listing.{place_all_comes}
use Rattle.crew.proofs.Invariant.{In, knows_set, OutRight, Inv, Onward, out_onward, ask_onward, reply_onward, for_both, Stepped, rising_after, growing_after, marks_after, listed_after}
use Rattle.crew.proofs.Calls.{settled_growing, settled_kept, settled_marks, same_marks, at_n, good, history_here}

-- the new dot is listed, with its point
module _ (s : State) (G : Good s) (k : Key) (b : Contents) (c : Context) where
  abbrev result : Stored
  result = record { key = k; object = written s k b c }

  abbrev new : Listed
  new = record { dot = next_dot s; key = k }

  unknown : in_clock s.clock (next_dot s) ≡ false
  unfolding next_dot
  unknown = by_test (in_clock s.clock (next_dot s)) (λ h. absurd (omega (arith, own_known s G (next_dot s) refl h))) (λ f. f)

  new_in : new ∈ dots_of (result ∷ [])
  new_in = dots_in (result ∷ []) {p = result} (here refl) there_it_is
    where
      there_it_is : record { dot = next_dot s; contents = b } ∈ (written s k b c).versions
      there_it_is = unfold written in (place_here version_before (record { dot = next_dot s; contents = b }) (keep (λ v. not (covers c v.dot)) (local s k).versions))

  own_new : same_controller new.dot.who s.own ≡ true
  unfolding next_dot
  own_new = controller_itself s.own

  abbrev mine : List Listed
  mine = keep (λ l. same_controller l.dot.who s.own) (newly_listed s (result ∷ []))

  in_mine : new ∈ mine
  unfolding newly_listed
  in_mine =
      keep_in (λ l. same_controller l.dot.who s.own) (newly_listed s (result ∷ []))
      (keep_in (λ l. not (in_clock s.clock l.dot)) (dots_of (result ∷ [])) new_in (ap not unknown)) own_new

  mine_key : (l : Listed) → l ∈ mine → l.key ≡ k
  unfolding newly_listed
  mine_key l m =
      let q = in_dots (result ∷ []) (in_keep (λ x. not (in_clock s.clock x.dot)) (dots_of (result ∷ [])) (in_keep (λ x. same_controller x.dot.who s.own) (newly_listed s (result ∷ [])) m).0).0 in
      ap (λ (x : Listed). x.key) q.same ∙ ap (λ (x : Stored). x.key) (Memᴰ.eq_of_singleton q.point_in)

  pub new_listed : new ∈ (settled s s.clock (result ∷ [])).own_dots
  unfolding settled own_listed
  new_listed =
      place_all_comes listed_before mine s.own_dots in_mine
      (λ x h e i. record { dot = tied_dots new.dot x.dot e i; key = sym (mine_key x h) i })

module _ (t : CrewTable) (All : Writes) (H : History t All) (M : Moment) (S : Sound t M) (I : Inv t All M) (n : Controller) (on : M.started n ≡ true)
    (k : Key) (b : Contents) (c : Context) (d : Done) (W : Wrote (M.state n) k b c d) (al : All (made (M.state n) k b c)) where
  abbrev s : State
  s = M.state n

  abbrev w : Write
  w = made s k b c

  abbrev T : Writes
  T = In (M.seen n)

  abbrev rs : List Stored
  rs = record { key = k; object = written s k b c } ∷ []

  G : Good s
  G = good t All H M S I n on

  here_history : History s.table All
  here_history = history_here t All H M S I n on

  own_top : (entry (local s k).context s.own).0 ≤ own_base s
  own_top = (local_facts s G k W.held).object.own_entry

  right : Right All k (At T k ∪ (λ z. z ≡ w)) (written s k b c)
  right = put_down_right All T s here_history (I.knows n) k b c G.own_crew W.held own_top al d W.put

  named : Named s.table k.job (written s k b c).context
  named = put_down_named All T s here_history (I.knows n) k b c G.own_crew W.held own_top al d W.put

  counted : (l : Listed) → l ∈ dots_of rs → is_counter l.dot.count ≡ true
  counted =
      dots_counted s.table All (T ∪ (λ z. z ≡ w)) here_history rs
      (storing.each_right All T (λ z. z ≡ w) s here_history (I.knows n) k (written s k b c) right named)

  pub write_stepped : Stepped M n d.state
  write_stepped = subst (λ (z : State). Stepped M n z) W.put.state (record {
    steps = steps;
    growing = settled_growing s s.clock rs (λ e r h. h) counted;
    kept = settled_kept s G s.clock rs;
    marks = same_marks t All M S I n (settled s s.clock rs) steps (settled_marks s s.clock rs);
  })
    where
      steps : Steps s (settled s s.clock rs)
      steps = subst (λ (z : State). Steps s z) (sym W.put.state) (wrote_steps s k b c d W)

  made_key : w.key ≡ k
  unfolding made
  made_key = refl

  to : (z : Write) → (T ∪ (λ y. y ≡ w)) z → z ∈ w ∷ M.seen n
  to z h = ⊎_elim there here h

  from : (z : Write) → z ∈ w ∷ M.seen n → (T ∪ (λ y. y ≡ w)) z
  from z h = ⊎_elim inr inl (Memᴰ.cases_cons h)

  knows : Knows All (In (w ∷ M.seen n)) d.state
  knows =
      knows_set All (T ∪ (λ y. y ≡ w)) (In (w ∷ M.seen n)) d.state to from
      (put_down_knows All T s here_history (I.knows n) k b c G.own_crew W.held own_top al d W.put)

  abbrev N : Moment
  N = writing M n w d

  onward : Onward M N
  unfolding writing
  onward = record {
    rising = rising_after t All M S I n d.state write_stepped;
    growing = growing_after t All M S I n d.state write_stepped;
    more = for_each (λ m q. (z : Write) → z ∈ M.seen m → z ∈ q) n (w ∷ M.seen n) M.seen (λ z h. there h) (λ m f z h. h);
    writes = λ z h. there h;
  }

  -- the message is right for what was seen, the write included
  message_right : OutRight t All N (record { message = d.message; seen = w ∷ M.seen n })
  message_right =
      subst (λ (m : Outgoing). OutRight t All N (record { message = m; seen = w ∷ M.seen n })) W.put.message
      (record {
        right = right_set All (At T k ∪ (λ z. z ≡ w)) (At (In (w ∷ M.seen n)) k) k (written s k b c)
            (λ z. ⊎_elim (λ h. (there h.0, h.1)) (λ e. (here e, ap (λ (y : Write). y.key) e ∙ made_key)))
            (λ z h. ⊎_elim inr (λ q. inl (q, h.1)) (Memᴰ.cases_cons h.0)) right;
        named = subst (λ (z : CrewTable). Named z k.job (written s k b c).context) (S.table n) named;
        made = λ z h. ⊎_elim (λ e. made_now z e) (λ q. onward.writes z (I.seen_made n z q)) (Memᴰ.cases_cons h);
      })
    where
      made_now : (z : Write) → z ≡ w → z ∈ N.writes
      made_now z e = unfold writing in (here e)

  new_at_n : record { dot = w.dot; key = w.key } ∈ d.state.own_dots
  unfolding made
  new_at_n = subst (λ (z : State). record { dot = next_dot s; key = k } ∈ z.own_dots) W.put.state (new_listed s G k b c)

  is_listed : record { dot = w.dot; key = w.key } ∈ (for n d.state M.state w.dot.who).own_dots
  is_listed =
      subst (λ (m : Controller). record { dot = w.dot; key = w.key } ∈ (for n d.state M.state m).own_dots) (sym (made_who t M S n on k b c d W))
      (at_n t All M S I n d.state (wrote_steps s k b c d W) (λ z. record { dot = w.dot; key = w.key } ∈ z.own_dots) new_at_n)

  pub writing_inv : Inv t All (writing M n w d)
  unfolding writing
  writing_inv = record {
    knows = for_both (λ m z q. Knows All (In q) z) n d.state M.state (w ∷ M.seen n) M.seen knows (λ m f. I.knows m);
    seen_made = for_each (λ m q. (z : Write) → z ∈ q → z ∈ w ∷ M.writes) n (w ∷ M.seen n) M.seen
        (λ z h. ⊎_elim here (λ q. there (I.seen_made n z q)) (Memᴰ.cases_cons h)) (λ m f z h. there (I.seen_made m z h));
    outgoings = λ m h. ⊎_elim (λ e. subst (λ (z : Sent Outgoing). OutRight t All N z) (sym e) message_right) (λ q. out_onward t All M N onward m (I.outgoings m q)) (Memᴰ.cases_cons h);
    asks = λ a h. ask_onward t All M N onward a (I.asks a h);
    replies = λ r h. reply_onward t All M N onward r (I.replies r h);
    listed = λ z h. ⊎_elim
        (λ e. inl (subst (λ (y : Write). record { dot = y.dot; key = y.key } ∈ (for n d.state M.state y.dot.who).own_dots) (sym e) is_listed))
        (λ q. listed_after t All M S I n d.state write_stepped z q) (Memᴰ.cases_cons h);
    marks = marks_after t All M S I n d.state write_stepped;
  }
