-- A step with one result, and taking a message in: what a controller knows is kept, for what the message had seen too. Assumes nothing.
use mathlib.Core.Path.{◌≡◌, refl, sym, ap, ◌∙◌, subst}
use mathlib.Core.Logic.{inl, inr, ⊎_elim, ⊎_map}
use mathlib.Core.Bool.{true}
use mathlib.Core.List.Memᴰ
use mathlib.Core.List.{List, [], ◌∷◌}
use native.Mathlib.Nat.{le_refl}
use Rattle.numbers.specs.declared.Controller.{Controller}
use Rattle.numbers.specs.declared.Counter.{Counter}
use Rattle.numbers.specs.declared.Dot.{Dot}
use Rattle.numbers.specs.declared.Key.{Key}
use Rattle.numbers.specs.Numbers.{is_counter}
use Rattle.numbers.specs.Key.{same_key}
use Rattle.numbers.proofs.Tests.{never, ◌∈◌, here}
use Rattle.numbers.proofs.Dots.{key_itself, dot_path}
use Rattle.meaning.specs.CrewTable.{CrewTable}
use Rattle.meaning.specs.Clock.{Clock, row}
use Rattle.meaning.specs.Object.{Object, merge}
use Rattle.meaning.specs.State.{Stored, Listed, State, dots_of, local}
use Rattle.meaning.specs.Message.{Outgoing}
use Rattle.meaning.specs.Settle.{entered, settled}
use Rattle.meaning.specs.Write.{Write}
use Rattle.laws.proofs.ContextLaws.{Named, higher_named}
use Rattle.laws.proofs.Facts.{in_dots}
use Rattle.laws.proofs.Entering.{in_counts, entered_has}
use Rattle.laws.proofs.StaysGood.{TakenIn}
use Rattle.crew.proofs.Right.{Writes, ◌∪◌, At, dot_of, History, Right, merge_right}
use Rattle.crew.proofs.Knows.{Closed, Knows, local_named, Results, right_set, settled_knows}

-- the results' dots are those of writes, so a clock that is closed stays closed
module _ (t : CrewTable) (All S : Writes) (H : History t All) (rs : List Stored)
    (right : (r : Stored) → r ∈ rs → Right All r.key (At S r.key) r.object) where
  -- a dot of the results is that of a write that was seen
  pub dot_made : (l : Listed) → l ∈ dots_of rs → (w : Write) × S w × All w × (w.dot ≡ l.dot) × (w.key ≡ l.key)
  dot_made l m =
      let q = in_dots rs m in
      let R = right q.point q.point_in in
      let p = R.honest q.version q.version_in in (
        p.0,
        p.1.0,
        (R.made p.0 p.1).0,
        dot_of p.0 q.version p.2 ∙ sym (ap (λ (z : Listed). z.dot) q.same),
        p.1.1 ∙ sym (ap (λ (z : Listed). z.key) q.same),
      )

  pub dots_counted : (l : Listed) → l ∈ dots_of rs → is_counter l.dot.count ≡ true
  dots_counted l m = let p = dot_made l m in subst (λ (d : Dot). is_counter d.count ≡ true) p.3 (H.counter p.0 p.2)

  pub closed_entered : (own : Controller) (c : Clock) → Closed All S t own c → Closed All S t own (entered c rs)
  closed_entered own c cl w al held h =
      ⊎_elim (cl w al held)
      (λ new.
      let l = in_counts w.dot.who (dots_of rs) new in
      let p = dot_made l.0 l.1 in
      subst (λ (z : Write). S z)
      (H.one_each p.0 w p.2 al (p.3 ∙ dot_path l.0.dot w.dot (ap (λ (n : Controller). n.0) l.2, ap (λ (x : Counter). x.0) l.3))) p.1)
      ((entered_has c rs dots_counted w.dot (H.by_crew w al)).0 h)

-- a step with one result: the point k, right for what was seen of it and for X
module _ (All S X : Writes) (s : State) (H : History s.table All) (K : Knows All S s) (k : Key) (o : Object)
    (R : Right All k (At S k ∪ X) o) (named : Named s.table k.job o.context) where
  abbrev result : Stored
  result = record { key = k; object = o }

  of_point : (w : Write) → X w → w.key ≡ k
  of_point w x = (R.made w (inr x)).1

  seen_right : Right All k (At (S ∪ X) k) o
  seen_right =
      right_set All (At S k ∪ X) (At (S ∪ X) k) k o (λ w. ⊎_elim (λ h. (inl h.0, h.1)) (λ h. (inr h, of_point w h)))
      (λ w h. ⊎_map (λ x. (x, h.1)) (λ x. x) h.0) R

  of_only : (P : Stored → Type 0) → P result → (r : Stored) → r ∈ result ∷ [] → P r
  of_only P p r h = subst P (sym (Memᴰ.eq_of_singleton h)) p

  pub each_right : (r : Stored) → r ∈ result ∷ [] → Right All r.key (At (S ∪ X) r.key) r.object
  each_right = of_only (λ z. Right All z.key (At (S ∪ X) z.key) z.object) seen_right

  results : Results All S (S ∪ X) s s.clock (result ∷ [])
  results = record {
    distinct = (λ q h. absurd (Memᴰ.not-nil h), tt);
    each_right = each_right;
    each_named = of_only (λ z. Named s.table z.key.job z.object.context) named;
    more = λ w. inl;
    elsewhere = λ w h away. ⊎_elim (λ x. x)
        (λ x. never (subst (λ (z : Key). same_key z k ≡ true) (sym (of_point w x)) (key_itself k)) (away result (here refl))) h;
    closed_after = closed_entered s.table All (S ∪ X) H (result ∷ []) each_right s.own s.clock (λ w al held h. inl (K.closed w al held h));
    rising = λ n c. le_refl (row s.clock n).base;
  }

  pub one_result : Knows All (S ∪ X) (settled s s.clock (record { key = k; object = o } ∷ []))
  one_result = settled_knows All S (S ∪ X) s H K s.clock (result ∷ []) results

-- an accepted message is seen: T is what its sender had seen when it was written
module _ (All S T : Writes) (s : State) (H : History s.table All) (K : Knows All S s) (m : Outgoing)
    (R : Right All m.key (At T m.key) m.object) (named : Named s.table m.key.job m.object.context) where
  pub take_in_right : (x : State) → TakenIn s m x → Right All m.key (At S m.key ∪ At T m.key) (merge (local s m.key) m.object)
  take_in_right x A = merge_right s.table All H m.key (At S m.key) (At T m.key) (local s m.key) m.object (K.right m.key A.held) R

  pub take_in_knows : (x : State) → TakenIn s m x → Knows All (S ∪ At T m.key) x
  take_in_knows x A =
      subst (λ (z : State). Knows All (S ∪ At T m.key) z) A.state
      (one_result All S (At T m.key) s H K m.key (merge (local s m.key) m.object) (take_in_right x A)
      (unfold merge in (higher_named s.table m.key.job (local s m.key).context m.object.context (local_named All S s K m.key) named)))
