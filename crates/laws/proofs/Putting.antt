-- The records and the lists after storing: where each of them comes from. Assumes nothing.
use Prim.Native.Nat.{◌+◌, ◌-◌, ◌≤◌}
use mathlib.Core.Path.{◌≡◌, refl, sym, ap, ◌∙◌}
use mathlib.Core.Logic.{◌⊎◌, inl, inr, ⊎_elim, ⊎_map}
use mathlib.Core.Bool.{true, false, not}
use mathlib.Core.List.Memᴰ
use mathlib.Core.List.{List, [], ◌∷◌, ◌++◌}
use native.Mathlib.Omega.{arith}
use lib.ListN.{length, take, length-take}
use borrow.Author.Tests.{not-true}
use Rattle.numbers.specs.declared.Key.{Key}
use Rattle.numbers.specs.Words.{keep, place_all, fold}
use Rattle.numbers.specs.Numbers.{same_controller}
use Rattle.numbers.specs.Key.{same_key}
use Rattle.numbers.proofs.Tests.{by_test, ◌∈◌, here, there}
use Rattle.numbers.proofs.Lists.{Tied, in_left, in_right, in_keep, in_place_all}
use Rattle.numbers.proofs.Orders.{Order, by_pair, Ascends, keep_ascends, take_in, place_ascends, place_all_ascends, in_place_apart, place_all_length}
use Rattle.numbers.proofs.Dots.{same_keys, keys_tied}
use Rattle.meaning.specs.Clock.{Clock, in_clock}
use Rattle.meaning.specs.Object.{no_object, strip, gone}
use Rattle.meaning.specs.State.{Stored, stored_before, Listed, listed_before, State, listed, dots_of, look_up}
use Rattle.meaning.specs.Settle.{most_listed, without, stripped, put, newly_listed, own_listed, foreign_listed}

pub stored_order : Order stored_before
stored_order = by_pair (λ p. p.key.job) (λ p. p.key.point.0)

pub listed_order : Order listed_before
listed_order = by_pair (λ l. l.dot.who.0) (λ l. l.dot.count.0)

-- ---- records

-- a record after storing is one that was there and that no result has the key of, or it is what a result left
pub data From (k : Clock) (ps rs : List Stored) (p : Stored) : Type 0 where
  stays : p ∈ ps → ((r : Stored) → r ∈ rs → same_key r.key p.key ≡ false) → From k ps rs p
  comes : (r : Stored) → r ∈ rs → p ≡ stripped k r → gone (strip k r.object) ≡ false → From k ps rs p

in_put : (k : Clock) (ps : List Stored) (r : Stored) → Ascends stored_before ps → {p : Stored} → p ∈ put k ps r
    → ((p ≡ stripped k r) × (gone (strip k r.object) ≡ false)) ⊎ ((p ∈ ps) × (same_key r.key p.key ≡ false))
unfolding put without
in_put k ps r asc {p} m = by_test (gone (strip k r.object)) (λ t. inr (went (rw t at m))) (λ t. ⊎_map (λ e. (e, t)) beside (in_place_apart stored_before stored_order (stripped k r) ps asc (rw t at m)))
  where
    went : p ∈ keep (λ q. not (same_key r.key q.key)) ps → (p ∈ ps) × (same_key r.key p.key ≡ false)
    went h = let q = in_keep (λ q. not (same_key r.key q.key)) ps h in (q.0, not-true (same_key r.key p.key) q.1)

    beside : (p ∈ ps) × (Tied stored_before p (stripped k r) → ⊥) → (p ∈ ps) × (same_key r.key p.key ≡ false)
    beside h = (h.0, by_test (same_key r.key p.key) (λ t. absurd (h.1 (keys_tied p.key r.key (sym (same_keys r.key p.key t))))) (λ t. t))

put_ascends : (k : Clock) (ps : List Stored) (r : Stored) → Ascends stored_before ps → Ascends stored_before (put k ps r)
unfolding put without
put_ascends k ps r asc =
    by_test (gone (strip k r.object)) (λ t. rw t (keep_ascends stored_before _ ps asc)) (λ t. rw t (place_ascends stored_before stored_order (stripped k r) ps asc))

pub put_all_ascends : (k : Clock) (ps rs : List Stored) → Ascends stored_before ps → Ascends stored_before (fold (put k) ps rs)
put_all_ascends k ps [] asc = asc
put_all_ascends k ps (r ∷ rs) asc = put_all_ascends k (put k ps r) rs (put_ascends k ps r asc)

pub in_put_all : (k : Clock) (ps rs : List Stored) → Ascends stored_before ps → {p : Stored} → p ∈ fold (put k) ps rs → From k ps rs p
in_put_all k ps [] asc m = stays m (λ r h. absurd (Memᴰ.not-nil h))
in_put_all k ps (r ∷ rs) asc {p} m = more (in_put_all k (put k ps r) rs (put_ascends k ps r asc) m)
  where
    more : From k (put k ps r) rs p → From k ps (r ∷ rs) p
    more (comes q h e g) = comes q (there h) e g
    more (stays h other) =
        ⊎_elim (λ x. comes r (here refl) x.0 x.1)
        (λ x. stays x.0 (λ q y. ⊎_elim (λ e. ap (λ (z : Stored). same_key z.key p.key) e ∙ x.1) (other q) (Memᴰ.cases_cons y)))
        (in_put k ps r asc h)

-- what is looked up stands in a record of that key, or there is none
pub looked_up : (k : Key) (ps : List Stored) → ((p : Stored) × (p ∈ ps) × (p.key ≡ k) × (look_up k ps ≡ p.object)) ⊎ (look_up k ps ≡ no_object)
unfolding look_up
looked_up k [] = inr refl
looked_up k (p ∷ ps) =
    let rest = looked_up k ps in
    by_test (same_key k p.key) (λ t. inl (p, here refl, sym (same_keys k p.key t), rw (t, look_up)))
    (λ t. rw (t, look_up) (⊎_map (λ q. (q.0, there q.1, q.2, q.3)) (λ e. e) rest))

-- ---- lists

module _ (s : State) (rs : List Stored) where
  pub in_newly : {l : Listed} → l ∈ newly_listed s rs → (l ∈ dots_of rs) × (in_clock s.clock l.dot ≡ false)
  unfolding newly_listed
  in_newly {l} m = let q = in_keep (λ x. not (in_clock s.clock x.dot)) (dots_of rs) m in (q.0, not-true (in_clock s.clock l.dot) q.1)

  pub in_own_listed : {l : Listed} → l ∈ own_listed s rs → ((l ∈ newly_listed s rs) × (same_controller l.dot.who s.own ≡ true)) ⊎ (l ∈ s.own_dots)
  unfolding own_listed
  in_own_listed m =
      ⊎_map (λ h. in_keep (λ l. same_controller l.dot.who s.own) (newly_listed s rs) h) (λ h. h) (in_place_all listed_before _ s.own_dots m)

  pub in_foreign_listed : {l : Listed} → l ∈ foreign_listed s rs → ((l ∈ newly_listed s rs) × (same_controller l.dot.who s.own ≡ false)) ⊎ (l ∈ s.foreign_dots)
  unfolding foreign_listed
  in_foreign_listed {l} m =
      ⊎_map
      (λ h. ⊎_elim
      (λ x. let q = in_keep (λ y. not (same_controller y.dot.who s.own)) (newly_listed s rs) x in (q.0, not-true (same_controller l.dot.who s.own) q.1))
      (λ x. absurd (Memᴰ.not-nil x))
      (in_place_all listed_before (keep (λ y. not (same_controller y.dot.who s.own)) (newly_listed s rs)) []
      (take_in listed_before (most_listed - length s.foreign_dots) (place_all listed_before (keep (λ y. not (same_controller y.dot.who s.own)) (newly_listed s rs)) []) h)))
      (λ h. h) (in_place_all listed_before _ s.foreign_dots m)

  -- a dot listed after storing was listed before, or is one of the results' dots
  pub in_listed : {l : Listed} → l ∈ own_listed s rs ++ foreign_listed s rs → (l ∈ newly_listed s rs) ⊎ (l ∈ listed s)
  in_listed m =
      ⊎_elim (λ h. ⊎_map (λ x. x.0) (in_left s.own_dots s.foreign_dots) (in_own_listed h))
      (λ h. ⊎_map (λ x. x.0) (in_right s.own_dots s.foreign_dots) (in_foreign_listed h)) (Memᴰ.append_cases (own_listed s rs) m)

  pub own_listed_ascends : Ascends listed_before s.own_dots → Ascends listed_before (own_listed s rs)
  unfolding own_listed
  own_listed_ascends asc =
      place_all_ascends listed_before listed_order (keep (λ l. same_controller l.dot.who s.own) (newly_listed s rs)) s.own_dots asc

  pub foreign_listed_ascends : Ascends listed_before s.foreign_dots → Ascends listed_before (foreign_listed s rs)
  unfolding foreign_listed
  foreign_listed_ascends asc =
      let new = place_all listed_before (keep (λ l. not (same_controller l.dot.who s.own)) (newly_listed s rs)) [] in
      place_all_ascends listed_before listed_order (take (most_listed - length s.foreign_dots) new) s.foreign_dots asc

  pub foreign_listed_few : length s.foreign_dots ≤ most_listed → length (foreign_listed s rs) ≤ most_listed
  unfolding foreign_listed
  foreign_listed_few h =
      let new = place_all listed_before (keep (λ l. not (same_controller l.dot.who s.own)) (newly_listed s rs)) [] in
      omega (
        arith,
        place_all_length listed_before (take (most_listed - length s.foreign_dots) new) s.foreign_dots,
        length-take (most_listed - length s.foreign_dots) new,
      )
