-- Demand 3: every reading of a run shows exactly what is due. Assumes nothing.
use mathlib.Core.Path.{◌≡◌, refl, sym, ap, ◌∙◌, subst}
use mathlib.Core.Logic.{◌↔◌, ⊎_elim}
use mathlib.Core.Bool.{Bool, true, false, ◌&&◌, not}
use mathlib.Core.List.Memᴰ
use mathlib.Core.List.{List, []}
use Rattle.numbers.specs.declared.Controller.{Controller}
use Rattle.numbers.specs.declared.Key.{Key}
use Rattle.numbers.specs.Words.{keep, some?, map}
use Rattle.numbers.specs.Key.{same_key}
use Rattle.numbers.proofs.Tests.{by_test, never, and_left, and_right, and_both, and_false, not-true, ◌∈◌}
use Rattle.numbers.proofs.Lists.{in_keep, keep_in, some_in, none_in, in_map, map_in, in_place_all}
use Rattle.numbers.proofs.Orders.{Ascends, keep_ascends, place_all_ascends, ascending_same}
use Rattle.numbers.proofs.Dots.{same_keys, key_itself, tied_dots}
use Rattle.refusal.specs.Refusal.{accepted, refuse◌when◌else◌}
use Rattle.meaning.specs.CrewTable.{CrewTable, is_table, holds}
use Rattle.meaning.specs.Context.{covers}
use Rattle.meaning.specs.Object.{has_value, Version, version_before}
use Rattle.meaning.specs.State.{State, local}
use Rattle.meaning.specs.Message.{Outgoing}
use Rattle.meaning.specs.OwnSteps.{ours, shown, read}
use Rattle.meaning.specs.Write.{Write, covers_write}
use Rattle.laws.proofs.MergeLaws.{version_order}
use Rattle.laws.proofs.Local.{local_facts}
use Rattle.laws.proofs.StaysGood.{ours_is}
use Rattle.crew.specs.Moment.{Moment}
use Rattle.crew.specs.Run.{Reached}
use Rattle.crew.specs.Demand.{version_of, covered_in, stands, due, ShownExactly, DueIsExact}
use Rattle.crew.proofs.Right.{Writes, At, Uncovered, version_dot, version_contents, History, Right}
use Rattle.crew.proofs.Sound.{Sound, history, sound}
use Rattle.crew.proofs.Listing.{place_all_comes}
use Rattle.crew.proofs.Invariant.{In, Inv}
use Rattle.crew.proofs.Held.{invariant}

-- ---- what stands

-- what `stands` asks for
pub record Stands (ws : List Write) (k : Key) (w : Write) : Type 0 where
  pub of_point : w.key ≡ k
  pub valued : has_value w.contents ≡ true
  pub uncovered : (u : Write) → u ∈ ws → covers_write u w ≡ false

pub stands_is : (ws : List Write) (k : Key) (w : Write) → stands ws k w ≡ true → Stands ws k w
unfolding stands covered_in
stands_is ws k w t =
    let a = same_key w.key k in
    let b = has_value w.contents in
    let c = not (some? (λ u. covers_write u w) ws) in
    let first = and_left (a && b) c t in
    record {
      of_point = same_keys w.key k (and_left a b first);
      valued = and_right a b first;
      uncovered = λ u m. none_in (λ x. covers_write x w) ws (not-true (some? (λ x. covers_write x w) ws) (and_right (a && b) c t)) m;
    }

pub is_standing : (ws : List Write) (k : Key) (w : Write) → Stands ws k w → stands ws k w ≡ true
unfolding stands covered_in
is_standing ws k w F =
    and_both (same_key w.key k && has_value w.contents) (not (some? (λ u. covers_write u w) ws))
    (and_both (same_key w.key k) (has_value w.contents) (subst (λ (z : Key). same_key w.key z ≡ true) F.of_point (key_itself w.key)) F.valued) (ap not none)
  where
    none : some? (λ u. covers_write u w) ws ≡ false
    none = by_test (some? (λ u. covers_write u w) ws) (λ t. let q = some_in (λ u. covers_write u w) ws t in never q.2 (F.uncovered q.0 q.1)) (λ f. f)

-- of one point, no write covers where no context does
pub uncovered_at : (ws : List Write) (k : Key) (w : Write) → w.key ≡ k → Uncovered (At (In ws) k) w → (u : Write) → u ∈ ws → covers_write u w ≡ false
unfolding covers_write
uncovered_at ws k w e un u m =
    by_test (same_key u.key w.key)
    (λ t. rw (t, un u (m, same_keys u.key w.key t ∙ e)))
    (λ f. rw f)

pub at_uncovered : (ws : List Write) (k : Key) (w : Write) → w.key ≡ k → ((u : Write) → u ∈ ws → covers_write u w ≡ false) → Uncovered (At (In ws) k) w
unfolding covers_write
at_uncovered ws k w e un u h =
    and_false (same_key u.key w.key) (covers u.given w.dot) (un u h.0) (subst (λ (z : Key). same_key u.key z ≡ true) (h.1 ∙ sym e) (key_itself u.key))

-- ---- what is due

module _ (t : CrewTable) (All : Writes) (H : History t All) (seen : List Write) (made : (w : Write) → w ∈ seen → All w) (k : Key) where
  abbrev standing : List Version
  standing = map version_of (keep (stands seen k) seen)

  from_standing : (v : Version) → v ∈ standing → (w : Write) × (w ∈ seen) × Stands seen k w × (v ≡ version_of w)
  from_standing v m =
      let q = in_map version_of (keep (stands seen k) seen) m in
      let p = in_keep (stands seen k) seen q.1 in
      (q.0, p.0, stands_is seen k q.0 p.1, q.2)

  pub in_due : (v : Version) → v ∈ due k seen → (w : Write) × (w ∈ seen) × Stands seen k w × (v ≡ version_of w)
  unfolding due
  in_due v m = ⊎_elim (from_standing v) (λ h. absurd (Memᴰ.not-nil h)) (in_place_all version_before standing [] m)

  pub due_in : (w : Write) → w ∈ seen → Stands seen k w → version_of w ∈ due k seen
  unfolding due
  due_in w m F =
      place_all_comes version_before standing [] (map_in version_of (keep (stands seen k) seen) (keep_in (stands seen k) seen m (is_standing seen k w F)))
      (λ x h e.
      let q = from_standing x h in
      ap version_of (H.one_each w q.0 (made w m) (made q.0 q.1)
      (sym (version_dot w) ∙ tied_dots (version_of w).dot x.dot e ∙ ap (λ (z : Version). z.dot) q.3 ∙ version_dot q.0))
      ∙ sym q.3)

pub due_ascends : (k : Key) (seen : List Write) → Ascends version_before (due k seen)
unfolding due
due_ascends k seen = place_all_ascends version_before version_order (map version_of (keep (stands seen k) seen)) [] refl

-- ---- a reading

abbrev reading : State → Key → Outgoing
reading s k = record { sender = s.own; key = k; object = shown (local s k) }

pub read_is : (s : State) (k : Key) → ours s k ≡ true → read s k ≡ accepted (record { sender = s.own; key = k; object = shown (local s k) })
unfolding read refuse◌when◌else◌
read_is s k o = rw o

module _ (t : CrewTable) (ok : is_table t ≡ true) (M : Moment) (r : Reached t M) (n : Controller) (on : M.started n ≡ true) (k : Key)
    (held : holds (M.state n).table (M.state n).own k.job ≡ true) where
  S : Sound t M
  S = sound t ok M r

  I : Inv t (In M.writes) M
  I = invariant t ok M r

  abbrev s : State
  s = M.state n

  R : Right (In M.writes) k (At (In (M.seen n)) k) (local s k)
  R = (I.knows n).right k held

  abbrev has : Version → Bool
  has v = has_value v.contents

  exactly : (v : Version) → (v ∈ keep has (local s k).versions) ↔ (v ∈ due k (M.seen n))
  exactly v = (
    λ m.
        let q = in_keep has (local s k).versions m in
        let p = R.honest v q.0 in
        Memᴰ.cast (sym p.2)
        (due_in t (In M.writes) (history t M S) (M.seen n) (I.seen_made n) k p.0 p.1.0
        (record {
          of_point = p.1.1;
          valued = ap has_value (sym (version_contents p.0)) ∙ ap has p.2 ∙ q.1;
          uncovered = uncovered_at (M.seen n) k p.0 p.1.1 p.3;
        })),
    λ m.
        let p = in_due t (In M.writes) (history t M S) (M.seen n) (I.seen_made n) k v m in
        let F = p.2 in
        keep_in has (local s k).versions
        (Memᴰ.cast p.3 (R.complete p.0 (p.1, F.of_point) F.valued (at_uncovered (M.seen n) k p.0 F.of_point F.uncovered)))
        (ap has p.3 ∙ ap has_value (version_contents p.0) ∙ F.valued),
  )

  pub shows : (shown (local s k)).versions ≡ due k (M.seen n)
  unfolding shown
  shows =
      ascending_same version_before version_order (keep has (local s k).versions) (due k (M.seen n))
      (keep_ascends version_before has (local s k).versions (local_facts s (S.good n (S.crew n on)) k held).object.versions.ascend)
      (due_ascends k (M.seen n)) exactly

-- demand 3
pub shown_exactly : ShownExactly
unfolding ShownExactly
shown_exactly t ok M r n on k mine = (reading (M.state n) k, read_is (M.state n) k mine, shows t ok M r n on k (ours_is (M.state n) k mine).1)

pub due_is_exact : DueIsExact
unfolding DueIsExact
due_is_exact t ok M r n k =
    let S = sound t ok M r in
    let I = invariant t ok M r in
    record {
      each_stands = λ v m.
          let q = in_due t (In M.writes) (history t M S) (M.seen n) (I.seen_made n) k v m in
          (q.0, q.1, is_standing (M.seen n) k q.0 q.2, sym q.3);
      none_missing = λ w m h. due_in t (In M.writes) (history t M S) (M.seen n) (I.seen_made n) k w m (stands_is (M.seen n) k w h);
      ascending = due_ascends k (M.seen n);
    }
