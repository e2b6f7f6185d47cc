-- The lists after a take in or a repair: no own dot is new, and the foreign ones are those that arrive. Assumes nothing.
use Prim.Native.Nat.{◌-◌}
use mathlib.Core.Path.{◌≡◌, refl, ap, sym, ◌∙◌, subst}
use mathlib.Core.Logic.{inl, ⊎_elim}
use mathlib.Core.Bool.{Bool, false, ◌&&◌, not}
use mathlib.Core.List.Memᴰ
use mathlib.Core.List.{List, []}
use lib.ListN.{length, take}
use borrow.Author.Tests.{not-true}
use Rattle.numbers.specs.declared.Dot.{Dot}
use Rattle.numbers.specs.declared.Key.{Key}
use Rattle.numbers.specs.Words.{keep, map, concat_map, place_all}
use Rattle.numbers.specs.Numbers.{same_controller}
use Rattle.numbers.proofs.Tests.{by_test, never, and_left, and_right, and_both, ◌∈◌}
use Rattle.numbers.proofs.Lists.{in_keep, keep_in, in_map, map_in, in_concat_map, concat_map_in, keep_none, in_place_all, place_all_in}
use Rattle.numbers.proofs.Controllers.{same_controllers}
use Rattle.numbers.proofs.Dots.{tied_dots}
use Rattle.numbers.proofs.Orders.{ascending_same, place_all_ascends}
use Rattle.row.proofs.Highest.{counter_positive}
use Rattle.meaning.specs.Clock.{in_clock}
use Rattle.meaning.specs.Context.{covers}
use Rattle.meaning.specs.Object.{Version, Object, merge}
use Rattle.meaning.specs.State.{Stored, Listed, listed_before, State, dots_of, local}
use Rattle.meaning.specs.Settle.{most_listed, newly_listed, own_listed, foreign_listed}
use Rattle.laws.proofs.Facts.{in_dots, dots_in}
use Rattle.laws.proofs.Goodness.{Good}
use Rattle.laws.proofs.Putting.{listed_order, in_newly}
use Rattle.laws.proofs.Merging.{Carried}
use Rattle.laws.proofs.Writing.{known_own}
use Rattle.noting.specs.Noted.{newly_arrived, fresh, noted}
use Rattle.arriving.proofs.Merged.{known_or_arrives, arrives_in}

module _ (s : State) (G : Good s) (ps : List Stored) (g : Stored → Object) (same : (p : Stored) → (g p).versions ≡ p.object.versions)
    (C : (p : Stored) → p ∈ ps → Carried s p.key (g p))
    (apart : (p q : Stored) (v w : Version) → p ∈ ps → q ∈ ps → v ∈ (g p).versions → w ∈ (g q).versions → v.dot ≡ w.dot → p.key ≡ q.key) where
  abbrev merged : Stored → Stored
  merged p = record { key = p.key; object = merge (local s p.key) (g p) }

  abbrev rs : List Stored
  rs = map merged ps

  -- a version arrives, and is new to the clock
  abbrev new : Stored → Version → Bool
  new p v = not (covers (local s p.key).context v.dot) && not (in_clock s.clock v.dot)

  abbrev as_listed : Stored → Version → Listed
  as_listed p v = record { dot = v.dot; key = p.key }

  -- a new dot, and the version that it is of
  record New (l : Listed) : Type 0 where
    point : Stored
    version : Version
    point_in : point ∈ ps
    version_in : version ∈ (g point).versions
    uncovered : covers (local s point.key).context version.dot ≡ false
    unknown : in_clock s.clock version.dot ≡ false
    is : l ≡ as_listed point version

  of_newly : (l : Listed) → l ∈ newly_listed s rs → New l
  of_newly l m =
      let n = in_newly s rs m in
      let d = in_dots rs n.0 in
      let p = in_map merged ps d.point_in in
      let v = d.version in
      let unknown : in_clock s.clock v.dot ≡ false = subst (λ (x : Dot). in_clock s.clock x ≡ false) (ap (λ (x : Listed). x.dot) d.same) n.1 in
      let is : l ≡ as_listed p.0 v = d.same ∙ ap (λ (r : Stored). record { dot = v.dot; key = r.key }) p.2 in
      ⊎_elim (λ t. never t unknown) (λ t. record { point = p.0; version = v; point_in = p.1; version_in = t.0; uncovered = t.1; unknown = unknown; is = is })
      (known_or_arrives s G p.0.key (g p.0) (C p.0 p.1) v (subst (λ (r : Stored). v ∈ r.object.versions) p.2 d.version_in))

  to_newly : (l : Listed) → New l → l ∈ newly_listed s rs
  unfolding newly_listed
  to_newly l N =
      let p = N.point in
      let v = N.version in
      subst (λ (x : Listed). x ∈ newly_listed s rs) (sym N.is)
      (keep_in (λ x. not (in_clock s.clock x.dot)) (dots_of rs) (dots_in rs (map_in merged ps N.point_in) (arrives_in s G p.key (g p) (C p N.point_in) v N.version_in N.uncovered)) (ap not N.unknown))

  of_arrived : (l : Listed) → l ∈ newly_arrived s ps → New l
  unfolding newly_arrived
  of_arrived l m =
      let q = in_concat_map (λ (p : Stored). map (as_listed p) (keep (new p) p.object.versions)) ps m in
      let u = in_map (as_listed q.0) (keep (new q.0) q.0.object.versions) q.2 in
      let k = in_keep (new q.0) q.0.object.versions u.1 in
      let a = not (covers (local s q.0.key).context u.0.dot) in
      let b = not (in_clock s.clock u.0.dot) in
      record {
        point = q.0;
        version = u.0;
        point_in = q.1;
        version_in = subst (λ (vs : List Version). u.0 ∈ vs) (sym (same q.0)) k.0;
        uncovered = not-true (covers (local s q.0.key).context u.0.dot) (and_left a b k.1);
        unknown = not-true (in_clock s.clock u.0.dot) (and_right a b k.1);
        is = u.2;
      }

  to_arrived : (l : Listed) → New l → l ∈ newly_arrived s ps
  unfolding newly_arrived
  to_arrived l N =
      let p = N.point in
      let v = N.version in
      subst (λ (x : Listed). x ∈ concat_map (λ (q : Stored). map (as_listed q) (keep (new q) q.object.versions)) ps) (sym N.is)
      (concat_map_in (λ (q : Stored). map (as_listed q) (keep (new q) q.object.versions)) ps N.point_in
      (map_in (as_listed p) (keep (new p) p.object.versions)
      (keep_in (new p) p.object.versions (subst (λ (vs : List Version). v ∈ vs) (same p) N.version_in)
      (and_both (not (covers (local s p.key).context v.dot)) (not (in_clock s.clock v.dot)) (ap not N.uncovered) (ap not N.unknown)))))

  -- no own dot is new: an own counter is at most our base, and that is known
  foreign : (l : Listed) → New l → same_controller l.dot.who s.own ≡ false
  foreign l N = by_test (same_controller l.dot.who s.own) (λ t. absurd (known (ap (λ (x : Listed). x.dot.who) (sym N.is) ∙ same_controllers l.dot.who s.own t))) (λ t. t)
    where
      known : N.version.dot.who ≡ s.own → ⊥
      known e =
          never (known_own s N.version.dot e (counter_positive N.version.dot.count ((C N.point N.point_in).object.versions.each N.version N.version_in).counter)
          ((C N.point N.point_in).own_dots N.version N.version_in e)) N.unknown

  pub own_kept : own_listed s rs ≡ s.own_dots
  unfolding own_listed
  own_kept = ap (λ (ls : List Listed). place_all listed_before ls s.own_dots) (keep_none (λ l. same_controller l.dot.who s.own) (newly_listed s rs) (λ l m. foreign l (of_newly l m)))

  -- new dots that are the same are of the same point
  one : (l m : Listed) → New l → New m → l.dot ≡ m.dot → l ≡ m
  one l m N M e =
      let d : N.version.dot ≡ M.version.dot = ap (λ (x : Listed). x.dot) (sym N.is) ∙ e ∙ ap (λ (x : Listed). x.dot) M.is in
      N.is ∙ ap (λ (x : Dot). record { dot = x; key = N.point.key }) d
      ∙ ap (λ (k : Key). record { dot = M.version.dot; key = k }) (apart N.point M.point N.version M.version N.point_in M.point_in N.version_in M.version_in d)
      ∙ sym M.is

  abbrev foreign_new : List Listed
  foreign_new = keep (λ l. not (same_controller l.dot.who s.own)) (newly_listed s rs)

  sorted : place_all listed_before foreign_new [] ≡ place_all listed_before (newly_arrived s ps) []
  sorted =
      ascending_same listed_before listed_order (place_all listed_before foreign_new []) (place_all listed_before (newly_arrived s ps) [])
      (place_all_ascends listed_before listed_order foreign_new [] refl) (place_all_ascends listed_before listed_order (newly_arrived s ps) [] refl)
      (λ l. (
        λ m. placed (newly_arrived s ps) of_arrived l (to_arrived l (from_foreign l (out foreign_new l m))),
        λ m. placed foreign_new from_foreign l (let N = of_arrived l (out (newly_arrived s ps) l m) in keep_in (λ x. not (same_controller x.dot.who s.own)) (newly_listed s rs) (to_newly l N) (ap not (foreign l N))),
      ))
    where
      from_foreign : (l : Listed) → l ∈ foreign_new → New l
      from_foreign l m = of_newly l (in_keep (λ x. not (same_controller x.dot.who s.own)) (newly_listed s rs) m).0

      out : (ls : List Listed) (l : Listed) → l ∈ place_all listed_before ls [] → l ∈ ls
      out ls l m = ⊎_elim (λ x. x) (λ x. absurd (Memᴰ.not-nil x)) (in_place_all listed_before ls [] m)

      placed : (ls : List Listed) → ((l : Listed) → l ∈ ls → New l) → (l : Listed) → l ∈ ls → l ∈ place_all listed_before ls []
      placed ls h l m =
          place_all_in listed_before New (λ x y nx ny t. one x y nx ny (tied_dots x.dot y.dot t)) ls [] h (λ x k. absurd (Memᴰ.not-nil k)) (inl m)

  pub foreign_is : foreign_listed s rs ≡ noted s ps
  unfolding foreign_listed noted fresh
  foreign_is = ap (λ (ls : List Listed). place_all listed_before (take (most_listed - length s.foreign_dots) ls) s.foreign_dots) sorted
