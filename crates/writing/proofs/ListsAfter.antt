-- The dot lists after a write or a delete: the new dot stands last in the own list, and the foreign list is as it was. Assumes nothing.
use Rattle.std.specs.Prelude.{if◌then◌else◌}
use Prim.Native.Nat.{◌+◌, ◌-◌}
use mathlib.Core.Path.{◌≡◌, refl, ap, sym, ◌∙◌}
use mathlib.Core.Logic.{inr}
use mathlib.Core.Bool.{Bool, true, false, not}
use mathlib.Core.List.{List, [], ◌∷◌, ◌++◌, append-nil}
use native.Mathlib.Omega.{arith}
use lib.ListN.{length, take, drop, drop_of_length-le}
use lib.Seq.{take_all, take-nil}
use Rattle.numbers.specs.declared.Controller.{Controller}
use Rattle.numbers.specs.declared.Key.{Key}
use Rattle.numbers.specs.Words.{cons_if, keep, place, place_all, map}
use Rattle.numbers.specs.Numbers.{same_controller}
use Rattle.numbers.proofs.Tests.{by_test, ◌∈◌, here, there}
use Rattle.numbers.proofs.Lists.{in_keep}
use Rattle.numbers.proofs.Orders.{lt_pair}
use Rattle.numbers.proofs.Controllers.{same_controllers, controller_itself}
use Rattle.block.specs.Fields.{insert_at}
use Rattle.meaning.specs.CrewTable.{holds}
use Rattle.meaning.specs.Clock.{in_clock}
use Rattle.meaning.specs.Context.{Context, covers}
use Rattle.meaning.specs.Object.{Contents, Version, version_before}
use Rattle.meaning.specs.State.{Stored, Listed, listed_before, State, own_base, dots_of, local}
use Rattle.meaning.specs.Settle.{most_listed, newly_listed, own_listed, foreign_listed}
use Rattle.meaning.specs.OwnSteps.{next_dot, written}
use Rattle.laws.proofs.Goodness.{Good}
use Rattle.laws.proofs.Local.{LocalFacts, local_facts}
use Rattle.laws.proofs.Writing.{own_known}

-- of a thing that was put among others, where only it passes the test
module _ {A B : Type 0} (before : A → A → Bool) (f : A → B) (g : B → Bool) (x : A) (passes : g (f x) ≡ true) where
  none_passes : (ys : List A) → ((y : A) → y ∈ ys → g (f y) ≡ false) → keep g (map f ys) ≡ []
  none_passes [] h = refl
  none_passes (y ∷ ys) h = ap (λ (b : Bool). cons_if b (f y) (keep g (map f ys))) (h y (here refl)) ∙ none_passes ys (λ z m. h z (there m))

  it_passes : (ys : List A) → ((y : A) → y ∈ ys → g (f y) ≡ false) → keep g (map f (x ∷ ys)) ≡ f x ∷ []
  it_passes ys h = ap (λ (b : Bool). cons_if b (f x) (keep g (map f ys))) passes ∙ ap (λ (l : List B). f x ∷ l) (none_passes ys h)

  only_it : (ys : List A) → ((y : A) → y ∈ ys → g (f y) ≡ false) → keep g (map f (place before x ys)) ≡ f x ∷ []
  only_it [] h = it_passes [] h
  only_it (y ∷ ys) h =
      by_test (before y x)
      (λ t. ap (λ (b : Bool). keep g (map f (if b then (y ∷ place before x ys) else (if before x y then (x ∷ y ∷ ys) else (x ∷ ys))))) t
      ∙ ap (λ (b : Bool). cons_if b (f y) (keep g (map f (place before x ys)))) (h y (here refl)) ∙ only_it ys (λ z m. h z (there m)))
      (λ t. ap (λ (b : Bool). keep g (map f (if b then (y ∷ place before x ys) else (if before x y then (x ∷ y ∷ ys) else (x ∷ ys))))) t
      ∙ by_test (before x y) (λ u. ap (λ (b : Bool). keep g (map f (if b then (x ∷ y ∷ ys) else (x ∷ ys)))) u ∙ it_passes (y ∷ ys) h)
      (λ u. ap (λ (b : Bool). keep g (map f (if b then (x ∷ y ∷ ys) else (x ∷ ys)))) u ∙ it_passes ys (λ z m. h z (there m))))

-- behind those that come before it
place_last : {A : Type 0} (before : A → A → Bool) (x : A) (ys : List A) → ((y : A) → y ∈ ys → before y x ≡ true) → place before x ys ≡ ys ++ (x ∷ [])
place_last before x [] h = refl
place_last before x (y ∷ ys) h =
    ap (λ (b : Bool). if b then (y ∷ place before x ys) else (if before x y then (x ∷ y ∷ ys) else (x ∷ ys))) (h y (here refl)) ∙ ap (λ (l : List _). y ∷ l) (place_last before x ys (λ z m. h z (there m)))

module _ (s : State) (G : Good s) (k : Key) (b : Contents) (c : Context) (held : holds s.table s.own k.job ≡ true) where
  abbrev result : Stored
  result = record { key = k; object = written s k b c }

  abbrev fresh : Version
  fresh = record { dot = next_dot s; contents = b }

  abbrev new : Listed
  new = record { dot = next_dot s; key = k }

  abbrev with_key : Version → Listed
  with_key v = record { dot = v.dot; key = k }

  L : LocalFacts s k (local s k)
  L = local_facts s G k held

  unknown : in_clock s.clock (next_dot s) ≡ false
  unfolding next_dot
  unknown = by_test (in_clock s.clock (next_dot s)) (λ t. absurd (omega (arith, own_known s G (next_dot s) refl t))) (λ t. t)

  -- the new dot alone is new to the clock
  newly : newly_listed s (record { key = k; object = written s k b c } ∷ []) ≡ record { dot = next_dot s; key = k } ∷ []
  unfolding newly_listed dots_of written
  newly =
      ap (keep (λ l. not (in_clock s.clock l.dot))) (append-nil (map with_key (place version_before fresh old)))
      ∙ only_it version_before with_key (λ l. not (in_clock s.clock l.dot)) fresh (ap not unknown) old
      (λ v m. ap not (L.known v (in_keep (λ w. not (covers c w.dot)) (local s k).versions m).0))
    where
      old : List Version
      old = keep (λ w. not (covers c w.dot)) (local s k).versions

  -- every own dot comes before it
  comes_last : (l : Listed) → l ∈ s.own_dots → listed_before l (record { dot = next_dot s; key = k }) ≡ true
  unfolding next_dot
  comes_last l m =
      let own : l.dot.who ≡ s.own = same_controllers l.dot.who s.own (G.own_own l m) in
      lt_pair l.dot.who.0 l.dot.count.0 s.own.0 (own_base s + 1)
      (inr (ap (λ (n : Controller). n.0) own, omega (arith, own_known s G l.dot own (G.lists l (Rattle.numbers.proofs.Lists.in_left s.own_dots s.foreign_dots m)).known)))

  pub own_after : own_listed s (record { key = k; object = written s k b c } ∷ []) ≡ insert_at s.own_dots (length s.own_dots) (record { dot = next_dot s; key = k })
  unfolding own_listed
  own_after =
      ap (λ (ls : List Listed). place_all listed_before (keep (λ l. same_controller l.dot.who s.own) ls) s.own_dots) newly
      ∙ ap (λ (t : Bool). place_all listed_before (cons_if t new []) s.own_dots) mine
      ∙ place_last listed_before new s.own_dots comes_last
      ∙ sym (ap (λ (ls : List Listed). ls ++ (new ∷ drop (length s.own_dots) s.own_dots)) (take_all (length s.own_dots) s.own_dots (omega arith))
      ∙ ap (λ (ls : List Listed). s.own_dots ++ (new ∷ ls)) (drop_of_length-le s.own_dots {i = length s.own_dots} (omega arith)))
    where
      mine : same_controller (next_dot s).who s.own ≡ true
      mine = unfold next_dot in (controller_itself s.own)

  pub foreign_after : foreign_listed s (record { key = k; object = written s k b c } ∷ []) ≡ s.foreign_dots
  unfolding foreign_listed
  foreign_after =
      ap (λ (ls : List Listed). place_all listed_before (take (most_listed - length s.foreign_dots) (place_all listed_before (keep (λ l. not (same_controller l.dot.who s.own)) ls) [])) s.foreign_dots) newly
      ∙ ap (λ (t : Bool). place_all listed_before (take (most_listed - length s.foreign_dots) (place_all listed_before (cons_if (not t) new []) [])) s.foreign_dots) mine
      ∙ ap (λ (ls : List Listed). place_all listed_before ls s.foreign_dots) (take-nil (most_listed - length s.foreign_dots))
    where
      mine : same_controller (next_dot s).who s.own ≡ true
      mine = unfold next_dot in (controller_itself s.own)
