-- The next dot behind the last one: what is chosen one by one of a list is the first behind the last one of that list in order. Assumes nothing.
use Rattle.std.specs.Prelude.{if◌then◌else◌, Option, Some, None}
use mathlib.Core.Path.{◌≡◌, refl, sym, ap, ◌∙◌}
use mathlib.Core.Logic.{⊎_elim}
use mathlib.Core.Bool.{Bool, true, false}
use mathlib.Core.List.Memᴰ
use mathlib.Core.List.{List, [], ◌∷◌}
use Rattle.numbers.specs.declared.Dot.{Dot}
use Rattle.numbers.specs.declared.Key.{Key}
use Rattle.numbers.specs.Words.{cons_if, keep, place, place_all}
use Rattle.numbers.specs.Dot.{dot_before}
use Rattle.numbers.proofs.Tests.{by_test, never, ◌∈◌, here, there}
use Rattle.numbers.proofs.Orders.{Ascends, ascends_first, ascends_rest, place_all_ascends}
use Rattle.meaning.specs.State.{Listed, listed_before, State}
use Rattle.laws.proofs.Putting.{listed_order}
use Rattle.noting.specs.Noted.{arrives_new}
use Rattle.noting.specs.Nearest.{nearer, closer, with_new, nearest}

-- ---- the choice between two, as the code makes it

module _ (best : Option (Dot × Key)) (l : Listed) where
  pub first_found : best ≡ None → Some (l.dot, l.key) ≡ nearer best l
  first_found e = sym (ap (λ (n : Option (Dot × Key)). nearer n l) e)

  module _ (d : Dot) (k : Key) (e : best ≡ Some (d, k)) where
    pub now_nearer : dot_before l.dot d ≡ true → Some (l.dot, l.key) ≡ nearer best l
    now_nearer t = sym (ap (λ (n : Option (Dot × Key)). nearer n l) e ∙ ap (λ (c : Bool). if c then Some (l.dot, l.key) else Some (d, k)) t)

    pub still_nearer : dot_before l.dot d ≡ false → Some (d, k) ≡ nearer best l
    still_nearer t = sym (ap (λ (n : Option (Dot × Key)). nearer n l) e ∙ ap (λ (c : Bool). if c then Some (l.dot, l.key) else Some (d, k)) t)

module _ (s : State) (k : Key) (last : Dot) (best : Option (Dot × Key)) (d : Dot) where
  abbrev it : Listed
  it = record { dot = d; key = k }

  pub not_new : arrives_new s k d ≡ false → best ≡ with_new s k last best d
  unfolding with_new
  not_new h = sym (ap (λ (b : Bool). if b then closer last best it else best) h)

  is_new : arrives_new s k d ≡ true → closer last best (record { dot = d; key = k }) ≡ with_new s k last best d
  unfolding with_new
  is_new h = sym (ap (λ (b : Bool). if b then closer last best it else best) h)

  pub not_behind : dot_before last d ≡ false → best ≡ with_new s k last best d
  unfolding closer
  not_behind h = by_test (arrives_new s k d) (λ t. sym (ap (λ (b : Bool). if b then nearer best it else best) h) ∙ is_new t) not_new

  pub behind_new : dot_before last d ≡ true → arrives_new s k d ≡ true → nearer best (record { dot = d; key = k }) ≡ with_new s k last best d
  unfolding closer
  behind_new h t = sym (ap (λ (b : Bool). if b then nearer best it else best) h) ∙ is_new t

-- ---- the choice among many

abbrev pub after : Dot → Listed → Bool
after last l = dot_before last l.dot

abbrev pub first : List Listed → Option (Dot × Key)
first [] = None
first (x ∷ xs) = Some (x.dot, x.key)

-- the nearer of two, each of which may be none
abbrev pub join : Option (Dot × Key) → Option (Dot × Key) → Option (Dot × Key)
join best None = best
join best (Some (d, k)) = nearer best (record { dot = d; key = k })

pub join_none : (n : Option (Dot × Key)) → join None n ≡ n
join_none None = refl
join_none (Some (d, k)) = refl

-- x comes before all that y comes before, where y does not come before x
below : (x y z : Listed) → listed_before y x ≡ false → listed_before y z ≡ true → listed_before x z ≡ true
below x y z h t =
    by_test (listed_before x y) (λ u. listed_order.through x y z u t) (λ u. listed_order.tied_left x y z (u, h) ∙ t)

join_near : (best : Option (Dot × Key)) (x y : Listed) → nearer (nearer best x) y ≡ join best (nearer (Some (x.dot, x.key)) y)
join_near None x y = sym (join_none (nearer (Some (x.dot, x.key)) y))
join_near (Some (d, k)) x y =
    let z : Listed = record { dot = d; key = k } in
    by_test (listed_before x z)
    (λ p. by_test (listed_before y x)
    (λ q. let r = listed_order.through y x z q p in rw (p, q, r))
    (λ q. rw (p, q, p)))
    (λ p. by_test (listed_before y x)
    (λ q. rw (p, q))
    (λ q. let r : listed_before y z ≡ false = by_test (listed_before y z) (λ t. never (below x y z q t) p) (λ t. t) in rw (p, q, p, r)))

-- the choice with one more first is the choice of it with the others
join_closer : (last : Dot) (best : Option (Dot × Key)) (x : Listed) (n : Option (Dot × Key)) → join (closer last best x) n ≡ join best (join (first (cons_if (after last x) x [])) n)
unfolding closer
join_closer last best x n = by_test (after last x) (λ t. rw t (behind n)) (λ t. rw t (ap (join best) (sym (join_none n))))
  where
    behind : (m : Option (Dot × Key)) → join (nearer best x) m ≡ join best (join (Some (x.dot, x.key)) m)
    behind None = refl
    behind (Some (d, k)) = join_near best x (record { dot = d; key = k })

-- those of a list that do not come before x leave it as it is
none_nearer : (f : Listed → Bool) (x : Listed) (zs : List Listed) → ((z : Listed) → z ∈ zs → listed_before z x ≡ false) → join (Some (x.dot, x.key)) (first (keep f zs)) ≡ Some (x.dot, x.key)
none_nearer f x [] h = refl
none_nearer f x (z ∷ zs) h =
    by_test (f z) (λ t. rw (t, h z (here refl))) (λ t. rw t (none_nearer f x zs (λ y m. h y (there m))))

pub not_before : (x y : Listed) → listed_before x y ≡ true → listed_before y x ≡ false
not_before x y t = by_test (listed_before y x) (λ u. never (listed_order.through x y x t u) (listed_order.itself x)) (λ u. u)

-- the first behind the last one, with x at its place
first_placed : (last : Dot) (x : Listed) (ys : List Listed) → Ascends listed_before ys
    → first (keep (after last) (place listed_before x ys)) ≡ join (first (cons_if (after last x) x [])) (first (keep (after last) ys))
first_placed last x [] up = refl
first_placed last x (y ∷ ys) up =
    let rest = first_placed last x ys (ascends_rest listed_before y ys up) in
    by_test (listed_before y x) (before rest) (λ p. by_test (listed_before x y) (in_front p) (λ q. instead p q))
  where
    Goal : Type 0
    Goal = first (keep (after last) (place listed_before x (y ∷ ys))) ≡ join (first (cons_if (after last x) x [])) (first (keep (after last) (y ∷ ys)))

    later : (z : Listed) → z ∈ ys → listed_before y z ≡ true
    later z m = ascends_first listed_before y ys up m

    before : first (keep (after last) (place listed_before x ys)) ≡ join (first (cons_if (after last x) x [])) (first (keep (after last) ys)) → listed_before y x ≡ true → Goal
    before rest p =
        by_test (after last y)
        (λ t. let u : after last x ≡ true = listed_order.through (record { dot = last; key = y.key }) y x t p in rw (p, t, u, p))
        (λ t. rw (p, t, rest))

    in_front : listed_before y x ≡ false → listed_before x y ≡ true → Goal
    in_front p q =
        by_test (after last x)
        (λ t. rw (p, q, t) (sym (none_nearer (after last) x (y ∷ ys) (λ z m. ⊎_elim (λ e. ap (λ (w : Listed). listed_before w x) e ∙ p) (λ k. not_before x z (listed_order.through x y z q (later z k))) (Memᴰ.cases_cons m)))))
        (λ t. rw (p, q, t) (sym (join_none (first (keep (after last) (y ∷ ys))))))

    instead : listed_before y x ≡ false → listed_before x y ≡ false → Goal
    instead p q =
        by_test (after last x)
        (λ t. rw (p, q, t) (sym (none_nearer (after last) x (y ∷ ys) (λ z m. ⊎_elim (λ e. ap (λ (w : Listed). listed_before w x) e ∙ p) (λ k. not_before x z (listed_order.tied_left x y z (q, p) ∙ later z k)) (Memᴰ.cases_cons m)))))
        (λ t. let u : after last y ≡ false = sym (listed_order.tied_right x y (record { dot = last; key = y.key }) (q, p)) ∙ t in rw (p, q, t, u) (sym (join_none (first (keep (after last) ys)))))

-- what is chosen of a list is the first behind the last one of the list in order
pub chosen : (last : Dot) (best : Option (Dot × Key)) (xs : List Listed) → nearest last best xs ≡ join best (first (keep (after last) (place_all listed_before xs [])))
unfolding nearest
chosen last best [] = refl
chosen last best (x ∷ xs) =
    chosen last (closer last best x) xs
    ∙ join_closer last best x (first (keep (after last) (place_all listed_before xs [])))
    ∙ ap (join best) (sym (first_placed last x (place_all listed_before xs []) (place_all_ascends listed_before listed_order xs [] refl)))
