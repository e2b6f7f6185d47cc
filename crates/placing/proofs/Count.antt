-- How many records the results of a step leave, one after the other and in two passes. Assumes nothing.
use Prim.Native.Nat.{ℕ, ◌+◌, ◌≤◌}
use mathlib.Core.Path.{◌≡◌, refl, sym, ap, ◌∙◌, subst}
use mathlib.Core.Bool.{Bool, true, false, not}
use mathlib.Core.List.{List, [], ◌∷◌, ◌++◌}
use native.Mathlib.Omega.{arith}
use lib.ListN.{length, length-append}
use lib.Seq.{take-append_seam}
use Rattle.numbers.specs.declared.Key.{Key}
use Rattle.numbers.specs.Words.{keep, all?, ascends?, place, fold}
use Rattle.numbers.specs.Key.{same_key, key_before}
use Rattle.numbers.proofs.Tests.{by_test, never, and_left, not-true, ◌∈◌}
use Rattle.numbers.proofs.Lists.{in_left, in_keep, in_all, keep_none, keep_same}
use Rattle.numbers.proofs.Orders.{Ascends, ascends_first, ascends_rest, keep_ascends, take_ascends, one_place}
use Rattle.numbers.proofs.Dots.{key_order, same_keys, key_itself, keys_tied, tied_keys, other_way, before_other}
use Rattle.block.proofs.Placed.{keep_all}
use Rattle.meaning.specs.Clock.{Clock}
use Rattle.meaning.specs.Object.{strip, gone}
use Rattle.meaning.specs.State.{Stored, stored_before}
use Rattle.meaning.specs.Settle.{without, stripped, put}
use Rattle.laws.proofs.Putting.{put_all_ascends}
use Rattle.image.proofs.Placing.{without_before}
use Rattle.store.specs.HasRecord.{has_record}
use Rattle.placing.specs.Placed.{comes, goes_away}
use Rattle.placing.proofs.Order.{NoneOf, first_apart, put_ascends, other_recorded, others_recorded, two_passes}

-- 1 where the test passes
abbrev once : Bool → ℕ
once true = 1
once false = 0

-- ---- lists

keep_count : {A : Type 0} (f : A → Bool) (x : A) (xs : List A) → length (keep f (x ∷ xs)) ≡ once (f x) + length (keep f xs)
keep_count f x xs = by_test (f x) (λ t. rw t (omega arith)) (λ t. rw t (omega arith))

front_ascends : (xs ys : List Stored) → Ascends stored_before (xs ++ ys) → Ascends stored_before xs
front_ascends xs ys t = subst (Ascends stored_before) (take-append_seam xs ys) (take_ascends stored_before (length xs) (xs ++ ys) t)

-- ---- one result

-- those after a key are not its record
none_after : (k : Key) (ps : List Stored) → all? (λ p. key_before k p.key) ps ≡ true → without k ps ≡ ps
none_after k ps t = without_before k ps 0 (omega arith, refl, t)

-- a list without a point's record has one less, where there was one
without_count : (k : Key) (ps : List Stored) → ascends? stored_before ps ≡ true → length (without k ps) + once (has_record k ps) ≡ length ps
unfolding without has_record
without_count k [] up = refl
without_count k (p ∷ ps) up =
    let rest = without_count k ps (ascends_rest stored_before p ps up) in
    by_test (same_key k p.key) (λ t. rw t (omega (arith, ap length (others t)))) (λ t. rw t (omega (arith, rest)))
  where
    others : same_key k p.key ≡ true → without k ps ≡ ps
    others t =
        none_after k ps
        (subst (λ (x : Key). all? (λ q. key_before x q.key) ps ≡ true) (sym (same_keys k p.key t)) (and_left (all? (stored_before p) ps) (ascends? stored_before ps) up))

-- a record at its place is one more than the list without it
place_count : (x : Stored) (ps : List Stored) → ascends? stored_before ps ≡ true → length (place stored_before x ps) ≡ length (without x.key ps) + 1
unfolding without
place_count x [] up = refl
place_count x (p ∷ ps) up =
    let rest = place_count x ps (ascends_rest stored_before p ps up) in
    by_test (stored_before p x) (λ t. rw (t, other_way p.key x.key (before_other p.key x.key t)) (omega (arith, rest)))
    (λ t. by_test (stored_before x p) (λ u. rw (t, u, before_other x.key p.key u) (omega (arith, ap length (after u))))
    (λ u. rw (t, u, ap (same_key x.key) (sym (is (u, t))) ∙ key_itself x.key) (omega (arith, ap length (instead (u, t))))))
  where
    next : all? (stored_before p) ps ≡ true
    next = and_left (all? (stored_before p) ps) (ascends? stored_before ps) up

    is : (key_before x.key p.key ≡ false) × (key_before p.key x.key ≡ false) → x.key ≡ p.key
    is t = tied_keys x.key p.key t

    instead : (key_before x.key p.key ≡ false) × (key_before p.key x.key ≡ false) → without x.key ps ≡ ps
    instead t = none_after x.key ps (subst (λ (z : Key). all? (λ q. key_before z q.key) ps ≡ true) (sym (is t)) next)

    after : key_before x.key p.key ≡ true → without x.key ps ≡ ps
    after u = none_after x.key ps (in_all (λ q. key_before x.key q.key) ps (λ q m. key_order.through x.key p.key q.key u (ascends_first stored_before p ps up m)))

module _ (c : Clock) where
  module _ (ps : List Stored) (r : Stored) (up : ascends? stored_before ps ≡ true) where
    put_count : length (put c ps r) + once (goes_away c ps r) ≡ length ps + once (comes c ps r)
    unfolding put comes goes_away
    put_count =
        let w = without_count r.key ps up in
        let l = place_count (stripped c r) ps up in
        by_test (gone (strip c r.object))
        (λ g. by_test (has_record r.key ps) (λ h. rw (g, h) (omega (arith, w, ap once h))) (λ h. rw (g, h) (omega (arith, w, ap once h))))
        (λ g. by_test (has_record r.key ps) (λ h. rw (g, h) (omega (arith, w, l, ap once h))) (λ h. rw (g, h) (omega (arith, w, l, ap once h))))

    -- one that comes has no record that could go
    come_not_gone : comes c ps r ≡ true → goes_away c ps r ≡ false
    unfolding comes goes_away
    come_not_gone t = by_test (has_record r.key ps) (λ h. never t (rw h)) (λ h. rw h)

    gone_not_come : goes_away c ps r ≡ true → comes c ps r ≡ false
    gone_not_come t = by_test (comes c ps r) (λ u. never t (come_not_gone u)) (λ u. u)

    -- one record more where the result comes, one less where it goes away, and else as many as there were
    pub put_comes : comes c ps r ≡ true → length (put c ps r) ≡ length ps + 1
    put_comes t = omega (arith, put_count, ap once t, ap once (come_not_gone t))

    pub put_goes : goes_away c ps r ≡ true → 1 + length (put c ps r) ≡ length ps
    put_goes t = omega (arith, put_count, ap once t, ap once (gone_not_come t))

    pub put_keeps : comes c ps r ≡ false → goes_away c ps r ≡ false → length (put c ps r) ≡ length ps
    put_keeps t u = omega (arith, put_count, ap once t, ap once u)

  -- ---- all results

  module _ (ps qs : List Stored) (r : Stored) (e : has_record r.key ps ≡ has_record r.key qs) where
    comes_still : comes c ps r ≡ comes c qs r
    unfolding comes
    comes_still = rw e

    goes_still : goes_away c ps r ≡ goes_away c qs r
    unfolding goes_away
    goes_still = rw e

  -- each comes or goes away as it would have without the others
  pub all_count : (ps rs : List Stored) → ascends? stored_before ps ≡ true → ascends? stored_before rs ≡ true
      → length (fold (put c) ps rs) + length (keep (goes_away c ps) rs) ≡ length ps + length (keep (comes c ps) rs)
  all_count ps [] up t = refl
  all_count ps (r ∷ rs) up t =
      omega (
        arith,
        all_count (put c ps r) rs (put_ascends c ps r up) (ascends_rest stored_before r rs t),
        ap length (keep_same (goes_away c (put c ps r)) (goes_away c ps) rs (λ q m. goes_still (put c ps r) ps q (recorded q m))),
        ap length (keep_same (comes c (put c ps r)) (comes c ps) rs (λ q m. comes_still (put c ps r) ps q (recorded q m))),
        put_count ps r up,
        keep_count (goes_away c ps) r rs,
        keep_count (comes c ps) r rs,
      )
    where
      recorded : (q : Stored) → q ∈ rs → has_record q.key (put c ps r) ≡ has_record q.key ps
      recorded q m = other_recorded c ps r q.key (other_way r.key q.key (first_apart r rs t q m))

  -- where none comes there are no more records than before
  pub none_come : (ps rs : List Stored) → ascends? stored_before ps ≡ true → ascends? stored_before rs ≡ true → ((r : Stored) → r ∈ rs → comes c ps r ≡ false)
      → length (fold (put c) ps rs) ≤ length ps
  none_come ps rs up t h = omega (arith, all_count ps rs up t, ap length (keep_none (comes c ps) rs h))

  -- where all come there is one more for each
  pub all_come : (ps rs : List Stored) → ascends? stored_before ps ≡ true → ascends? stored_before rs ≡ true → ((r : Stored) → r ∈ rs → comes c ps r ≡ true)
      → length (fold (put c) ps rs) ≡ length ps + length rs
  all_come ps rs up t h =
      omega (
        arith,
        all_count ps rs up t,
        ap length (keep_none (goes_away c ps) rs (λ r m. come_not_gone ps r up (h r m))),
        ap length (keep_all (comes c ps) rs (in_all (comes c ps) rs h)),
      )

  -- ---- in two passes: first those that do not come, then those that do

  module _ (ps rs : List Stored) (up : ascends? stored_before ps ≡ true) (t : ascends? stored_before rs ≡ true) where
    abbrev first_pass : List Stored
    first_pass = keep (λ r. not (comes c ps r)) rs

    abbrev second_pass : List Stored
    second_pass = keep (comes c ps) rs

    -- the first pass needs no room
    pub first_pass_room : (xs ys : List Stored) → keep (λ r. not (comes c ps r)) rs ≡ xs ++ ys → length (fold (put c) ps xs) ≤ length ps
    first_pass_room xs ys e = none_come ps xs up (front_ascends xs ys (subst (Ascends stored_before) e (keep_ascends stored_before (λ r. not (comes c ps r)) rs t))) none
      where
        none : (r : Stored) → r ∈ xs → comes c ps r ≡ false
        none r m = not-true (comes c ps r) (in_keep (λ q. not (comes c ps q)) rs (subst (λ (l : List Stored). r ∈ l) (sym e) (in_left xs ys m))).1

    -- no result of the second pass is of a point of the first
    apart : (r : Stored) → r ∈ second_pass → NoneOf r.key first_pass
    apart r m q n =
        by_test (same_key r.key q.key)
        (λ u. never (in_keep (comes c ps) rs m).1
        (subst (λ (z : Stored). comes c ps z ≡ false)
        (sym (one_place stored_before rs t (in_keep (comes c ps) rs m).0 (in_keep (λ z. not (comes c ps z)) rs n).0 (keys_tied r.key q.key (same_keys r.key q.key u))))
        (not-true (comes c ps q) (in_keep (λ z. not (comes c ps z)) rs n).1)))
        (λ u. u)

    -- so those of the second pass come still
    pub come_still : (r : Stored) → r ∈ keep (comes c ps) rs → comes c (fold (put c) ps (keep (λ q. not (comes c ps q)) rs)) r ≡ true
    come_still r m = comes_still (fold (put c) ps first_pass) ps r (others_recorded c ps first_pass r.key (apart r m)) ∙ (in_keep (comes c ps) rs m).1

    -- the second pass needs at each place no more room than the step's result
    pub second_pass_room : (xs ys : List Stored) → keep (comes c ps) rs ≡ xs ++ ys
        → length (fold (put c) (fold (put c) ps (keep (λ r. not (comes c ps r)) rs)) xs) ≤ length (fold (put c) ps rs)
    second_pass_room xs ys e =
        omega (
          arith,
          all_come qs xs qs_up (front_ascends xs ys (subst (Ascends stored_before) e second_up)) (λ r m. come_still r (subst (λ (l : List Stored). r ∈ l) (sym e) (in_left xs ys m))),
          all_come qs second_pass qs_up second_up come_still,
          ap length (two_passes c (comes c ps) ps rs up t),
          ap length e,
          length-append xs ys,
        )
      where
        qs : List Stored
        qs = fold (put c) ps first_pass

        qs_up : ascends? stored_before qs ≡ true
        qs_up = put_all_ascends c ps first_pass up

        second_up : ascends? stored_before second_pass ≡ true
        second_up = keep_ascends stored_before (comes c ps) rs t
