-- The two passes of a repair over the reply's points: first those that need no new place, then those that come. Assumes nothing.
use Prim.Native.Nat.{ℕ, ◌/◌, ◌≤◌, ◌<◌}
use mathlib.Core.Path.{◌≡◌, refl, ap, sym, ◌∙◌, subst}
use mathlib.Core.Bool.{Bool, true, false, not}
use mathlib.Core.List.{List, [], ◌∷◌, ◌++◌}
use lib.ListN.{length, get_or, take}
use lib.Seq.{get_or-take, take-take}
use lib.Dec.{eqb}
use Rattle.numbers.specs.declared.Key.{Key}
use Rattle.numbers.specs.Words.{map, keep, fold, ascends?}
use Rattle.numbers.specs.Key.{same_key, key_before}
use Rattle.numbers.proofs.Tests.{by_test, never, ◌∈◌, here, there}
use Rattle.numbers.proofs.Lists.{Tied, in_keep, map_in}
use Rattle.numbers.proofs.Dots.{same_keys, key_order}
use Rattle.numbers.proofs.Orders.{ascends_first, ascends_rest, ascends_cons, one_place, map_ascends}
use Rattle.block.specs.Fields.{upto}
use Rattle.block.specs.Block.{block_at}
use Rattle.block.proofs.Arrays.{upto_at, upto_in, map_upto}
use Rattle.meaning.specs.Clock.{Clock}
use Rattle.meaning.specs.Object.{Object, merge}
use Rattle.meaning.specs.State.{Stored, Listed, stored_before, State, local}
use Rattle.meaning.specs.Message.{most_versions}
use Rattle.meaning.specs.Settle.{most_points, put}
use borrow.Author.Tests.{not-true}
use native.Mathlib.Nat.{le_trans}
use Rattle.laws.proofs.Goodness.{Good}
use Rattle.layout.specs.PointBlock.{form_1, decode_stored}
use Rattle.image_edits.specs.Edits.{with_points, with_list}
use Rattle.arriving.specs.Sent.{points_in}
use Rattle.weighing.specs.Weighed.{takable, key_in, Takable}
use Rattle.joining.specs.Joined.{Mergeable}
use Rattle.joining.proofs.May.{may_merge}
use Rattle.placing.specs.Placed.{comes}
use Rattle.placing.proofs.Order.{NoneOf, others_local, two_passes}
use Rattle.placing.proofs.Count.{first_pass_room, second_pass_room}
use Rattle.laws.proofs.Putting.{put_all_ascends}
use Rattle.mending.specs.Mended.{filled, mend, results, Joinable, AllJoinable, marked, RoomFor}
use Rattle.mending.proofs.OfPoint.{theirs_filled, result_mended}
use Rattle.mending.proofs.Marked.{marked_no, marked_prefix}
use Rattle.tallying.specs.Tallied.{mark, Ready, AllReady}
use Rattle.tallying.proofs.Tally.{result_at, results_are}

-- what is ready and has few versions in the end can be merged
pub joinable : (s : State) → Good s → (k : Clock) (b : List ℕ) → Ready s k b → length (mend s k (decode_stored form_1 b)).object.versions ≤ most_versions → Joinable s k b
joinable s G k b R few at to n a m t = may_merge s G b at to T (subst (λ (r : Stored). length r.object.versions ≤ most_versions) (sym (result_mended s k b to t)) few)
  where
    T : Takable s b at to
    T = (R.0, R.1, n, a, m, subst (λ (o : Object). takable s (key_in b) o ≡ true) (sym (theirs_filled s k b to t)) R.2)

-- and so in a state that has the same of its point
pub joinable_there : (s z : State) (k : Clock) (b : List ℕ) → z.table ≡ s.table → local z (key_in b) ≡ local s (key_in b) → Joinable s k b → Joinable z k b
joinable_there s z k b et e j at to n a m t =
    subst (λ (o : Object). Mergeable o.versions b at to) (sym e)
    (j at to n (a ∙ ap (λ (o : Object). o.context) e) m (t ∙ ap (λ (x : _). (Rattle.meaning.specs.Object.fill x (decode_stored form_1 b).key.job k (decode_stored form_1 b).object).context) et))

-- ---- marks and tests

yes_mark : (b : Bool) → eqb (mark b) 1 ≡ true → b ≡ true
yes_mark true t = refl
yes_mark false t = t

marked_kept : (f : Stored → Bool) (g h : Stored → Stored) (ps : List Stored) → ((p : Stored) → p ∈ ps → f (g p) ≡ true → h p ≡ g p) → marked 1 (map (λ r. mark (f r)) (map g ps)) (map h ps) ≡ keep f (map g ps)
unfolding marked
marked_kept f g h [] same = refl
marked_kept f g h (p ∷ ps) same =
    by_test (f (g p))
    (λ t. rw t (ap (λ (x : Stored). x ∷ marked 1 (map (λ r. mark (f r)) (map g ps)) (map h ps)) (same p (here refl) t) ∙ ap (λ (rs : List Stored). g p ∷ rs) (marked_kept f g h ps (λ x m. same x (there m)))))
    (λ t. rw t (marked_kept f g h ps (λ x m. same x (there m))))

-- two things of one point stand at one place
tied_of : (a b : Stored) → same_key a.key b.key ≡ true → Tied stored_before a b
tied_of a b t =
    let e = same_keys a.key b.key t in
    (subst (λ (x : Key). key_before a.key x ≡ false) e (key_order.itself a.key), subst (λ (x : Key). key_before x a.key ≡ false) e (key_order.itself a.key))

keys_ascend : (g : Stored → Stored) → ((p : Stored) → (g p).key ≡ p.key) → (ps : List Stored) → ascends? stored_before (map g ps) ≡ true → ascends? stored_before ps ≡ true
keys_ascend g same [] t = refl
keys_ascend g same (p ∷ ps) t =
    ascends_cons stored_before p ps
    (λ q m. subst (λ (x : Key). key_before p.key x ≡ true) (same q) (subst (λ (x : Key). key_before x (g q).key ≡ true) (same p) (ascends_first stored_before (g p) (map g ps) t (map_in g ps m))))
    (keys_ascend g same ps (ascends_rest stored_before (g p) (map g ps) t))

-- ---- the passes

module _ (s : State) (G : Good s) (k c : Clock) (run ms : List ℕ) (R : AllReady s k run) (up : ascends? stored_before s.points ≡ true) (order : ascends? stored_before (results s k run) ≡ true)
    (enough : length run / 512 ≤ length ms) (marks : take (length run / 512) ms ≡ map (λ r. mark (comes c s.points r)) (results s k run))
    (few : (r : Stored) → r ∈ results s k run → length r.object.versions ≤ most_versions) (total : length (fold (put c) s.points (results s k run)) ≤ most_points)
    (ls : List Listed) where
  abbrev n : ℕ
  n = length run / 512

  abbrev rs : List Stored
  rs = results s k run

  abbrev f : Stored → Bool
  f = comes c s.points

  abbrev point : ℕ → Stored
  point i = decode_stored form_1 (block_at run i)

  -- the lists say nothing of a point
  abbrev s₁ : State
  s₁ = with_list s 2 ls

  same_results : results s₁ k run ≡ results s k run
  unfolding local
  same_results = refl

  point_in : (i : ℕ) → i < length run / 512 → point i ∈ points_in run
  point_in i l = upto_in n point i l

  result_in : (i : ℕ) → i < length run / 512 → mend s k (point i) ∈ rs
  result_in i l = map_in (mend s k) (points_in run) (point_in i l)

  can : (i : ℕ) → i < length run / 512 → Joinable s k (block_at run i)
  can i l = joinable s G k (block_at run i) (R i l) (few (mend s k (point i)) (result_in i l))

  pub first_joinable : AllJoinable (with_list s 2 ls) k 0 run ms
  first_joinable i l = ((R i l).0, (R i l).1, λ t. joinable_there s s₁ k (block_at run i) refl (unfold local in refl) (can i l))

  kept : marked 0 (take (length run / 512) ms) rs ≡ keep (λ r. not (f r)) rs
  kept = marked_no f (take n ms) rs marks

  pub first_room : RoomFor c (with_list s 2 ls) k 0 run ms
  first_room i l = le_trans fewer G.points_few
    where
      prefix : (ys : List Stored) × (marked 0 (take (length run / 512) ms) rs ≡ marked 0 (take i (take (length run / 512) ms)) rs ++ ys)
      prefix = marked_prefix 0 i (take n ms) rs

      at : marked 0 (take i (take (length run / 512) ms)) rs ≡ marked 0 (take i ms) rs
      at = ap (λ (xs : List ℕ). marked 0 xs rs) (take-take i n ms l)

      fewer : length (fold (put c) s₁.points (marked 0 (take i ms) (results s₁ k run))) ≤ length s.points
      fewer =
          subst (λ (xs : List Stored). length (fold (put c) s.points (marked 0 (take i ms) xs)) ≤ length s.points) (sym same_results)
          (subst (λ (xs : List Stored). length (fold (put c) s.points xs) ≤ length s.points) at
          (first_pass_room c s.points rs up order (marked 0 (take i (take n ms)) rs) prefix.0 (sym kept ∙ prefix.1)))

  pub first_order : ascends? stored_before (results (with_list s 2 ls) k run) ≡ true
  first_order = subst (λ (xs : List Stored). ascends? stored_before xs ≡ true) (sym same_results) order

  -- what the first pass leaves
  abbrev s₂ : State
  s₂ = with_points s₁ (fold (put c) s.points (keep (λ r. not (f r)) rs))

  pub after_first : (z : State) → z ≡ with_points (with_list s 2 ls) (fold (put c) (with_list s 2 ls).points (marked 0 (take (length run / 512) ms) (results (with_list s 2 ls) k run))) → z ≡ with_points (with_list s 2 ls) (fold (put c) s.points (keep (λ r. not (comes c s.points r)) (results s k run)))
  after_first z e = e ∙ ap (λ (xs : List Stored). with_points s₁ (fold (put c) s.points (marked 0 (take n ms) xs))) same_results ∙ ap (λ (xs : List Stored). with_points s₁ (fold (put c) s.points xs)) kept

  -- one that comes is another point than all of the first pass
  apart : (p : Stored) → p ∈ points_in run → f (mend s k p) ≡ true → NoneOf p.key (keep (λ r. not (f r)) rs)
  apart p m told r h =
      by_test (same_key p.key r.key)
      (λ t. never told (subst (λ (x : Stored). f x ≡ false) (sym (one_of_key (mend s k p) r (map_in (mend s k) (points_in run) m) (in_keep (λ x. not (f x)) rs h).0 t)) (not-true (f r) (in_keep (λ x. not (f x)) rs h).1)))
      (λ t. t)
    where
      one_of_key : (a b : Stored) → a ∈ rs → b ∈ rs → same_key a.key b.key ≡ true → a ≡ b
      one_of_key a b ma mb t = one_place stored_before rs order ma mb (tied_of a b t)

  local_second : (p : Stored) → p ∈ points_in run → f (mend s k p) ≡ true → local s₂ p.key ≡ local s p.key
  local_second p m told = others_local c s₁ (keep (λ r. not (f r)) rs) p.key (apart p m told) ∙ (unfold local in refl)

  comes_then : (i : ℕ) → i < length run / 512 → eqb (get_or ms i 0) 1 ≡ true → f (mend s k (point i)) ≡ true
  comes_then i l t = yes_mark (f (mend s k (point i))) (subst (λ (x : ℕ). eqb x 1 ≡ true) mark_at t)
    where
      marks_of : map (λ r. mark (f r)) rs ≡ upto n (λ j. mark (f (mend s k (point j))))
      marks_of = ap (map (λ r. mark (f r))) (results_are s k run) ∙ map_upto (λ r. mark (f r)) n (result_at s k run)

      mark_at : get_or ms i 0 ≡ mark (f (mend s k (point i)))
      mark_at = sym (get_or-take n ms i 0 l) ∙ ap (λ (xs : List ℕ). get_or xs i 0) (marks ∙ marks_of) ∙ upto_at n (λ j. mark (f (mend s k (point j)))) 0 i l

  module _ (z : State) (is : z ≡ with_points (with_list s 2 ls) (fold (put c) s.points (keep (λ r. not (comes c s.points r)) (results s k run)))) where
    pub second_ascends : ascends? stored_before z.points ≡ true
    second_ascends = subst (λ (x : State). ascends? stored_before x.points ≡ true) (sym is) (put_all_ascends c s.points (keep (λ r. not (f r)) rs) up)

    pub second_joinable : AllJoinable z k 1 run ms
    unfolding decode_stored
    second_joinable = subst (λ (x : State). AllJoinable x k 1 run ms) (sym is) each
      where
        each : AllJoinable s₂ k 1 run ms
        each i l = ((R i l).0, (R i l).1, λ t. joinable_there s s₂ k (block_at run i) refl (local_second (point i) (point_in i l) (comes_then i l t)) (can i l))

    pub second_order : ascends? stored_before (results z k run) ≡ true
    second_order = map_ascends stored_before stored_before (mend z k) (λ x y t. t) (points_in run) (map_ascends_back order)
      where
        map_ascends_back : ascends? stored_before (results s k run) ≡ true → ascends? stored_before (points_in run) ≡ true
        map_ascends_back = keys_ascend (mend s k) (λ p. refl) (points_in run)

    -- those that come are merged as if nothing had been before
    taken : marked 1 (take (length run / 512) ms) (results s₂ k run) ≡ keep f rs
    taken = ap (λ (xs : List ℕ). marked 1 xs (results s₂ k run)) marks ∙ marked_kept f (mend s k) (mend s₂ k) (points_in run) same
      where
        same : (p : Stored) → p ∈ points_in run → f (mend s k p) ≡ true → mend s₂ k p ≡ mend s k p
        same p m told = ap (λ (o : Object). record { key = p.key; object = merge o (filled s k p) }) (local_second p m told)

    pub second_room : RoomFor c z k 1 run ms
    second_room = subst (λ (x : State). RoomFor c x k 1 run ms) (sym is) room
      where
        room : RoomFor c s₂ k 1 run ms
        room i l = le_trans fewer total
          where
            prefix : (ys : List Stored) × (marked 1 (take (length run / 512) ms) (results s₂ k run) ≡ marked 1 (take i (take (length run / 512) ms)) (results s₂ k run) ++ ys)
            prefix = marked_prefix 1 i (take n ms) (results s₂ k run)

            at : marked 1 (take i (take (length run / 512) ms)) (results s₂ k run) ≡ marked 1 (take i ms) (results s₂ k run)
            at = ap (λ (xs : List ℕ). marked 1 xs (results s₂ k run)) (take-take i n ms l)

            fewer : length (fold (put c) s₂.points (marked 1 (take i ms) (results s₂ k run))) ≤ length (fold (put c) s.points rs)
            fewer =
                subst (λ (xs : List Stored). length (fold (put c) s₂.points xs) ≤ length (fold (put c) s.points rs)) at
                (second_pass_room c s.points rs up order (marked 1 (take i (take n ms)) (results s₂ k run)) prefix.0 (sym taken ∙ prefix.1))

    pub after_second : (y : State) → y ≡ with_points z (fold (put c) z.points (marked 1 (take (length run / 512) ms) (results z k run))) → y ≡ with_points (with_list s 2 ls) (fold (put c) s.points (results s k run))
    after_second y e =
        e ∙ ap (λ (x : State). with_points x (fold (put c) x.points (marked 1 (take n ms) (results x k run)))) is
        ∙ ap (λ (xs : List Stored). with_points s₁ (fold (put c) s₂.points xs)) taken
        ∙ ap (with_points s₁) (sym (two_passes c f s.points rs up order))
