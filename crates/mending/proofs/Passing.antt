-- One pass over the points of a reply: a point that is merged later finds its local object as it was, since the points of a reply are all different.
-- So each result is the one that the state before the pass gives. Assumes nothing.
use Rattle.std.specs.Prelude.{if◌then◌else◌}
use Prim.Native.Nat.{ℕ, zero, suc, ◌+◌, ◌/◌, ◌≤◌, ◌<◌}
use mathlib.Core.Path.{◌≡◌, refl, ap, sym, ◌∙◌, subst}
use mathlib.Core.Bool.{Bool, true, false}
use mathlib.Core.List.{List, [], ◌∷◌, ◌++◌}
use native.Mathlib.Nat.{le_of_suc-le-suc}
use native.Mathlib.Omega.{arith}
use lib.ListN.{length, take, get_or}
use lib.Dec.{eqb}
use Rattle.numbers.specs.Words.{map, ascends?, fold}
use Rattle.numbers.proofs.Lists.{map_length}
use Rattle.block.specs.Block.{Laid, block_at}
use Rattle.block.proofs.Arrays.{upto_length, upto_at}
use Rattle.meaning.specs.Clock.{Clock}
use Rattle.meaning.specs.Object.{Object, merge}
use Rattle.meaning.specs.State.{Stored, stored_before, State, local}
use Rattle.meaning.specs.Settle.{most_points, put}
use Rattle.laws.proofs.Putting.{put_all_ascends}
use Rattle.layout.specs.PointBlock.{form_1, decode_stored}
use Rattle.record_edits.specs.Written.{lay_point, point_block}
use Rattle.image_edits.specs.Edits.{with_points}
use Rattle.apart.specs.Apart.{point_of}
use Rattle.arriving.specs.Sent.{points_in}
use Rattle.arriving.proofs.Folding.{fold_append}
use Rattle.weighing.specs.Weighed.{key_in}
use Rattle.joining.specs.Joined.{Mergeable}
use Rattle.placing.proofs.Order.{NoneOf, others_local}
use Rattle.mending.specs.Mended.{filled, mend, results, Joinable, AllJoinable, marked, RoomFor}
use Rattle.mending.proofs.Marked.{marked_more, apart_marked}

mapped_at : {A B : Type 0} (f : A → B) (xs : List A) (d : B) (e : A) (i : ℕ) → i < length xs → get_or (map f xs) i d ≡ f (get_or xs i e)
mapped_at f [] d e i l = absurd (omega arith)
mapped_at f (x ∷ xs) d e zero l = refl
mapped_at f (x ∷ xs) d e (suc i) l = mapped_at f xs d e i (le_of_suc-le-suc l)

-- what the first i marks leave of a state
abbrev pub reached : State → Clock → Clock → List ℕ → List ℕ → ℕ → ℕ → State
reached s k c run ms w i = with_points s (fold (put c) s.points (marked w (take i ms) (results s k run)))

pub none_reached : (s : State) (k c : Clock) (run ms : List ℕ) (w : ℕ) → s ≡ reached s k c run ms w 0
unfolding marked
none_reached s k c run ms w = refl

-- a state after the point of a block was merged, where its mark is w
abbrev pub merged_if : State → Clock → Clock → List ℕ → ℕ → ℕ → State
merged_if s k c b m w = if eqb m w then with_points s (put c s.points (mend s k (decode_stored form_1 b))) else s

one_put : (s : State) (c : Clock) (b : Bool) (rs : List Stored) (r : Stored)
    → with_points s (fold (put c) s.points (if b then rs ++ (r ∷ []) else rs)) ≡ (if b then with_points s (put c (fold (put c) s.points rs) r) else with_points s (fold (put c) s.points rs))
one_put s c true rs r = ap (with_points s) (fold_append (put c) s.points rs (r ∷ []))
one_put s c false rs r = refl

module _ (s : State) (k : Clock) (run : List ℕ) where
  pub results_length : length (results s k run) ≡ length run / 512
  results_length = map_length (mend s k) (points_in run) ∙ upto_length (length run / 512) (point_of run)

  pub result_at : (i : ℕ) → i < length run / 512 → (d : Stored) → get_or (results s k run) i d ≡ mend s k (point_of run i)
  result_at i l d =
      mapped_at (mend s k) (points_in run) d (point_of run i) i (omega (arith, upto_length (length run / 512) (point_of run)))
      ∙ ap (mend s k) (upto_at (length run / 512) (point_of run) (point_of run i) i l)

module _ (s : State) (k c : Clock) (run ms : List ℕ) (w i : ℕ) (rising : ascends? stored_before (results s k run) ≡ true) (l : i < length run / 512) where
  own_apart : NoneOf (key_in (block_at run i)) (marked w (take i ms) (results s k run))
  unfolding decode_stored
  own_apart =
      let r = mend s k (point_of run i) in
      subst (λ (q : Stored). NoneOf q.key (marked w (take i ms) (results s k run))) (result_at s k run i l r)
      (apart_marked w i ms (results s k run) r rising (omega (arith, results_length s k run)))

  local_stays : local (reached s k c run ms w i) (key_in (block_at run i)) ≡ local s (key_in (block_at run i))
  local_stays = others_local c s (marked w (take i ms) (results s k run)) (key_in (block_at run i)) own_apart

  joinable_stays : Joinable s k (block_at run i) → Joinable (reached s k c run ms w i) k (block_at run i)
  joinable_stays j here there n h m t =
      subst (λ (o : Object). Mergeable o.versions (block_at run i) here there) (sym local_stays) (j here there n (h ∙ ap (λ (o : Object). o.context) local_stays) m t)

  mend_stays : mend (reached s k c run ms w i) k (point_of run i) ≡ mend s k (point_of run i)
  unfolding decode_stored
  mend_stays = ap (λ (o : Object). record { key = key_in (block_at run i); object = merge o (filled s k (point_of run i)) }) local_stays

  module _ (enough : length run / 512 ≤ length ms) where
    pub reached_more : reached s k c run ms w (i + 1) ≡ merged_if (reached s k c run ms w i) k c (block_at run i) (get_or ms i 0) w
    reached_more =
        let b = eqb (get_or ms i 0) w in
        let rs = marked w (take i ms) (results s k run) in
        let r = mend s k (point_of run i) in
        let q = mend (reached s k c run ms w i) k (point_of run i) in
        let same : get_or (results s k run) i r ≡ q = result_at s k run i l r ∙ sym mend_stays in
        ap (λ (z : List Stored). with_points s (fold (put c) s.points z)) (marked_more w i ms (results s k run) r (omega arith) (omega (arith, results_length s k run)))
        ∙ one_put s c b rs (get_or (results s k run) i r)
        ∙ ap (λ (z : Stored). if b then with_points s (put c (fold (put c) s.points rs) z) else reached s k c run ms w i) same

    -- the state as the code has it, and the block as it is lent
    module _ (z : State) (b : List ℕ) (at : z ≡ reached s k c run ms w i) (lent : b ≡ block_at run i) where
      pub passed_on : (y : State) → y ≡ merged_if z k c b (get_or ms i 0) w → y ≡ reached s k c run ms w (i + 1)
      passed_on y e =
          e ∙ ap (λ (x : State). merged_if x k c b (get_or ms i 0) w) at ∙ ap (λ (x : List ℕ). merged_if (reached s k c run ms w i) k c x (get_or ms i 0) w) lent
          ∙ sym reached_more

      pub still_ascends : ascends? stored_before s.points ≡ true → ascends? stored_before z.points ≡ true
      still_ascends up = subst (λ (x : State). ascends? stored_before x.points ≡ true) (sym at) (put_all_ascends c s.points (marked w (take i ms) (results s k run)) up)

      pub still_joinable : AllJoinable s k w run ms → (length b ≡ 512) × Laid lay_point point_block b × (eqb (get_or ms i 0) w ≡ true → Joinable z k b)
      still_joinable can =
          let j = can i l in
          subst (λ (x : List ℕ). (length x ≡ 512) × Laid lay_point point_block x × (eqb (get_or ms i 0) w ≡ true → Joinable z k x)) (sym lent)
          (j.0, j.1, λ t. subst (λ (x : State). Joinable x k (block_at run i)) (sym at) (joinable_stays (j.2 t)))

      pub still_room : RoomFor c s k w run ms → eqb (get_or ms i 0) w ≡ true → length (put c z.points (mend z k (decode_stored form_1 b))) ≤ most_points
      still_room room t =
          let e : reached s k c run ms w (i + 1) ≡ with_points z (put c z.points (mend z k (decode_stored form_1 b))) =
          sym (passed_on (merged_if z k c b (get_or ms i 0) w) refl) ∙ ap (λ (x : Bool). if x then with_points z (put c z.points (mend z k (decode_stored form_1 b))) else z) t in
          subst (λ (x : State). length x.points ≤ most_points) e (room (i + 1) (omega arith))

      -- with the mark as it is lent too
      module _ (m : ℕ) (own : m ≡ get_or ms i 0) where
        pub may_merge : ascends? stored_before s.points ≡ true → AllJoinable s k w run ms → RoomFor c s k w run ms
            → (ascends? stored_before z.points ≡ true) × (length b ≡ 512) × Laid lay_point point_block b × (eqb m w ≡ true → Joinable z k b)
            × (eqb m w ≡ true → length (put c z.points (mend z k (decode_stored form_1 b))) ≤ most_points)
        may_merge up can room =
            let j = still_joinable can in
            let chosen = λ (t : eqb m w ≡ true). ap (λ (x : ℕ). eqb x w) (sym own) ∙ t in
            (still_ascends up, j.0, j.1, (λ t. j.2 (chosen t)), λ t. still_room room (chosen t))

        pub merged : (y : State) → y ≡ merged_if z k c b m w → y ≡ reached s k c run ms w (i + 1)
        merged y e = passed_on y (e ∙ ap (λ (x : ℕ). merged_if z k c b x w) own)
