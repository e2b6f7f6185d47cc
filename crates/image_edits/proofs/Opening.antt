-- A point's place opened, block by block. Assumes nothing.
use Prim.Native.Nat.{ℕ, ◌+◌, ◌*◌, ◌-◌, ◌^◌, ◌≤◌, ◌<◌}
use mathlib.Core.Path.{◌≡◌, refl, ap, sym, ◌∙◌, subst}
use mathlib.Core.List.Memᴰ
use mathlib.Core.List.{List, [], ◌∷◌, ◌++◌}
use native.Mathlib.Omega.{arith}
use lib.ListN.{length, take, drop, get_or, length-append, length-take, length-drop}
use lib.Dec.{ltb, eqb}
use borrow.Author.Tests.{ltb-true, ltb-false, eqb-true, eqb-false}
use Rattle.numbers.specs.declared.Key.{Key}
use Rattle.numbers.specs.Numbers.{controller}
use Rattle.numbers.proofs.Tests.{by_test}
use Rattle.block.specs.Fields.{cut, splice, insert_at, zeros}
use Rattle.block.specs.Block.{block_at, Laid}
use Rattle.block.proofs.Parts.{part_back}
use Rattle.block.proofs.Arrays.{get_or_in, all_of_splice, only}
use Rattle.block.proofs.Places.{place_below, place_here, place_above}
use Rattle.meaning.specs.Object.{no_object}
use Rattle.meaning.specs.State.{Stored, State}
use Rattle.meaning.specs.Settle.{most_points}
use Rattle.layout.specs.PointBlock.{form_1, encode_point, encode_stored, decode_stored}
use Rattle.layout.specs.Image.{image_length, head_of, encode_head, encode_dots, decode}
use Rattle.layout.proofs.ImageBack.{StoredSized, stored_length, Sized}
use Rattle.record_edits.specs.Written.{lay_point, point_block}
use Rattle.image.specs.Places.{no_point}
use Rattle.image_edits.specs.Edits.{Canonical, with_points}
use Rattle.image_edits.proofs.Blocks.{Blocks, says}
use Rattle.image_edits.proofs.Moved.{Put, put, part_laid, part_size, renumbered_put}

-- those behind the j-th stand one block further up
pub record Opening (s : State) (i j : ℕ) (img : List ℕ) : Type 0 where
  pub size : length img ≡ image_length
  pub low : i ≤ j
  pub high : j ≤ length s.points
  pub head : block_at img 0 ≡ encode_head (head_of s)
  pub own : block_at img 1 ≡ encode_dots 1 s.own_dots
  pub foreign : block_at img 2 ≡ encode_dots 2 s.foreign_dots
  pub kept : (k : ℕ) → k ≤ j → k < length s.points → block_at img (3 + k) ≡ encode_stored form_1 (3 + k) (get_or s.points k no_point)
  pub moved : (k : ℕ) → j < k → k ≤ length s.points → block_at img (3 + k) ≡ encode_stored form_1 (3 + k) (get_or s.points (k - 1) no_point)
  pub free : (k : ℕ) → length s.points < k → k < most_points → block_at img (3 + k) ≡ zeros 512

module _ (s : State) (S : Sized s) (i : ℕ) where
  abbrev ps : List Stored
  ps = s.points

  pub opening_none : (img : List ℕ) (n : ℕ) → n ≡ length s.points → i ≤ n → Blocks s img → Opening s i n img
  opening_none img n e l B = record {
    size = B.size;
    low = l;
    high = omega arith;
    head = B.head;
    own = B.own;
    foreign = B.foreign;
    kept = λ k h g. B.stored k g;
    moved = λ k h g. absurd (omega arith);
    free = λ k h g. B.free k (omega arith) g;
  }

  point_sized : (k : ℕ) → k < length s.points → StoredSized (get_or s.points k no_point)
  point_sized k l = S.points (get_or ps k no_point) (get_or_in ps k no_point l)

  -- one more block is moved up
  module _ (img x y : List ℕ) (j : ℕ) (O : Opening s i j img) (few : length s.points < most_points) (more : i < j) (m : x ≡ splice img (512 * (3 + j)) 512 (cut img (512 * (3 + j) - 512) 512)) where
    from : 512 * (3 + j) - 512 ≡ 512 * (2 + j)
    from = omega arith

    index : 3 + (j - 1) ≡ 2 + j
    index = omega arith

    below : block_at img (2 + j) ≡ encode_stored form_1 (2 + j) (get_or s.points (j - 1) no_point)
    below = subst (λ (k : ℕ). block_at img k ≡ encode_stored form_1 k (get_or ps (j - 1) no_point)) index (O.kept (j - 1) (omega arith) (omega (arith, O.high)))

    moved_up : x ≡ splice img (512 * (3 + j)) 512 (cut img (512 * (2 + j)) 512)
    moved_up = m ∙ ap (λ (o : ℕ). splice img (512 * (3 + j)) 512 (cut img o 512)) from

    sized : StoredSized (get_or s.points (j - 1) no_point)
    sized = point_sized (j - 1) (omega (arith, O.high))

    pub opening_laid : Laid lay_point point_block (take (512 * (3 + j) + 512 - 512 * (3 + j)) (drop (512 * (3 + j)) x))
    opening_laid = part_laid img x x (2 + j) (3 + j) (get_or ps (j - 1) no_point) sized O.size (omega (arith, O.high)) (omega (arith, O.high)) below moved_up

    pub opening_size : length (take (512 * (3 + j) + 512 - 512 * (3 + j)) (drop (512 * (3 + j)) x)) ≡ 512
    opening_size = part_size img x x (2 + j) (3 + j) (get_or ps (j - 1) no_point) sized O.size (omega (arith, O.high)) (omega (arith, O.high)) below moved_up

    pub opening_more : (b : List ℕ) → b ≡ encode_stored form_1 (3 + j) (decode_stored form_1 (take (512 * (3 + j) + 512 - 512 * (3 + j)) (drop (512 * (3 + j)) x)))
        → y ≡ take (512 * (3 + j)) x ++ (b ++ drop (512 * (3 + j) + 512 - 512 * (3 + j)) (drop (512 * (3 + j)) x)) → Opening s i (j - 1) y
    opening_more b e d = record {
      size = P.size ∙ O.size;
      low = omega arith;
      high = omega (arith, O.high);
      head = P.others 0 (λ q. omega arith) ∙ O.head;
      own = P.others 1 (λ q. omega arith) ∙ O.own;
      foreign = P.others 2 (λ q. omega arith) ∙ O.foreign;
      kept = λ k h g. P.others (3 + k) (λ q. omega arith) ∙ O.kept k (omega arith) g;
      moved = λ k h g.
          by_test (eqb k j)
          (λ t. subst (λ (n : ℕ). block_at y (3 + n) ≡ encode_stored form_1 (3 + n) (get_or ps (n - 1) no_point)) (sym (eqb-true k j t)) P.there)
          (λ t. P.others (3 + k) (λ q. eqb-false k j t (omega arith)) ∙ O.moved k (above k h (eqb-false k j t)) g);
      free = λ k h g. P.others (3 + k) (λ q. omega (arith, O.high)) ∙ O.free k h g;
    }
      where
        P : Put img y (3 + j) (encode_stored form_1 (3 + j) (get_or s.points (j - 1) no_point))
        P = renumbered_put img x y (2 + j) (3 + j) (get_or ps (j - 1) no_point) sized O.size (omega (arith, O.high)) (omega (arith, O.high)) below moved_up b e d

        above : (k : ℕ) → j - 1 < k → (k ≡ j → ⊥) → j < k
        above k h g = by_test (ltb j k) (ltb-true j k) (λ t. absurd (g (omega (arith, ltb-false j k t))))

  -- and an empty record stands there
  pub opened : (img x : List ℕ) (j : ℕ) (key : Key) (b : List ℕ) → key.job < 256 → key.point.0 < 256 ^ 2 → length s.points < most_points → Opening s i j img → j ≤ i
      → b ≡ encode_point form_1 3 (3 + i) (record { sender = controller 0; key = key; object = no_object })
      → x ≡ take (512 * (3 + i)) img ++ (b ++ drop (512 * (3 + i) + 512 - 512 * (3 + i)) (drop (512 * (3 + i)) img))
      → (decode x ≡ with_points s (insert_at s.points i (record { key = key; object = no_object }))) × Canonical x
  opened img x j key b hj hp few O end e d =
      says (with_points s (insert_at ps i p)) x
      (record { head = S.head; own = S.own; foreign = S.foreign; few = omega (arith, count); points = all_of_splice StoredSized ps i 0 (p ∷ []) S.points (only StoredSized p sized) })
      (record {
        size = P.size ∙ O.size;
        head = P.others 0 (λ q. omega arith) ∙ O.head;
        own = P.others 1 (λ q. omega arith) ∙ O.own;
        foreign = P.others 2 (λ q. omega arith) ∙ O.foreign;
        stored = stored;
        free = λ k h g. P.others (3 + k) (λ q. omega (arith, count, O.low, O.high)) ∙ O.free k (omega (arith, count)) g;
      })
    where
      p : Stored
      p = record { key = key; object = no_object }

      sized : StoredSized p
      sized = record {
        sender = omega arith;
        job = hj;
        point = hp;
        few = omega arith;
        context = record { eight = refl; small = Rattle.image_edits.proofs.Blocks.no_context_small };
        versions = λ v m. absurd (Memᴰ.not-nil m);
      }

      same : j ≡ i
      same = omega (arith, O.low)

      count : length (insert_at s.points i p) ≡ length s.points + 1
      count = simp (length-append, length-take, length-drop) (omega (arith, O.low, O.high))

      as_stored : encode_point form_1 3 (3 + i) (record { sender = controller 0; key = key; object = no_object }) ≡ encode_stored form_1 (3 + i) p
      as_stored = unfold encode_stored in refl

      P : Put img x (3 + i) (encode_stored form_1 (3 + i) p)
      P = put img x (3 + i) (encode_stored form_1 (3 + i) p) (omega (arith, O.size, O.low, O.high)) (stored_length (3 + i) p sized) (d ∙ part_back img (512 * (3 + i)) 512 b ∙ ap (splice img (512 * (3 + i)) 512) (e ∙ as_stored))

      stored : (k : ℕ) → k < length (insert_at s.points i p) → block_at x (3 + k) ≡ encode_stored form_1 (3 + k) (get_or (insert_at s.points i p) k no_point)
      stored k h =
          by_test (ltb k i)
          (λ t. let l : k < i = ltb-true k i t in
          P.others (3 + k) (λ q. omega arith) ∙ O.kept k (omega arith) (omega (arith, O.low, O.high)) ∙ ap (encode_stored form_1 (3 + k)) (sym (place_below ps i no_point (omega (arith, O.low, O.high)) 0 (p ∷ []) k l)))
          (λ t. by_test (eqb k i)
          (λ u. subst (λ (n : ℕ). block_at x (3 + n) ≡ encode_stored form_1 (3 + n) (get_or (insert_at ps i p) n no_point)) (sym (eqb-true k i u))
          (P.there ∙ ap (encode_stored form_1 (3 + i)) (sym (place_here ps i no_point (omega (arith, O.low, O.high)) 0 p []))))
          (λ u. let l : i < k = after k (ltb-false k i t) (eqb-false k i u) in
          P.others (3 + k) (λ q. omega arith) ∙ O.moved k (omega (arith, same)) (omega (arith, count))
          ∙ ap (encode_stored form_1 (3 + k)) (sym (place_above ps i no_point (omega (arith, O.low, O.high)) 0 (p ∷ []) k (omega arith) ∙ ap (λ (n : ℕ). get_or ps n no_point) (back k)))))
        where
          after : (k : ℕ) → i ≤ k → (k ≡ i → ⊥) → i < k
          after k a b = by_test (ltb i k) (ltb-true i k) (λ t. absurd (b (omega (arith, ltb-false i k t))))

          back : (k : ℕ) → k - 1 + 0 ≡ k - 1
          back k = omega arith
