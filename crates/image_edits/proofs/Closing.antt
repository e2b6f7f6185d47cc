-- A point's place closed, block by block. Assumes nothing.
use Prim.Native.Nat.{ℕ, ◌+◌, ◌*◌, ◌-◌, ◌≤◌, ◌<◌}
use mathlib.Core.Path.{◌≡◌, ap, sym, ◌∙◌, subst}
use mathlib.Core.List.Memᴰ
use mathlib.Core.List.{List, [], ◌++◌}
use native.Mathlib.Omega.{arith}
use lib.ListN.{length, take, drop, get_or, length-append, length-take, length-drop, length-replicate}
use lib.Dec.{ltb, eqb}
use borrow.Author.Tests.{ltb-true, ltb-false, eqb-true, eqb-false}
use Rattle.numbers.proofs.Tests.{by_test}
use Rattle.block.specs.Fields.{cut, splice, remove_at, zeros}
use Rattle.block.specs.Block.{block_at, Laid}
use Rattle.block.proofs.Arrays.{get_or_in, all_of_splice}
use Rattle.block.proofs.Places.{place_below, place_above}
use Rattle.meaning.specs.State.{Stored, State}
use Rattle.meaning.specs.Settle.{most_points}
use Rattle.layout.specs.PointBlock.{form_1, encode_stored, decode_stored}
use Rattle.layout.specs.Image.{image_length, head_of, encode_head, encode_dots, decode}
use Rattle.layout.proofs.ImageBack.{StoredSized, Sized}
use Rattle.record_edits.specs.Written.{lay_point, point_block}
use Rattle.image.specs.Places.{no_point}
use Rattle.image_edits.specs.Edits.{Canonical, with_points}
use Rattle.image_edits.proofs.Blocks.{Blocks, says}
use Rattle.image_edits.proofs.Moved.{Put, put, part_laid, part_size, renumbered_put}

-- those from the i-th to before the j-th are the ones that stood one block further up
pub record Closing (s : State) (i j : ℕ) (img : List ℕ) : Type 0 where
  pub size : length img ≡ image_length
  pub low : i ≤ j
  pub high : j < length s.points
  pub head : block_at img 0 ≡ encode_head (head_of s)
  pub own : block_at img 1 ≡ encode_dots 1 s.own_dots
  pub foreign : block_at img 2 ≡ encode_dots 2 s.foreign_dots
  pub below : (k : ℕ) → k < i → block_at img (3 + k) ≡ encode_stored form_1 (3 + k) (get_or s.points k no_point)
  pub moved : (k : ℕ) → i ≤ k → k < j → block_at img (3 + k) ≡ encode_stored form_1 (3 + k) (get_or s.points (k + 1) no_point)
  pub kept : (k : ℕ) → j ≤ k → k < length s.points → block_at img (3 + k) ≡ encode_stored form_1 (3 + k) (get_or s.points k no_point)
  pub free : (k : ℕ) → length s.points ≤ k → k < most_points → block_at img (3 + k) ≡ zeros 512

module _ (s : State) (S : Sized s) (i : ℕ) where
  abbrev all : List Stored
  all = s.points

  pub closing_none : (img : List ℕ) → i < length s.points → Blocks s img → Closing s i i img
  closing_none img l B = record {
    size = B.size;
    low = omega arith;
    high = l;
    head = B.head;
    own = B.own;
    foreign = B.foreign;
    below = λ k h. B.stored k (omega arith);
    moved = λ k h g. absurd (omega arith);
    kept = λ k h g. B.stored k g;
    free = B.free;
  }

  -- one more block is moved down
  module _ (img x y : List ℕ) (j : ℕ) (C : Closing s i j img) (more : j + 1 < length s.points) (m : x ≡ splice img (512 * (3 + j)) 512 (cut img (512 * (3 + j) + 512) 512)) where
    few : length s.points ≤ most_points
    few = S.few

    from : 512 * (3 + j) + 512 ≡ 512 * (4 + j)
    from = omega arith

    index : 3 + (j + 1) ≡ 4 + j
    index = omega arith

    above : block_at img (4 + j) ≡ encode_stored form_1 (4 + j) (get_or s.points (j + 1) no_point)
    above = subst (λ (k : ℕ). block_at img k ≡ encode_stored form_1 k (get_or all (j + 1) no_point)) index (C.kept (j + 1) (omega arith) more)

    moved_down : x ≡ splice img (512 * (3 + j)) 512 (cut img (512 * (4 + j)) 512)
    moved_down = m ∙ ap (λ (o : ℕ). splice img (512 * (3 + j)) 512 (cut img o 512)) from

    sized : StoredSized (get_or s.points (j + 1) no_point)
    sized = S.points (get_or all (j + 1) no_point) (get_or_in all (j + 1) no_point more)

    pub closing_laid : Laid lay_point point_block (take (512 * (3 + j) + 512 - 512 * (3 + j)) (drop (512 * (3 + j)) x))
    closing_laid = part_laid img x x (4 + j) (3 + j) (get_or all (j + 1) no_point) sized C.size (omega (arith, few)) (omega (arith, few)) above moved_down

    pub closing_size : length (take (512 * (3 + j) + 512 - 512 * (3 + j)) (drop (512 * (3 + j)) x)) ≡ 512
    closing_size = part_size img x x (4 + j) (3 + j) (get_or all (j + 1) no_point) sized C.size (omega (arith, few)) (omega (arith, few)) above moved_down

    pub closing_more : (b : List ℕ) → b ≡ encode_stored form_1 (3 + j) (decode_stored form_1 (take (512 * (3 + j) + 512 - 512 * (3 + j)) (drop (512 * (3 + j)) x)))
        → y ≡ take (512 * (3 + j)) x ++ (b ++ drop (512 * (3 + j) + 512 - 512 * (3 + j)) (drop (512 * (3 + j)) x)) → Closing s i (j + 1) y
    closing_more b e d = record {
      size = P.size ∙ C.size;
      low = omega (arith, C.low);
      high = more;
      head = P.others 0 (λ q. omega arith) ∙ C.head;
      own = P.others 1 (λ q. omega arith) ∙ C.own;
      foreign = P.others 2 (λ q. omega arith) ∙ C.foreign;
      below = λ k h. P.others (3 + k) (λ q. omega (arith, C.low)) ∙ C.below k h;
      moved = λ k h g.
          by_test (eqb k j)
          (λ t. subst (λ (n : ℕ). block_at y (3 + n) ≡ encode_stored form_1 (3 + n) (get_or all (n + 1) no_point)) (sym (eqb-true k j t)) P.there)
          (λ t. P.others (3 + k) (λ q. eqb-false k j t (omega arith)) ∙ C.moved k h (under k g (eqb-false k j t)));
      kept = λ k h g. P.others (3 + k) (λ q. omega arith) ∙ C.kept k (omega arith) g;
      free = λ k h g. P.others (3 + k) (λ q. omega (arith, C.high)) ∙ C.free k h g;
    }
      where
        P : Put img y (3 + j) (encode_stored form_1 (3 + j) (get_or s.points (j + 1) no_point))
        P = renumbered_put img x y (4 + j) (3 + j) (get_or all (j + 1) no_point) sized C.size (omega (arith, few)) (omega (arith, few)) above moved_down b e d

        under : (k : ℕ) → k < j + 1 → (k ≡ j → ⊥) → k < j
        under k h g = by_test (ltb k j) (ltb-true k j) (λ t. absurd (g (omega (arith, ltb-false k j t))))

  -- and the last one's block is cleared
  pub closed : (img x : List ℕ) (j n : ℕ) → n ≡ length s.points → Closing s i j img → n ≤ j + 1 → x ≡ splice img (512 * (2 + n)) (512 * (3 + n) - 512 * (2 + n)) (zeros (512 * (3 + n) - 512 * (2 + n)))
      → (decode x ≡ with_points s (remove_at s.points i)) × Canonical x
  closed img x j n e C end d =
      says (with_points s (remove_at all i)) x
      (record { head = S.head; own = S.own; foreign = S.foreign; few = omega (arith, count, S.few); points = all_of_splice StoredSized all i 1 [] S.points (λ q m. absurd (Memᴰ.not-nil m)) })
      (record {
        size = P.size ∙ C.size;
        head = P.others 0 (λ q. omega arith) ∙ C.head;
        own = P.others 1 (λ q. omega (arith, C.high)) ∙ C.own;
        foreign = P.others 2 (λ q. omega (arith, C.high)) ∙ C.foreign;
        stored = stored;
        free = free;
      })
    where
      last : j ≡ n - 1
      last = omega (arith, C.high)

      count : length (remove_at s.points i) + 1 ≡ length s.points
      count = simp (length-append, length-take, length-drop) (omega (arith, C.low, C.high))

      one : 512 * (3 + n) - 512 * (2 + n) ≡ 512
      one = omega arith

      P : Put img x (2 + n) (zeros 512)
      P = put img x (2 + n) (zeros 512) (omega (arith, C.size, S.few)) (length-replicate {A = ℕ} 512 0) (d ∙ ap (λ (m : ℕ). splice img (512 * (2 + n)) m (zeros m)) one)

      stored : (k : ℕ) → k < length (remove_at s.points i) → block_at x (3 + k) ≡ encode_stored form_1 (3 + k) (get_or (remove_at s.points i) k no_point)
      stored k h =
          by_test (ltb k i)
          (λ t. let l : k < i = ltb-true k i t in
          P.others (3 + k) (λ q. omega (arith, C.low, C.high)) ∙ C.below k l ∙ ap (encode_stored form_1 (3 + k)) (sym (place_below all i no_point (omega (arith, C.low, C.high)) 1 [] k l)))
          (λ t. P.others (3 + k) (λ q. omega (arith, count)) ∙ C.moved k (ltb-false k i t) (omega (arith, count, last))
          ∙ ap (encode_stored form_1 (3 + k)) (sym (place_above all i no_point (omega (arith, C.low, C.high)) 1 [] k (omega (arith, ltb-false k i t)) ∙ ap (λ (m : ℕ). get_or all m no_point) (next k))))
        where
          next : (k : ℕ) → k - 0 + 1 ≡ k + 1
          next k = omega arith

      free : (k : ℕ) → length (remove_at s.points i) ≤ k → k < most_points → block_at x (3 + k) ≡ zeros 512
      free k h g =
          by_test (eqb (3 + k) (2 + n)) (λ t. ap (block_at x) (eqb-true (3 + k) (2 + n) t) ∙ P.there)
          (λ t. P.others (3 + k) (eqb-false (3 + k) (2 + n) t) ∙ C.free k (past k h (eqb-false (3 + k) (2 + n) t)) g)
        where
          past : (k : ℕ) → length (remove_at s.points i) ≤ k → (3 + k ≡ 2 + n → ⊥) → length s.points ≤ k
          past k a b = by_test (ltb k n) (λ t. absurd (b (omega (arith, ltb-true k n t, count)))) (λ t. omega (arith, ltb-false k n t))
