-- One block of a canonical image put anew: the image says so, and is canonical still. Assumes nothing.
use Prim.Native.Nat.{ℕ, ◌+◌, ◌*◌, ◌-◌, ◌^◌, ◌≤◌, ◌<◌}
use mathlib.Core.Path.{◌≡◌, refl, ap, ap₂, sym, ◌∙◌, subst}
use mathlib.Core.List.{List, [], ◌∷◌, ◌++◌}
use native.Mathlib.Omega.{arith}
use lib.ListN.{length, take, drop, get_or}
use lib.Dec.{ltb, eqb}
use borrow.Author.Tests.{ltb-true, ltb-false, eqb-true, eqb-false}
use Rattle.numbers.specs.declared.Controller.{Controller}
use Rattle.numbers.specs.Numbers.{Crew}
use Rattle.numbers.proofs.Tests.{by_test}
use Rattle.block.specs.Fields.{cut, splice, put_at, insert_at, remove_at}
use Rattle.block.specs.Check.{seal}
use Rattle.block.specs.Block.{block_at, resealed, Laid}
use Rattle.block.proofs.Numbers.{Bytes}
use Rattle.block.proofs.Parts.{splice_length, splice_same, splice_again, part_is, part_back}
use Rattle.block.proofs.Arrays.{all_of_splice, only}
use Rattle.block.proofs.Places.{place_below, place_here, place_above}
use Rattle.row.specs.declared.Row.{Row}
use Rattle.meaning.specs.State.{Stored, Listed, State}
use Rattle.layout.specs.PointBlock.{form_1, encode_stored}
use Rattle.layout.specs.Image.{image_length, Head, head_of, encode_head, decode_head, encode_dots, decode_dots, decode}
use Rattle.layout.proofs.ImageBack.{RowSized, EntrySized, HeadSized, head_length, head_back, DotsSized, dots_length, dots_back, StoredSized, Sized}
use Rattle.head.specs.HeadEdits.{put_row, put_mark}
use Rattle.head.proofs.Edits.{put_row_sized, put_mark_sized, head_laid}
use Rattle.dots.specs.DotsBlock.{lay_dots, dots_block, with_dots}
use Rattle.dots.proofs.Edits.{insert_sized, remove_sized, list_position, list_laid}
use Rattle.image.specs.Places.{no_point}
use Rattle.image_edits.specs.Edits.{Canonical, with_head, with_points, list_of, with_list}
use Rattle.image_edits.proofs.Blocks.{Blocks, image_decoded, canonical_blocks, says}
use Rattle.image_edits.proofs.Moved.{Put, put}

-- ---- an edit of a part, and then its check

-- the lent part k, with its check made last, is laid out as what it then says
module _ {A : Type 0} (lay : A → List ℕ) (view : List ℕ → A) (img x y : List ℕ) (k : ℕ) (b c : List ℕ) (z : A) (fits : 512 * k + 512 ≤ length img) (size : length b ≡ 512) (out : length (lay z) ≡ 512) where
  pub part_sealed : (view b ≡ z) × Laid lay view b → x ≡ take (512 * k) img ++ (b ++ drop (512 * k + 512 - 512 * k) (drop (512 * k) img))
      → c ≡ seal (take 508 (take (512 * k + 512 - 512 * k) (drop (512 * k) x))) → y ≡ take (512 * k) x ++ (c ++ drop (512 * k + 512 - 512 * k) (drop (512 * k) x)) → Put img y k (lay z)
  part_sealed edit d e f =
      put img y k (lay z) fits out
      (f ∙ part_back x (512 * k) 512 c ∙ ap₂ (λ (u v : List ℕ). splice u (512 * k) 512 v) first sealed ∙ splice_again img (512 * k) 512 b fits size (lay z))
    where
      first : x ≡ splice img (512 * k) 512 b
      first = d ∙ part_back img (512 * k) 512 b

      part : take (512 * k + 512 - 512 * k) (drop (512 * k) x) ≡ b
      part = part_is x (512 * k) 512 ∙ ap (λ (u : List ℕ). cut u (512 * k) 512) first ∙ splice_same img (512 * k) 512 b fits size

      sealed : c ≡ lay z
      sealed = e ∙ ap (λ (u : List ℕ). seal (take 508 u)) part ∙ again ∙ ap lay edit.0
        where
          again : seal (take 508 b) ≡ lay (view b)
          again = unfold resealed in edit.1

-- ---- in a canonical image

module _ (img : List ℕ) (small : Bytes img) (size : length img ≡ image_length) (canonical : Canonical img) where
  abbrev s : State
  s = decode img

  S : Sized (decode img)
  S = image_decoded img small size

  B : Blocks (decode img) img
  B = canonical_blocks img small size canonical

  -- what is lent of it

  pub head_part : take (512 * 0 + 512 - 512 * 0) (drop (512 * 0) img) ≡ encode_head (head_of (decode img))
  head_part = part_is img (512 * 0) 512 ∙ (unfold block_at in B.head)

  pub head_part_laid : Laid encode_head decode_head (take (512 * 0 + 512 - 512 * 0) (drop (512 * 0) img))
  head_part_laid = head_laid (head_of s) S.head (take (512 * 0 + 512 - 512 * 0) (drop (512 * 0) img)) head_part

  pub head_part_says : decode_head (take (512 * 0 + 512 - 512 * 0) (drop (512 * 0) img)) ≡ head_of (decode img)
  head_part_says = ap decode_head head_part ∙ head_back (head_of s) S.head

  -- ---- and what it says when it comes back

  pub head_lifted : (x : List ℕ) (h : Head) → HeadSized h → Put img x 0 (encode_head h) → (decode x ≡ with_head (decode img) h) × Canonical x
  head_lifted x h H P =
      says (with_head s h) x (record { head = H; own = S.own; foreign = S.foreign; few = S.few; points = S.points })
      (record {
        size = P.size ∙ size;
        head = P.there;
        own = P.others 1 (λ q. omega arith) ∙ B.own;
        foreign = P.others 2 (λ q. omega arith) ∙ B.foreign;
        stored = λ j l. P.others (3 + j) (λ q. omega arith) ∙ B.stored j l;
        free = λ j l m. P.others (3 + j) (λ q. omega arith) ∙ B.free j l m;
      })

  pub point_lifted : (x : List ℕ) (i : ℕ) (p : Stored) → i < length (decode img).points → StoredSized p → Put img x (3 + i) (encode_stored form_1 (3 + i) p) → (decode x ≡ with_points (decode img) (put_at (decode img).points i p)) × Canonical x
  point_lifted x i p l F P =
      says (with_points s (put_at s.points i p)) x
      (record { head = S.head; own = S.own; foreign = S.foreign; few = omega (arith, same, S.few); points = all_of_splice StoredSized s.points i 1 (p ∷ []) S.points (only StoredSized p F) })
      (record {
        size = P.size ∙ size;
        head = P.others 0 (λ q. omega arith) ∙ B.head;
        own = P.others 1 (λ q. omega arith) ∙ B.own;
        foreign = P.others 2 (λ q. omega arith) ∙ B.foreign;
        stored = stored;
        free = λ j h m. P.others (3 + j) (λ q. omega (arith, same)) ∙ B.free j (omega (arith, same)) m;
      })
    where
      same : length (put_at (decode img).points i p) ≡ length (decode img).points
      same = splice_length s.points i 1 (p ∷ []) (omega arith) refl

      stored : (j : ℕ) → j < length (put_at (decode img).points i p) → block_at x (3 + j) ≡ encode_stored form_1 (3 + j) (get_or (put_at (decode img).points i p) j no_point)
      stored j h =
          by_test (eqb j i)
          (λ t. subst (λ (n : ℕ). block_at x (3 + n) ≡ encode_stored form_1 (3 + n) (get_or (put_at s.points i p) n no_point)) (sym (eqb-true j i t))
          (P.there ∙ ap (encode_stored form_1 (3 + i)) (sym (place_here s.points i no_point (omega arith) 1 p []))))
          (λ t. P.others (3 + j) (λ q. eqb-false j i t (omega arith)) ∙ B.stored j (omega (arith, same)) ∙ ap (encode_stored form_1 (3 + j)) (sym (other j (eqb-false j i t))))
        where
          other : (j : ℕ) → (j ≡ i → ⊥) → get_or (put_at (decode img).points i p) j no_point ≡ get_or (decode img).points j no_point
          other j e =
              by_test (ltb j i) (λ t. place_below s.points i no_point (omega arith) 1 (p ∷ []) j (ltb-true j i t))
              (λ t. place_above s.points i no_point (omega arith) 1 (p ∷ []) j (above (ltb-false j i t)) ∙ ap (λ (n : ℕ). get_or s.points n no_point) (back (ltb-false j i t)))
            where
              above : i ≤ j → i + 1 ≤ j
              above h = by_test (ltb i j) (λ t. omega (arith, ltb-true i j t)) (λ t. absurd (e (omega (arith, ltb-false i j t))))

              back : i ≤ j → j - 1 + 1 ≡ j
              back h = omega (arith, above h)

  -- the lists
  module _ (k : ℕ) (one : 1 ≤ k) (two : k ≤ 2) where
    abbrev ls : List Listed
    ls = list_of s k

    either : (P : ℕ → Type 0) → P 1 → P 2 → P k
    either P p q = by_test (eqb k 1) (λ t. subst P (sym (eqb-true k 1 t)) p) (λ t. subst P (sym (other (eqb-false k 1 t))) q)
      where
        other : (k ≡ 1 → ⊥) → k ≡ 2
        other e = by_test (eqb k 2) (eqb-true k 2) (λ t. absurd (by_test (ltb k 2) (λ u. e (omega (arith, ltb-true k 2 u))) (λ u. eqb-false k 2 t (omega (arith, ltb-false k 2 u)))))

    pub list_sized : DotsSized (list_of (decode img) k)
    list_sized = either (λ (n : ℕ). DotsSized (list_of (decode img) n)) S.own S.foreign

    list_block : block_at img k ≡ encode_dots k (list_of (decode img) k)
    list_block = either (λ (n : ℕ). block_at img n ≡ encode_dots n (list_of (decode img) n)) B.own B.foreign

    pub list_part : take (512 * k + 512 - 512 * k) (drop (512 * k) img) ≡ encode_dots k (list_of (decode img) k)
    list_part = part_is img (512 * k) 512 ∙ block_is ∙ list_block
      where
        block_is : cut img (512 * k) 512 ≡ block_at img k
        block_is = unfold block_at in refl

    pub list_part_laid : Laid lay_dots dots_block (take (512 * k + 512 - 512 * k) (drop (512 * k) img))
    list_part_laid = list_laid k ls (omega arith) list_sized (take (512 * k + 512 - 512 * k) (drop (512 * k) img)) list_part

    pub list_part_says : decode_dots (take (512 * k + 512 - 512 * k) (drop (512 * k) img)) ≡ list_of (decode img) k
    list_part_says = ap decode_dots list_part ∙ dots_back k ls list_sized

    pub list_lifted : (x : List ℕ) (ms : List Listed) → DotsSized ms → Put img x k (encode_dots k ms) → (decode x ≡ with_list (decode img) k ms) × Canonical x
    list_lifted x ms M = either (λ (n : ℕ). Put img x n (encode_dots n ms) → (decode x ≡ with_list (decode img) n ms) × Canonical x) own foreign
      where
        own : Put img x 1 (encode_dots 1 ms) → (decode x ≡ with_list (decode img) 1 ms) × Canonical x
        own P =
            says (with_list s 1 ms) x (record { head = S.head; own = M; foreign = S.foreign; few = S.few; points = S.points })
            (record {
              size = P.size ∙ size;
              head = P.others 0 (λ q. omega arith) ∙ B.head;
              own = P.there;
              foreign = P.others 2 (λ q. omega arith) ∙ B.foreign;
              stored = λ j l. P.others (3 + j) (λ q. omega arith) ∙ B.stored j l;
              free = λ j l m. P.others (3 + j) (λ q. omega arith) ∙ B.free j l m;
            })

        foreign : Put img x 2 (encode_dots 2 ms) → (decode x ≡ with_list (decode img) 2 ms) × Canonical x
        foreign P =
            says (with_list s 2 ms) x (record { head = S.head; own = S.own; foreign = M; few = S.few; points = S.points })
            (record {
              size = P.size ∙ size;
              head = P.others 0 (λ q. omega arith) ∙ B.head;
              own = P.others 1 (λ q. omega arith) ∙ B.own;
              foreign = P.there;
              stored = λ j l. P.others (3 + j) (λ q. omega arith) ∙ B.stored j l;
              free = λ j l m. P.others (3 + j) (λ q. omega arith) ∙ B.free j l m;
            })

    -- a list edited in its part, and its check made
    module _ (x y b c : List ℕ) (ok : length b ≡ 512) (d : x ≡ take (512 * k) img ++ (b ++ drop (512 * k + 512 - 512 * k) (drop (512 * k) img))) (e : c ≡ seal (take 508 (take (512 * k + 512 - 512 * k) (drop (512 * k) x))))
        (f : y ≡ take (512 * k) x ++ (c ++ drop (512 * k + 512 - 512 * k) (drop (512 * k) x))) where
      abbrev lent : List ℕ
      lent = take (512 * k + 512 - 512 * k) (drop (512 * k) img)

      list_done : (ms : List Listed) → DotsSized ms → (dots_block b ≡ with_dots (dots_block lent) ms) × Laid lay_dots dots_block b → (decode y ≡ with_list (decode img) k ms) × Canonical y
      list_done ms M edit =
          list_lifted y ms M (part_sealed lay_dots dots_block img x y k b c (record { position = k; dots = ms }) (omega (arith, size)) ok (dots_length k ms M) (edit.0 ∙ there, edit.1) d e f)
        where
          place : (dots_block lent).position ≡ k
          place = ap (λ (u : List ℕ). (dots_block u).position) list_part ∙ list_position k ls (omega arith) list_sized

          there : with_dots (dots_block lent) ms ≡ record { position = k; dots = ms }
          there = ap (λ (n : ℕ). record { position = n; dots = ms }) place

      -- the block is that of a list
      pub insert_done : {n : ℕ} → k ≡ n → (i : ℕ) (l : Listed) → EntrySized l → i ≤ length (list_of (decode img) k) → length (list_of (decode img) k) < 60
          → (dots_block b ≡ with_dots (dots_block lent) (insert_at (decode_dots lent) i l)) × Laid lay_dots dots_block b → (decode y ≡ with_list (decode img) n (insert_at (list_of (decode img) n) i l)) × Canonical y
      insert_done q i l fits low few edit =
          subst (λ (n : ℕ). (decode y ≡ with_list (decode img) n (insert_at (list_of (decode img) n) i l)) × Canonical y) q
          (list_done (insert_at ls i l) (insert_sized ls i l list_sized fits low few) (edit.0 ∙ ap (λ (us : List Listed). with_dots (dots_block lent) (insert_at us i l)) list_part_says, edit.1))

      pub remove_done : {n : ℕ} → k ≡ n → (i : ℕ) → i < length (list_of (decode img) k)
          → (dots_block b ≡ with_dots (dots_block lent) (remove_at (decode_dots lent) i)) × Laid lay_dots dots_block b → (decode y ≡ with_list (decode img) n (remove_at (list_of (decode img) n) i)) × Canonical y
      remove_done q i low edit =
          subst (λ (n : ℕ). (decode y ≡ with_list (decode img) n (remove_at (list_of (decode img) n) i)) × Canonical y) q
          (list_done (remove_at ls i) (remove_sized ls i list_sized low) (edit.0 ∙ ap (λ (us : List Listed). with_dots (dots_block lent) (remove_at us i)) list_part_says, edit.1))

  -- the head edited in its part, and its check made
  module _ (x y b c : List ℕ) (ok : length b ≡ 512) (d : x ≡ take (512 * 0) img ++ (b ++ drop (512 * 0 + 512 - 512 * 0) (drop (512 * 0) img))) (e : c ≡ seal (take 508 (take (512 * 0 + 512 - 512 * 0) (drop (512 * 0) x))))
      (f : y ≡ take (512 * 0) x ++ (c ++ drop (512 * 0 + 512 - 512 * 0) (drop (512 * 0) x))) where
    abbrev lent_head : List ℕ
    lent_head = take (512 * 0 + 512 - 512 * 0) (drop (512 * 0) img)

    head_done : (g : Head → Head) → HeadSized (g (head_of (decode img))) → (decode_head b ≡ g (decode_head lent_head)) × Laid encode_head decode_head b → (decode y ≡ with_head (decode img) (g (head_of (decode img)))) × Canonical y
    head_done g G edit =
        head_lifted y (g (head_of s)) G (part_sealed encode_head decode_head img x y 0 b c (g (head_of s)) (omega (arith, size)) ok (head_length (g (head_of s)) G) (edit.0 ∙ ap g head_part_says, edit.1) d e f)

    pub row_done : (n : Controller) (r : Row) → Crew n → RowSized r → (decode_head b ≡ put_row (decode_head lent_head) n r) × Laid encode_head decode_head b
        → (decode y ≡ with_head (decode img) (put_row (head_of (decode img)) n r)) × Canonical y
    row_done n r crew fits edit = head_done (λ h. put_row h n r) (put_row_sized (head_of s) S.head n crew r fits) edit

    pub mark_done : (m n : Controller) (base : ℕ) → Crew m → Crew n → base < 256 ^ 4 → (decode_head b ≡ put_mark (decode_head lent_head) m n base) × Laid encode_head decode_head b
        → (decode y ≡ with_head (decode img) (put_mark (head_of (decode img)) m n base)) × Canonical y
    mark_done m n base of crew fits edit = head_done (λ h. put_mark h m n base) (put_mark_sized (head_of s) S.head m n of crew base fits) edit
