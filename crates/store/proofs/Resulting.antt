-- A result in a block of its own takes its record's place. Assumes nothing.
use Rattle.std.specs.Prelude.{if◌then◌else◌, ℕ, Result, Ok, Err}
use Prim.Native.Nat.{ℕ, ◌+◌, ◌≤◌, ◌<◌}
use mathlib.Core.Path.{◌≡◌, refl, ap, ap₂, sym, ◌∙◌, subst}
use mathlib.Core.Bool.{Bool, true, false}
use mathlib.Core.List.{List, [], ◌∷◌, ◌++◌}
use native.Mathlib.Omega.{arith}
use lib.ListN.{length, take, drop, get_or, length-take, length-append, length-drop}
use lib.Seq.{take_at, drop_at}
use Rattle.numbers.specs.Words.{ascends?, place}
use Rattle.numbers.specs.declared.Key.{Key}
use Rattle.block.specs.Fields.{put_at, insert_at, remove_at, upto}
use Rattle.block.proofs.Numbers.{Bytes}
use Rattle.block.proofs.Parts.{splice_length, splice_again}
use Rattle.block.proofs.Places.{place_here}
use Rattle.meaning.specs.Clock.{Clock}
use Rattle.meaning.specs.Object.{strip, gone}
use Rattle.meaning.specs.State.{Stored, State, stored_before}
use Rattle.meaning.specs.Settle.{most_points, without, stripped, put}
use Rattle.layout.specs.PointBlock.{form_1, decode_point, decode_stored}
use Rattle.layout.specs.Image.{image_length, decode}
use Rattle.image.specs.Apart.{point_at}
use Rattle.image.specs.Places.{no_point, PointIn}
use Rattle.image.proofs.Placing.{place_before, without_before, place_at, without_at}
use Rattle.image_edits.specs.Edits.{Canonical, with_points}
use Rattle.image_edits.proofs.Fetching.{points_listed}
use Rattle.store.specs.Restored.{restored}

-- one put in and then put anew is that one put in
put_inserted : {A : Type 0} (xs : List A) (i : ℕ) (a b : A) → i ≤ length xs → put_at (insert_at xs i a) i b ≡ insert_at xs i b
put_inserted xs i a b h = ap₂ (λ (u v : List _). u ++ (b ∷ drop 1 v)) (take_at (take i xs) (a ∷ drop i xs) i front) (drop_at (take i xs) (a ∷ drop i xs) i front)
  where
    front : length (take i xs) ≡ i
    front = length-take i xs ∙ omega arith

-- ---- where it is stored

module _ (img x : List ℕ) (i : ℕ) (r : Stored) (inside : i < length (decode img).points) (w : (decode x ≡ with_points (decode img) (put_at (decode img).points i r)) × Canonical x) where
  abbrev ps : List Stored
  ps = (decode img).points

  points_now : (decode x).points ≡ put_at (decode img).points i r
  points_now = ap (λ (s : State). s.points) w.0

  pub count_kept : length (decode img).points ≡ length (decode x).points
  count_kept = sym (ap length points_now ∙ splice_length ps i 1 (r ∷ []) (omega arith) refl)

  pub stored_put : (k : Clock) (y : List ℕ) → (decode y ≡ with_points (decode x) (restored k (decode x).points i)) × Canonical y
      → (decode y ≡ with_points (decode img) (restored k (put_at (decode img).points i r) i)) × Canonical y
  stored_put k y h = (h.0 ∙ ap (λ (s : State). with_points s (restored k s.points i)) w.0, h.1)

-- ---- where it is new

module _ (img x y z : List ℕ) (i : ℕ) (a r : Stored) (k : Clock) (inside : i ≤ length (decode img).points) (o : (decode x ≡ with_points (decode img) (insert_at (decode img).points i a)) × Canonical x) where
  pub opened_inside : i < length (decode x).points
  opened_inside = omega (arith, ap (λ (s : State). length s.points) o.0, one_more)
    where
      one_more : length (insert_at (decode img).points i a) ≡ length (decode img).points + 1
      one_more = simp (length-append, length-take, length-drop) (omega (arith, inside))

  module _ (w : (decode y ≡ with_points (decode x) (put_at (decode x).points i r)) × Canonical y) where
    second : decode y ≡ with_points (decode img) (insert_at (decode img).points i r)
    second = w.0 ∙ ap (λ (s : State). with_points s (put_at s.points i r)) o.0 ∙ ap (with_points (decode img)) (put_inserted (decode img).points i a r inside)

    pub written_inside : i < length (decode y).points
    written_inside = omega (arith, opened_inside, ap (λ (s : State). length s.points) w.0, splice_length (decode x).points i 1 (r ∷ []) (omega (arith, opened_inside)) refl)

    pub new_put : (decode z ≡ with_points (decode y) (put_at (decode y).points i (stripped k (get_or (decode y).points i no_point)))) × Canonical z
        → (decode z ≡ with_points (decode img) (insert_at (decode img).points i (stripped k r))) × Canonical z
    new_put h = (
      h.0 ∙ ap (λ (s : State). with_points s (put_at s.points i (stripped k (get_or s.points i no_point)))) second
          ∙ ap (λ (q : Stored). with_points (decode img) (put_at (insert_at (decode img).points i r) i (stripped k q))) (place_here (decode img).points i no_point inside 0 r [])
          ∙ ap (with_points (decode img)) (put_inserted (decode img).points i r (stripped k r) inside),
      h.1,
    )

-- ---- as the definition puts it

module _ (k : Clock) (ps : List Stored) (r : Stored) where
  abbrev to_go : Bool
  to_go = gone (strip k r.object)

  pub put_where_stored : (i : ℕ) → ascends? stored_before ps ≡ true → PointIn ps r.key (Ok i) → restored k (put_at ps i r) i ≡ put k ps r
  unfolding put
  put_where_stored i up at =
      ap (λ (q : Stored). if gone (strip k q.object) then remove_at (put_at ps i r) i else put_at (put_at ps i r) i (stripped k q)) (place_here ps i no_point (omega (arith, at.0)) 1 r [])
      ∙ ap₂ (λ (u v : List Stored). if to_go then u else v)
      (splice_again ps i 1 (r ∷ []) (omega (arith, at.0)) refl [] ∙ sym (without_at r.key ps i up at))
      (splice_again ps i 1 (r ∷ []) (omega (arith, at.0)) refl (stripped k r ∷ []) ∙ sym (place_at (stripped k r) ps i up at))

  module _ (i : ℕ) (new : PointIn ps r.key (Err i)) where
    pub put_where_new : gone (strip k r.object) ≡ false → insert_at ps i (stripped k r) ≡ put k ps r
    unfolding put
    put_where_new g = sym (ap (λ (b : Bool). if b then without r.key ps else place stored_before (stripped k r) ps) g ∙ place_before (stripped k r) ps i new)

    pub put_nothing : gone (strip k r.object) ≡ true → ps ≡ put k ps r
    unfolding put
    put_nothing g = sym (ap (λ (b : Bool). if b then without r.key ps else place stored_before (stripped k r) ps) g ∙ without_before r.key ps i new)

    -- a place that is needed is there
    pub place_left : gone (strip k r.object) ≡ false → length (put k ps r) ≤ most_points → length ps < most_points
    place_left g few = omega (arith, few, new.0, ap length (put_where_new g), one_more)
      where
        one_more : length (insert_at ps i (stripped k r)) ≡ length ps + 1
        one_more = simp (length-append, length-take, length-drop) (omega (arith, new.0))

-- ---- what the search says of the stored points

module _ (img : List ℕ) (small : Bytes img) (size : length img ≡ image_length) (canonical : Canonical img) (n : ℕ) (count : n ≡ length (decode img).points) (key : Key) (f : Result ℕ ℕ) (found : PointIn (upto n (point_at img)) key f) where
  pub found_is : (g : Result ℕ ℕ) → f ≡ g → PointIn (decode img).points key g
  found_is g q = subst (PointIn (decode img).points key) q (subst (λ (qs : List Stored). PointIn qs key f) (points_listed img small size canonical n count) found)

  pub result_found : (b : List ℕ) → key ≡ (decode_point form_1 b).key → (g : Result ℕ ℕ) → f ≡ g → PointIn (decode img).points (decode_stored form_1 b).key g
  unfolding decode_stored
  result_found b is g q = subst (λ (x : Key). PointIn (decode img).points x g) is (found_is g q)

pub same_gone : (k : Clock) (b : List ℕ) {g : Bool} → g ≡ gone (strip k (decode_point form_1 b).object) → g ≡ gone (strip k (decode_stored form_1 b).object)
unfolding decode_stored
same_gone k b e = e
