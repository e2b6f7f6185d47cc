-- What is fetched of a point: its record where there is one, and the empty object where not. Assumes nothing.
use Prim.Native.Nat.{ℕ, ◌+◌, ◌*◌, ◌-◌, ◌^◌, ◌≤◌, ◌<◌}
use mathlib.Core.Path.{◌≡◌, refl, ap, ap₂, sym, ◌∙◌, subst}
use mathlib.Core.Bool.{true}
use mathlib.Core.List.Memᴰ
use mathlib.Core.List.{List, ◌++◌, append-nil}
use native.Mathlib.Omega.{arith}
use lib.ListN.{length, take, drop, get_or, drop_of_length-le}
use Rattle.numbers.specs.declared.Controller.{Controller}
use Rattle.numbers.specs.declared.Key.{Key}
use Rattle.numbers.specs.Words.{ascends?}
use Rattle.block.specs.Fields.{splice, upto}
use Rattle.block.specs.Block.{block_at, Laid}
use Rattle.block.proofs.Numbers.{Bytes}
use Rattle.block.proofs.Parts.{part_is}
use Rattle.block.proofs.Arrays.{get_or_in, upto_length}
use Rattle.meaning.specs.Object.{no_object}
use Rattle.meaning.specs.State.{Stored, stored_before, look_up}
use Rattle.layout.specs.PointBlock.{form_1, unsent, encode_point, encode_stored}
use Rattle.layout.specs.Image.{image_length, decode}
use Rattle.layout.proofs.ImageBack.{StoredSized, stored_length, Sized}
use Rattle.layout.proofs.PointBack.{point_block_length}
use Rattle.record_edits.specs.Written.{Written, lay_point, point_block, relabelled}
use Rattle.record_edits.proofs.Edits.{says_so, stored_says}
use Rattle.image.specs.Parts.{stored_count}
use Rattle.image.specs.Apart.{point_at}
use Rattle.image.specs.Places.{no_point, PointIn}
use Rattle.image_edits.specs.Edits.{Canonical}
use Rattle.image.proofs.Counted.{points_are}
use Rattle.image_edits.proofs.Blocks.{image_decoded, canonical_blocks, no_context_small}
use Rattle.image.proofs.Placing.{look_up_before, look_up_at}
use Rattle.std.specs.Prelude.{ℕ, Result, Ok, Err}

module _ (img : List ℕ) (small : Bytes img) (size : length img ≡ image_length) (canonical : Canonical img) (n : ℕ) (count : n ≡ length (decode img).points) where
  abbrev ps : List Stored
  ps = (decode img).points

  -- the points that the search goes over
  pub points_listed : upto n (point_at img) ≡ (decode img).points
  points_listed = ap (λ (m : ℕ). upto m (point_at img)) (count ∙ ap length (points_are img) ∙ upto_length (stored_count img) (point_at img)) ∙ sym (points_are img)

  pub search_ascends : ascends? stored_before (decode img).points ≡ true → ascends? stored_before (upto n (point_at img)) ≡ true
  search_ascends t = ap (ascends? stored_before) points_listed ∙ t

  pub search_few : n ≤ 64
  search_few = omega (arith, (image_decoded img small size).few)

  module _ (up : ascends? stored_before (decode img).points ≡ true) (k : Key) (kind : ℕ) (sender : Controller) (f : Result ℕ ℕ) (found : PointIn (upto n (point_at img)) k f) where
    in_points : PointIn (decode img).points k f
    in_points = subst (λ (qs : List Stored). PointIn qs k f) points_listed found

    abbrev wanted : Written
    wanted = record { kind = kind; position = 0; point = record { sender = sender; key = k; object = look_up k ps } }

    -- there is a record
    module _ (i : ℕ) (q : f ≡ Ok i) where
      there : PointIn (decode img).points k (Ok i)
      there = subst (PointIn ps k) q in_points

      pub found_inside : i < length (decode img).points
      found_inside = there.0

      p : Stored
      p = get_or (decode img).points i no_point

      sized : StoredSized (get_or (decode img).points i no_point)
      sized = (image_decoded img small size).points (get_or ps i no_point) (get_or_in ps i no_point found_inside)

      block_is : take (512 * (3 + i) + 512 - 512 * (3 + i)) (drop (512 * (3 + i)) img) ≡ encode_stored form_1 (3 + i) (get_or (decode img).points i no_point)
      block_is = part_is img (512 * (3 + i)) 512 ∙ (unfold block_at in ((canonical_blocks img small size canonical).stored i found_inside))

      module _ (out x : List ℕ) (e : length out ≡ 512) (d : x ≡ splice out 0 (length (take (512 * (3 + i) + 512 - 512 * (3 + i)) (drop (512 * (3 + i)) img))) (take (512 * (3 + i) + 512 - 512 * (3 + i)) (drop (512 * (3 + i)) img))) where
        copied : x ≡ encode_stored form_1 (3 + i) (get_or (decode img).points i no_point)
        copied =
            d ∙ ap₂ (λ (m : ℕ) (b : List ℕ). splice out 0 m b) (ap length block_is ∙ stored_length (3 + i) (get_or ps i no_point) sized) block_is
            ∙ ap (λ (l : List ℕ). encode_stored form_1 (3 + i) (get_or ps i no_point) ++ l) (drop_of_length-le out {i = 512} (omega arith)) ∙ append-nil (encode_stored form_1 (3 + i) (get_or ps i no_point))

        says : (point_block x ≡ record { kind = 3; position = 3 + i; point = unsent (get_or (decode img).points i no_point) }) × Laid lay_point point_block x
        says = stored_says (3 + i) (get_or ps i no_point) x (omega (arith, found_inside, (image_decoded img small size).few)) sized (ap length copied ∙ stored_length (3 + i) (get_or ps i no_point) sized) copied

        pub copied_laid : Laid lay_point point_block x
        copied_laid = says.1

        pub fetched : (y : List ℕ) → (point_block y ≡ relabelled (point_block x) kind 0 sender) × Laid lay_point point_block y → (point_block y ≡ record { kind = kind; position = 0; point = record { sender = sender; key = k; object = look_up k (decode img).points } }) × Laid lay_point point_block y
        fetched y r = (
          r.0 ∙ ap (λ (w : Written). relabelled w kind 0 sender) says.0
              ∙ (λ j. record { kind = kind; position = 0; point = record { sender = sender; key = there.1 j; object = sym (look_up_at k ps i up there) j } }),
          r.1,
        )

    -- there is none
    pub fetched_none : (i : ℕ) → f ≡ Err i → (y : List ℕ) → kind < 256 → sender.0 < 256 → k.job < 256 → k.point.0 < 256 ^ 2
        → y ≡ encode_point form_1 kind 0 (record { sender = sender; key = k; object = no_object })
        → (point_block y ≡ record { kind = kind; position = 0; point = record { sender = sender; key = k; object = look_up k (decode img).points } }) × Laid lay_point point_block y
    fetched_none i q y hk hs hj hp e =
        (now_says.0 ∙ (λ j. record { kind = kind; position = 0; point = record { sender = sender; key = k; object = sym (look_up_before k ps i (subst (PointIn ps k) q in_points)) j } }), now_says.1)
      where
        empty : Written
        empty = record { kind = kind; position = 0; point = record { sender = sender; key = k; object = no_object } }

        S : Rattle.record_edits.proofs.Edits.Sized empty
        S = record {
          kind = hk;
          position = omega arith;
          point = record {
            sender = hs;
            job = hj;
            point = hp;
            few = omega arith;
            context = record { eight = refl; small = no_context_small };
            versions = λ v m. absurd (Memᴰ.not-nil m);
          };
        }

        now_says : (point_block y ≡ empty) × Laid lay_point point_block y
        now_says = says_so empty S y (ap length e ∙ point_block_length form_1 (omega arith) kind 0 empty.point S.point) e
