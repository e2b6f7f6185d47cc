-- A record stripped in its block is the record stripped. Assumes nothing.
use Rattle.std.specs.Prelude.{if◌then◌else◌}
use Prim.Native.Nat.{ℕ, ◌+◌, ◌*◌, ◌-◌, ◌^◌, ◌≤◌, ◌<◌}
use mathlib.Core.Path.{◌≡◌, refl, ap, ap₂, sym, ◌∙◌, subst}
use mathlib.Core.Bool.{Bool, true, false}
use mathlib.Core.List.{List, [], ◌∷◌, ◌++◌}
use native.Mathlib.Omega.{arith}
use lib.ListN.{length, take, drop, get_or, length-take}
use lib.Seq.{take_at, drop_at}
use lib.Dec.{leb}
use Rattle.numbers.specs.declared.Controller.{Controller}
use Rattle.numbers.specs.declared.Counter.{Counter}
use Rattle.numbers.specs.Numbers.{counter, each, controllers, Crew}
use Rattle.numbers.proofs.Tests.{by_test, ◌∈◌}
use Rattle.numbers.proofs.Lists.{in_map}
use Rattle.numbers.proofs.Controllers.{in_crew}
use Rattle.block.specs.Fields.{put_at, remove_at, field}
use Rattle.block.specs.Check.{seal}
use Rattle.block.specs.Block.{block_at, Laid}
use Rattle.block.proofs.Numbers.{Bytes, bytes_cut}
use Rattle.block.proofs.Parts.{part_is, splice_length}
use Rattle.block.proofs.Arrays.{get_or_in}
use Rattle.block.proofs.Places.{place_here}
use Rattle.meaning.specs.Clock.{Clock, row}
use Rattle.meaning.specs.Context.{Context, entry, strip_context}
use Rattle.meaning.specs.Object.{strip, gone}
use Rattle.meaning.specs.State.{Stored, State}
use Rattle.meaning.specs.Settle.{stripped}
use Rattle.layout.specs.PointBlock.{form_1, unsent, encode_stored, decode_point}
use Rattle.layout.specs.Image.{image_length, decode}
use Rattle.layout.proofs.ImageBack.{StoredSized, stored_length}
use Rattle.record_edits.specs.Written.{Written, lay_point, point_block, with_object}
use Rattle.record_edits.proofs.Edits.{stored_says, count_is, few_versions}
use Rattle.image.specs.Places.{no_point}
use Rattle.image_edits.specs.Edits.{Canonical, with_points}
use Rattle.image_edits.proofs.Blocks.{image_decoded, canonical_blocks}
use Rattle.image_edits.proofs.Moved.{Put}
use Rattle.store.specs.Restored.{restored}
use Rattle.image_edits.proofs.Lifting.{part_sealed, point_lifted}

-- what is stripped is within its sizes still
strip_sized : (k : Clock) (p : Stored) → StoredSized p → StoredSized (stripped k p)
unfolding strip strip_context
strip_sized k p S = record {
  sender = S.sender;
  job = S.job;
  point = S.point;
  few = S.few;
  context = record { eight = refl; small = small };
  versions = S.versions;
}
  where
    c : Context
    c = p.object.context

    small : (e : Counter) → e ∈ each (λ n. if leb (entry p.object.context n).0 (row k n).base then counter 0 else entry p.object.context n) → e.0 < 256 ^ 4
    small e m =
        let q = in_map (λ n. if leb (entry p.object.context n).0 (row k n).base then counter 0 else entry p.object.context n) controllers m in
        subst (λ (x : Counter). x.0 < 256 ^ 4) (sym q.2) (one q.0 (in_crew q.0 q.1))
      where
        one : (n : Controller) → Crew n → (if leb (entry p.object.context n).0 (row k n).base then counter 0 else entry p.object.context n).0 < 256 ^ 4
        one n crew =
            by_test (leb (entry c n).0 (row k n).base) (λ t. rw t (omega arith)) (λ t. rw t (S.context.small (entry c n) (get_or_in c (n.0 - 1) (counter 0) (omega (arith, crew.0, crew.1, S.context.eight)))))

module _ (img : List ℕ) (bytes : Bytes img) (size : length img ≡ image_length) (canonical : Canonical img) (i : ℕ) (inside : i < length (decode img).points) where
  p : Stored
  p = get_or (decode img).points i no_point

  sized : StoredSized (get_or (decode img).points i no_point)
  sized = (image_decoded img bytes size).points (get_or (decode img).points i no_point) (get_or_in (decode img).points i no_point inside)

  few : length (decode img).points ≤ 64
  few = (image_decoded img bytes size).few

  abbrev lent : List ℕ
  lent = take (512 * (3 + i) + 512 - 512 * (3 + i)) (drop (512 * (3 + i)) img)

  lent_is : lent ≡ encode_stored form_1 (3 + i) (get_or (decode img).points i no_point)
  lent_is = part_is img (512 * (3 + i)) 512 ∙ (unfold block_at in ((canonical_blocks img bytes size canonical).stored i inside))

  pub says : (point_block lent ≡ record { kind = 3; position = 3 + i; point = unsent (get_or (decode img).points i no_point) }) × Laid lay_point point_block lent
  says = stored_says (3 + i) (get_or (decode img).points i no_point) lent (omega (arith, few)) sized (ap length lent_is ∙ stored_length (3 + i) (get_or (decode img).points i no_point) sized) lent_is

  pub record_laid : Laid lay_point point_block (take (512 * (3 + i) + 512 - 512 * (3 + i)) (drop (512 * (3 + i)) img))
  record_laid = says.1

  pub record_size : length (take (512 * (3 + i) + 512 - 512 * (3 + i)) (drop (512 * (3 + i)) img)) ≡ 512
  record_size = ap length lent_is ∙ stored_length (3 + i) (get_or (decode img).points i no_point) sized

  pub record_stripped : (k : Clock) (x y b c : List ℕ) → length b ≡ 512 → (point_block b ≡ with_object (point_block lent) (strip k (decode_point form_1 lent).object)) × Laid lay_point point_block b
      → x ≡ take (512 * (3 + i)) img ++ (b ++ drop (512 * (3 + i) + 512 - 512 * (3 + i)) (drop (512 * (3 + i)) img))
      → c ≡ seal (take 508 (take (512 * (3 + i) + 512 - 512 * (3 + i)) (drop (512 * (3 + i)) x)))
      → y ≡ take (512 * (3 + i)) x ++ (c ++ drop (512 * (3 + i) + 512 - 512 * (3 + i)) (drop (512 * (3 + i)) x))
      → (decode y ≡ with_points (decode img) (put_at (decode img).points i (stripped k (get_or (decode img).points i no_point)))) × Canonical y
  record_stripped k x y b c ok edit d e f =
      point_lifted img bytes size canonical y i q inside (strip_sized k (get_or (decode img).points i no_point) sized)
      (subst (Put img y (3 + i)) as_stored (part_sealed lay_point point_block img x y (3 + i) b c (record { kind = 3; position = 3 + i; point = unsent q }) (omega (arith, size, few)) ok out_size (edit.0 ∙ there, edit.1) d e f))
    where
      q : Stored
      q = stripped k (get_or (decode img).points i no_point)

      as_stored : lay_point (record { kind = 3; position = 3 + i; point = unsent q }) ≡ encode_stored form_1 (3 + i) q
      as_stored = unfold encode_stored in refl

      there : with_object (point_block lent) (strip k (decode_point form_1 lent).object) ≡ record { kind = 3; position = 3 + i; point = unsent q }
      there = ap (λ (w : Written). with_object w (strip k w.point.object)) says.0

      out_size : length (lay_point (record { kind = 3; position = 3 + i; point = unsent q })) ≡ 512
      out_size = ap length as_stored ∙ stored_length (3 + i) q (strip_sized k (get_or (decode img).points i no_point) sized)

-- ---- and where it is gone it goes

module _ (img x : List ℕ) (bytes : Bytes img) (size : length img ≡ image_length) (i : ℕ) (k : Clock) (inside : i < length (decode img).points)
    (small : Bytes x) (long : length x ≡ image_length) (strips : (decode x ≡ with_points (decode img) (put_at (decode img).points i (stripped k (get_or (decode img).points i no_point)))) × Canonical x) where
  abbrev ps : List Stored
  ps = (decode img).points

  abbrev r : Stored
  r = get_or ps i no_point

  points_now : (decode x).points ≡ put_at (decode img).points i (stripped k (get_or (decode img).points i no_point))
  points_now = ap (λ (s : State). s.points) strips.0

  pub count_now : length (decode x).points ≡ length (decode img).points
  count_now = ap length points_now ∙ splice_length ps i 1 (stripped k r ∷ []) (omega arith) refl

  pub inside_now : i < length (decode x).points
  inside_now = omega (arith, count_now)

  there : get_or (decode x).points i no_point ≡ stripped k (get_or (decode img).points i no_point)
  there = ap (λ (qs : List Stored). get_or qs i no_point) points_now ∙ place_here ps i no_point (omega arith) 1 (stripped k r) []

  abbrev now_lent : List ℕ
  now_lent = take (512 * (3 + i) + 512 - 512 * (3 + i)) (drop (512 * (3 + i)) x)

  now_says : (point_block now_lent ≡ record { kind = 3; position = 3 + i; point = unsent (get_or (decode x).points i no_point) }) × Laid lay_point point_block now_lent
  now_says = says x small long strips.1 i inside_now

  lent_bytes : Bytes now_lent
  lent_bytes = subst Bytes (sym (part_is x (512 * (3 + i)) 512)) (bytes_cut x (512 * (3 + i)) 512 small)

  pub lent_long : length (take (512 * (3 + i) + 512 - 512 * (3 + i)) (drop (512 * (3 + i)) x)) ≡ 512
  lent_long = record_size x small long strips.1 i inside_now

  pub lent_few : field (take (512 * (3 + i) + 512 - 512 * (3 + i)) (drop (512 * (3 + i)) x)) 5 1 ≤ 8
  lent_few = omega (arith, count_is now_lent lent_bytes lent_long now_says.1, few_versions now_lent lent_bytes lent_long now_says.1)

  module _ (g : Bool) (test : g ≡ gone (decode_point form_1 (take (512 * (3 + i) + 512 - 512 * (3 + i)) (drop (512 * (3 + i)) x))).object) where
    pub gone_is : g ≡ gone (strip k (get_or (decode img).points i no_point).object)
    gone_is = test ∙ ap (λ (w : Written). gone w.point.object) now_says.0 ∙ ap (λ (q : Stored). gone q.object) there

    pub stays : g ≡ false → (decode x ≡ with_points (decode img) (restored k (decode img).points i)) × Canonical x
    stays f = (strips.0 ∙ ap (with_points (decode img)) (sym (ap (λ (b : Bool). if b then remove_at ps i else put_at ps i (stripped k r)) (sym gone_is ∙ f))), strips.1)

    pub goes : g ≡ true → (y : List ℕ) → (decode y ≡ with_points (decode x) (remove_at (decode x).points i)) × Canonical y → (decode y ≡ with_points (decode img) (restored k (decode img).points i)) × Canonical y
    goes t y c = (
      c.0 ∙ ap₂ (λ (s : State) (qs : List Stored). with_points s (remove_at qs i)) strips.0 points_now
          ∙ ap (with_points (decode img)) (removed ∙ sym (ap (λ (b : Bool). if b then remove_at ps i else put_at ps i (stripped k r)) (sym gone_is ∙ t))),
      c.1,
    )
      where
        front : length (take i ps) ≡ i
        front = length-take i ps ∙ omega arith

        removed : remove_at (put_at (decode img).points i (stripped k (get_or (decode img).points i no_point))) i ≡ remove_at (decode img).points i
        removed = ap₂ (λ (u v : List Stored). u ++ drop 1 v) (take_at (take i ps) (stripped k r ∷ drop 1 (drop i ps)) i front) (drop_at (take i ps) (stripped k r ∷ drop 1 (drop i ps)) i front)
