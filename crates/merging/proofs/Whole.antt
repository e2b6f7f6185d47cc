-- The three passes of a merge in place, one after the other. Assumes nothing.
use Prim.Native.Nat.{ℕ, ◌+◌, ◌≤◌}
use mathlib.Core.Path.{◌≡◌, refl, ap, ap₂, sym, ◌∙◌, subst}
use mathlib.Core.Bool.{true}
use mathlib.Core.List.{List}
use lib.ListN.{length}
use Rattle.numbers.specs.Words.{ascends?, place_all, map}
use Rattle.numbers.specs.Numbers.{counter}
use Rattle.numbers.proofs.Orders.{keep_ascends}
use Rattle.block.specs.Block.{Laid}
use Rattle.meaning.specs.Context.{Context, higher}
use Rattle.meaning.specs.Object.{Version, version_before, survivors, merge}
use Rattle.layout.specs.PointBlock.{form_1, decode_point}
use Rattle.record_edits.specs.Written.{Written, lay_point, point_block, with_object, with_versions}
use Rattle.merging.specs.Merging.{theirs, arriving, agreeing, with_context}
use Rattle.merging.proofs.Merged.{merged_versions}

-- x is the block b without the versions that go
module _ (b m there : List ℕ) (x : List ℕ) (r : point_block x ≡ with_versions (point_block b) (survivors (decode_point form_1 b).object (theirs m there))) where
  abbrev stay : List Version
  stay = survivors (decode_point form_1 b).object (theirs m there)

  left : (decode_point form_1 x).object.versions ≡ survivors (decode_point form_1 b).object (theirs m there)
  left = ap (λ (w : Written). w.point.object.versions) r

  pub left_ascend : ascends? version_before (decode_point form_1 b).object.versions ≡ true → ascends? version_before (decode_point form_1 x).object.versions ≡ true
  unfolding survivors
  left_ascend t = ap (ascends? version_before) left ∙ keep_ascends version_before _ (decode_point form_1 b).object.versions t

  pub left_room : (n : ℕ) → length (survivors (decode_point form_1 b).object (theirs m there)) + n ≤ 8 → length (decode_point form_1 x).object.versions + n ≤ 8
  left_room n l = subst (λ (vs : List Version). length vs + n ≤ 8) (sym left) l

  -- y is that with those that arrive, and z with the higher context
  pub whole : (here y z : List ℕ) → (decode_point form_1 b).object.context ≡ map counter here
      → ascends? version_before (decode_point form_1 b).object.versions ≡ true → ascends? version_before (decode_point form_1 m).object.versions ≡ true
      → agreeing (decode_point form_1 b).object.versions (decode_point form_1 m).object.versions ≡ true
      → point_block y ≡ with_versions (point_block x) (place_all version_before (arriving (map counter here) (decode_point form_1 m).object.versions) (decode_point form_1 x).object.versions)
      → (point_block z ≡ with_context (point_block y) (higher (decode_point form_1 y).object.context (map counter there))) × Laid lay_point point_block z
      → (point_block z ≡ with_object (point_block b) (merge (decode_point form_1 b).object (theirs m there))) × Laid lay_point point_block z
  whole here y z e A M same s t = (
    t.0 ∙ ap (λ (w : Written). with_context w (higher w.point.object.context (map counter there))) y_is ∙ (unfold merge in refl),
    t.1,
  )
    where
      y_is : point_block y ≡ with_versions (point_block b) (merge (decode_point form_1 b).object (theirs m there)).versions
      y_is =
          s ∙ ap₂ (λ (w : Written) (l : List Version). with_versions w (place_all version_before (arriving (map counter here) (decode_point form_1 m).object.versions) l)) r left
          ∙ ap (with_versions (point_block b))
          (ap (λ (c : Context). place_all version_before (arriving c (decode_point form_1 m).object.versions) stay) (sym e) ∙ merged_versions (decode_point form_1 b).object (theirs m there) A M same)
