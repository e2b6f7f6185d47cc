-- What a search among a point's versions has shown, and what the place that it found says of them: where a version goes. Assumes nothing.
use Prim.Native.Nat.{ℕ, ◌+◌, ◌≤◌, ◌<◌}
use mathlib.Core.Path.{◌≡◌, ap, ap₂, sym, ◌∙◌, subst}
use mathlib.Core.Bool.{true, false}
use mathlib.Core.List.{List, ◌∷◌, ◌++◌}
use native.Mathlib.Omega.{arith}
use lib.ListN.{length, take, drop, get_or, length-append, length-take, length-drop}
use lib.Seq.{take_at, drop_at}
use Rattle.numbers.specs.declared.Dot.{Dot}
use Rattle.numbers.specs.Words.{ascends?, place}
use Rattle.numbers.specs.Dot.{dot_before}
use Rattle.numbers.proofs.Dots.{tied_dots, dot_order}
use Rattle.block.specs.Fields.{insert_at, remove_at, field}
use Rattle.block.specs.Block.{Laid}
use Rattle.block.proofs.Arrays.{upto_at, upto_length}
use Rattle.block.proofs.ByIndex.{Pairs, upto_ascends}
use Rattle.block.proofs.Search.{Between, nowhere}
use Rattle.block.proofs.Placed.{place_between, place_instead}
use Rattle.meaning.specs.Object.{Version, version_before}
use Rattle.layout.specs.PointBlock.{form_1, decode_point}
use Rattle.record_edits.specs.Written.{Written, lay_point, point_block, with_versions}
use Rattle.record.proofs.Reading.{version_at, versions_are}
use Rattle.object.specs.Versions.{no_version, VersionIn}
use Rattle.std.specs.Prelude.{ℕ, Result, Ok, Err}

module _ (b : List ℕ) (few : field b 5 1 ≤ 8) (d : Dot) where
  pub version_pairs : ascends? version_before (decode_point form_1 b).object.versions ≡ true → Pairs version_before (field b 5 1) (version_at b)
  version_pairs t = upto_ascends version_before (field b 5 1) (version_at b) (ap (ascends? version_before) (sym (versions_are b few)) ∙ t)

  -- f is the dot of the i-th as it was read
  pub version_found : (i : ℕ) → i < field b 5 1 → {f : Dot} → f ≡ (version_at b i).dot → dot_before f d ≡ false → dot_before d f ≡ false → VersionIn (decode_point form_1 b).object.versions d (Ok i)
  version_found i l {f} q u v = (
    omega (arith, ap length (versions_are b few), upto_length (field b 5 1) (version_at b)),
    ap (λ (vs : List Version). (get_or vs i no_version).dot) (versions_are b few) ∙ ap (λ (x : Version). x.dot) (upto_at (field b 5 1) (version_at b) no_version i l) ∙ sym q ∙ tied_dots f d (u, v),
  )

  pub version_nowhere : {low high : ℕ} → Between dot_before (field b 5 1) (λ j. (version_at b j).dot) d low high → high ≤ low → VersionIn (decode_point form_1 b).object.versions d (Err low)
  version_nowhere {low} s h =
      subst (λ (vs : List Version). VersionIn vs d (Err low)) (sym (versions_are b few)) (nowhere (λ v. v.dot) dot_before (field b 5 1) (version_at b) s h)

-- ---- a version at its place

pub placed_before : (v : Version) (vs : List Version) (i : ℕ) → VersionIn vs v.dot (Err i) → insert_at vs i v ≡ place version_before v vs
placed_before v vs i h = sym (place_between (λ x. x.dot) dot_before dot_order v vs i h.1 h.2)

-- the one of its dot goes first
pub placed_instead : (v : Version) (vs : List Version) (i : ℕ) → ascends? version_before vs ≡ true → VersionIn vs v.dot (Ok i) → insert_at (remove_at vs i) i v ≡ place version_before v vs
placed_instead v vs i up h =
    ap₂ (λ (l r : List Version). l ++ (v ∷ r)) (take_at (take i vs) (drop 1 (drop i vs)) i size) (drop_at (take i vs) (drop 1 (drop i vs)) i size)
    ∙ sym (place_instead (λ x. x.dot) dot_before dot_order v vs no_version i up h.0 h.1)
  where
    size : length (take i vs) ≡ i
    size = length-take i vs ∙ omega (arith, h.0)

-- ---- in a block: v is the version to be put, d its dot as it was read, and f what the search for d answered

module _ (b : List ℕ) (v : Version) {d : Dot} (q : d ≡ v.dot) (f : Result ℕ ℕ) (found : VersionIn (decode_point form_1 b).object.versions d f) (i : ℕ) where
  abbrev vs : List Version
  vs = (decode_point form_1 b).object.versions

  here : VersionIn vs v.dot f
  here = subst (λ (e : Dot). VersionIn vs e f) q found

  -- there is one of the dot
  module _ (p : f ≡ Ok i) where
    at : VersionIn vs v.dot (Ok i)
    at = subst (VersionIn vs v.dot) p here

    pub put_inside : i < length (decode_point form_1 b).object.versions
    put_inside = at.0

    -- y is the block without it
    module _ (y : List ℕ) (r : point_block y ≡ with_versions (point_block b) (remove_at (decode_point form_1 b).object.versions i)) where
      left : (decode_point form_1 y).object.versions ≡ remove_at vs i
      left = ap (λ (w : Written). w.point.object.versions) r

      pub one_less : length (decode_point form_1 y).object.versions + 1 ≡ length (decode_point form_1 b).object.versions
      one_less = ap (λ (l : List Version). length l + 1) left ∙ simp (length-append, length-take, length-drop) (omega (arith, put_inside))

      pub put_instead : (x : List ℕ) → ascends? version_before (decode_point form_1 b).object.versions ≡ true
          → (point_block x ≡ with_versions (point_block y) (insert_at (decode_point form_1 y).object.versions i v)) × Laid lay_point point_block x
          → (point_block x ≡ with_versions (point_block b) (place version_before v (decode_point form_1 b).object.versions)) × Laid lay_point point_block x
      put_instead x up s = (
        s.0 ∙ ap₂ (λ (w : Written) (l : List Version). with_versions w (insert_at l i v)) r left ∙ ap (with_versions (point_block b)) (placed_instead v vs i up at),
        s.1,
      )

  -- there is none
  module _ (p : f ≡ Err i) where
    before : VersionIn vs v.dot (Err i)
    before = subst (VersionIn vs v.dot) p here

    pub put_between : i ≤ length (decode_point form_1 b).object.versions
    put_between = before.0

    pub put_before : (x : List ℕ)
        → (point_block x ≡ with_versions (point_block b) (insert_at (decode_point form_1 b).object.versions i v)) × Laid lay_point point_block x
        → (point_block x ≡ with_versions (point_block b) (place version_before v (decode_point form_1 b).object.versions)) × Laid lay_point point_block x
    put_before x s = (s.0 ∙ ap (with_versions (point_block b)) (placed_before v vs i before), s.1)
