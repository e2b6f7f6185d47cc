-- The records of a lent image, asked for a message's dots (AtHome). Assumes nothing.
use Prim.Native.Nat.{ℕ, ◌+◌, ◌*◌, ◌-◌, ◌≤◌, ◌<◌}
use mathlib.Core.Path.{◌≡◌, refl, ap, sym, ◌∙◌, subst}
use mathlib.Core.Bool.{Bool, true, not}
use mathlib.Core.List.{List}
use native.Mathlib.Omega.{arith}
use lib.ListN.{length, take, drop, get_or}
use Rattle.numbers.specs.declared.Dot.{Dot}
use Rattle.numbers.specs.declared.Key.{Key}
use Rattle.numbers.specs.Words.{some?, ascends?}
use Rattle.numbers.proofs.Tests.{◌∈◌}
use Rattle.block.specs.Fields.{field, upto}
use Rattle.block.proofs.Numbers.{Bytes}
use Rattle.block.proofs.Arrays.{get_or_in, upto_at, upto_length}
use Rattle.meaning.specs.Object.{same_contents, Version, version_before, has_dot}
use Rattle.meaning.specs.State.{Stored}
use Rattle.layout.specs.PointBlock.{form_1, decode_point}
use Rattle.layout.specs.Image.{image_length, decode, good_image}
use Rattle.apart.specs.Apart.{point_of}
use Rattle.image.specs.Parts.{Few}
use Rattle.image.specs.Places.{no_point, PointIn}
use Rattle.block.proofs.Runs.{block_part}
use Rattle.object.specs.Versions.{no_version, VersionIn}
use Rattle.record.proofs.Reading.{version_at, versions_are}
use Rattle.record_edits.specs.Written.{Written}
use Rattle.image.proofs.Loops.{points_behind}
use Rattle.store.proofs.Lent.{good_now, good_canonical}
use Rattle.store.proofs.Stripped.{says}
use Rattle.store.proofs.Record.{record_none, lent_few}
use Rattle.checking.specs.Points.{record_clashes, stored_somewhere, clashes_beside}
use Rattle.checking.proofs.Looking.{records_read}
use Rattle.checking.proofs.AtHome.{of_none, of_record, found_here, not_here}
use Rattle.std.specs.Prelude.{ℕ, Result, Ok, Err}

-- ---- the records as they are lent

-- each counts few versions
pub records_few : (img : List ℕ) → Bytes img → length img ≡ image_length → good_image img ≡ true → (n : ℕ) → n ≡ length (decode img).points → Few img n
records_few img small size good n r i l =
    subst (λ (b : List ℕ). field b 5 1 ≤ 8) (block_part img (3 + i)) (lent_few img small size good (get_or (decode img).points i no_point).key i (omega (arith, r), refl))

pub somewhere : (img : List ℕ) (n : ℕ) (d : Dot) (r : Bool) → n ≡ length (decode img).points
    → r ≡ some? (λ p. has_dot p.object.versions d) (upto n (point_of (take (length img - 1536) (drop 1536 img)))) → r ≡ stored_somewhere (decode img).points d
somewhere img n d r e q = q ∙ ap (λ (ps : List Stored). stored_somewhere ps d) (points_behind img n ∙ sym (records_read img n e))

-- ---- a version v of the message, and the block p of its point's record; d is the version's dot as it was read, and f what the search for d answered
module _ (ps : List Stored) (p : List ℕ) (few : field p 5 1 ≤ 8) (v : Version) (d : Dot) (is : d ≡ v.dot) (f : Result ℕ ℕ) (looked : VersionIn (decode_point form_1 p).object.versions d f) (i : ℕ) where
  abbrev ws : List Version
  ws = (decode_point form_1 p).object.versions

  place_is : (g : Result ℕ ℕ) → f ≡ g → VersionIn (decode_point form_1 p).object.versions v.dot g
  place_is g e = subst (λ (x : Dot). VersionIn ws x g) is (subst (VersionIn ws d) e looked)

  module _ (e : f ≡ Ok i) where
    pub slot_inside : i < field p 5 1
    slot_inside = omega (arith, (place_is (Ok i) e).0, ap length (versions_are p few), upto_length (field p 5 1) (version_at p))

    slot_is : get_or (decode_point form_1 p).object.versions i no_version ≡ version_at p i
    slot_is = ap (λ (l : List Version). get_or l i no_version) (versions_are p few) ∙ upto_at (field p 5 1) (version_at p) no_version i slot_inside

    pub slot_dot : v.dot ≡ (version_at p i).dot
    slot_dot = sym (place_is (Ok i) e).1 ∙ ap (λ (w : Version). w.dot) slot_is

    pub slot_settles : ascends? version_before (decode_point form_1 p).object.versions ≡ true → (r : Bool) → r ≡ not (same_contents v.contents (version_at p i).contents)
        → r ≡ clashes_beside ps (decode_point form_1 p).object.versions v
    slot_settles up r q = q ∙ sym (ap (λ (w : Version). not (same_contents v.contents w.contents)) slot_is) ∙ found_here ps ws v i up (place_is (Ok i) e)

  pub others_settle : f ≡ Err i → (r : Bool) → r ≡ stored_somewhere ps d → r ≡ clashes_beside ps (decode_point form_1 p).object.versions v
  others_settle e r q = q ∙ ap (stored_somewhere ps) is ∙ not_here ps ws v i (place_is (Err i) e)

-- ---- the record of the point k as it is lent, or none

module _ (img : List ℕ) (small : Bytes img) (size : length img ≡ image_length) (good : good_image img ≡ true) (k : Key) (i : ℕ) where
  abbrev lent : List ℕ
  lent = take (512 * (3 + i) + 512 - 512 * (3 + i)) (drop (512 * (3 + i)) img)

  module _ (at : PointIn (decode img).points k (Ok i)) where
    abbrev q : Stored
    q = get_or (decode img).points i no_point

    there : q ∈ (decode img).points
    there = get_or_in (decode img).points i no_point at.0

    home_versions : (decode_point form_1 lent).object.versions ≡ q.object.versions
    home_versions = ap (λ (w : Written). w.point.object.versions) (says img small size (good_canonical img good) i at.0).0

    pub home_ascends : ascends? version_before (decode_point form_1 (take (512 * (3 + i) + 512 - 512 * (3 + i)) (drop (512 * (3 + i)) img))).object.versions ≡ true
    home_ascends = ap (ascends? version_before) home_versions ∙ ((good_now img good).points q there).formed.versions.ascend

    pub known_clash : (vs : List Version) (r : Bool) → r ≡ some? (clashes_beside (decode img).points (decode_point form_1 (take (512 * (3 + i) + 512 - 512 * (3 + i)) (drop (512 * (3 + i)) img))).object.versions) vs
        → r ≡ some? (λ p. some? (record_clashes k p) vs) (decode img).points
    known_clash vs r e = e ∙ ap (λ (l : List Version). some? (clashes_beside (decode img).points l) vs) home_versions ∙ of_record (decode img) (good_now img good) k q there at.1 vs

  pub new_clash : PointIn (decode img).points k (Err i) → (vs : List Version) (r : Bool) → r ≡ some? (λ v. stored_somewhere (decode img).points v.dot) vs → r ≡ some? (λ p. some? (record_clashes k p) vs) (decode img).points
  new_clash new vs r e = e ∙ of_none k (decode img).points vs (record_none k (decode img).points i new)
