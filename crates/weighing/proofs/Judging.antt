-- Rows 12 and 13 of the table, judged on the lent image. Assumes nothing.
use Rattle.std.specs.Prelude.{if◌then◌else◌, Ok, Err}
use Prim.Native.Nat.{ℕ, ◌+◌, ◌-◌, ◌*◌, ◌≤◌, ◌<◌}
use mathlib.Core.Path.{◌≡◌, refl, ap, ap₂, sym, ◌∙◌, subst}
use mathlib.Core.Bool.{Bool, true, false, ◌&&◌, ◌||◌, not}
use mathlib.Core.List.{List, [], ◌∷◌}
use native.Mathlib.Omega.{arith}
use lib.ListN.{length, take, drop, get_or, length-append, length-take, length-drop}
use lib.Dec.{ltb}
use borrow.Author.Tests.{le-ltb, lt-ltb}
use Rattle.numbers.specs.declared.Key.{Key}
use Rattle.numbers.specs.Words.{keep, map, place, ascends?}
use Rattle.numbers.specs.Numbers.{counter}
use Rattle.numbers.specs.Key.{same_key}
use Rattle.numbers.proofs.Tests.{by_test}
use Rattle.numbers.proofs.Orders.{keep_length, place_length}
use Rattle.block.specs.Fields.{field, put_at, insert_at, remove_at}
use Rattle.block.specs.Block.{Laid}
use Rattle.block.proofs.Numbers.{Bytes, bytes_cut}
use Rattle.block.proofs.Parts.{part_is, splice_length}
use Rattle.meaning.specs.Clock.{Clock}
use Rattle.meaning.specs.Context.{Context, covers}
use Rattle.meaning.specs.Object.{Version, version_before, Object, no_object, has_dot, fill, strip, survivors, merge, gone}
use Rattle.meaning.specs.State.{Stored, stored_before, State, look_up, local}
use Rattle.meaning.specs.Message.{most_versions}
use Rattle.meaning.specs.Settle.{stripped, without, put}
use Rattle.layout.specs.PointBlock.{form_1, decode_point}
use Rattle.layout.specs.Image.{image_length, decode, good_image}
use Rattle.record_edits.specs.Written.{lay_point, point_block}
use Rattle.record_edits.proofs.Edits.{count_is, few_versions}
use Rattle.image.specs.Places.{no_point, PointIn}
use Rattle.store.specs.HasRecord.{has_record}
use Rattle.store.specs.Restored.{restored}
use Rattle.store.proofs.Resulting.{put_where_stored, put_where_new, put_nothing}
use Rattle.store.proofs.Lent.{good_now, good_ascends, good_canonical}
use Rattle.store.proofs.Stripped.{record_laid}
use Rattle.store.proofs.Record.{record_there, record_none, look_up_none, found_object, lent_long}
use Rattle.merging.specs.Merging.{theirs, none_here, arriving, agreeing}
use Rattle.weighing.specs.Weighed.{key_in, Takable, result_of}
use Rattle.weighing.proofs.Takings.{local_ascend, agreed, count}

-- the local versions are those that are stored
pub local_versions : (s : State) (k : Key) → (local s k).versions ≡ (look_up k s.points).versions
unfolding local fill
local_versions s k = refl

-- what survives hangs on the versions, not on the context that goes with them
pub same_survivors : (a b m : Object) → a.versions ≡ b.versions → survivors a m ≡ survivors b m
unfolding survivors
same_survivors a b m e = ap (keep _) e

-- a message's block counts at most 8 versions
pub few_sent : (m : List ℕ) → Bytes m → length m ≡ 512 → Laid lay_point point_block m → field m 5 1 ≤ 8
few_sent m small size laid = omega (arith, count_is m small size laid, few_versions m small size laid)

-- ---- how many records there are

restored_length : (c : Clock) (ps : List Stored) (i : ℕ) → i < length ps → length (restored c ps i) ≤ length ps
restored_length c ps i l =
    by_test (gone (strip c (get_or ps i no_point).object))
    (λ t. omega (arith, ap (λ (b : Bool). length (if b then remove_at ps i else put_at ps i (stripped c (get_or ps i no_point)))) t, fewer))
    (λ t. omega (arith, ap (λ (b : Bool). length (if b then remove_at ps i else put_at ps i (stripped c (get_or ps i no_point)))) t, splice_length ps i 1 (stripped c (get_or ps i no_point) ∷ []) (omega arith) refl))
  where
    fewer : length (remove_at ps i) ≤ length ps
    fewer = simp (length-append, length-take, length-drop) (omega arith)

insert_length : (ps : List Stored) (i : ℕ) (r : Stored) → i ≤ length ps → length (insert_at ps i r) ≡ length ps + 1
insert_length ps i r l = simp (length-append, length-take, length-drop) (omega arith)

-- a result takes one place more at most
pub put_grows : (c : Clock) (ps : List Stored) (r : Stored) → length (put c ps r) ≤ length ps + 1
unfolding put without
put_grows c ps r =
    by_test (gone (strip c r.object))
    (λ t. omega (arith, ap (λ (b : Bool). length (if b then keep (λ p. not (same_key r.key p.key)) ps else place stored_before (stripped c r) ps)) t, keep_length stored_before (λ p. not (same_key r.key p.key)) ps))
    (λ t. omega (arith, ap (λ (b : Bool). length (if b then keep (λ p. not (same_key r.key p.key)) ps else place stored_before (stripped c r) ps)) t, place_length stored_before (stripped c r) ps))

module _ (img : List ℕ) (small : Bytes img) (size : length img ≡ image_length) (good : good_image img ≡ true) (m here there : List ℕ) (sent : Bytes m) (T : Takable (decode img) m here there) where
  abbrev s : State
  s = decode img

  abbrev k : Key
  k = key_in m

  abbrev o : Object
  o = theirs m there

  many : length (merge (local s k) o).versions ≡ length (survivors (local s k) o) + length (arriving (local s k).context o.versions)
  many = count (decode img) (good_now img good) k o T.5

  same_arriving : (n : ℕ) → n ≡ length (keep (λ v. not (covers (map counter here) v.dot)) (decode_point form_1 m).object.versions) → n ≡ length (arriving (local s k).context o.versions)
  same_arriving n e = e ∙ ap (λ (c : Context). length (keep (λ v. not (covers c v.dot)) (decode_point form_1 m).object.versions)) T.3

  few_arrive : length (arriving (local s k).context o.versions) ≤ 8
  few_arrive = omega (arith, keep_length version_before (λ v. not (covers (local s k).context v.dot)) o.versions, few_versions m sent T.0 T.1)

  -- ---- a record was found

  module _ (i : ℕ) (at : PointIn (decode img).points (key_in m) (Ok i)) where
    abbrev lent : List ℕ
    lent = take (512 * (3 + i) + 512 - 512 * (3 + i)) (drop (512 * (3 + i)) img)

    stored_versions : (decode_point form_1 lent).object.versions ≡ (local s k).versions
    stored_versions = ap (λ (x : Object). x.versions) (sym (found_object img small size good k i at)) ∙ sym (local_versions s k)

    pub many_found : (a b : ℕ) → a ≡ length (survivors (decode_point form_1 (take (512 * (3 + i) + 512 - 512 * (3 + i)) (drop (512 * (3 + i)) img))).object (theirs m there))
        → b ≡ length (keep (λ v. not (covers (map counter here) v.dot)) (decode_point form_1 m).object.versions) → ltb 8 (a + b) ≡ ltb most_versions (length (result_of (decode img) m there).object.versions)
    many_found a b p q =
        ap₂ (λ (x y : ℕ). ltb 8 (x + y)) (p ∙ ap length (same_survivors (decode_point form_1 lent).object (local s k) o stored_versions)) (same_arriving b q)
        ∙ ap (ltb 8) (sym many)

    -- both counts are small
    pub few_found : (a b : ℕ) → a ≡ length (survivors (decode_point form_1 (take (512 * (3 + i) + 512 - 512 * (3 + i)) (drop (512 * (3 + i)) img))).object (theirs m there))
        → b ≡ length (keep (λ v. not (covers (map counter here) v.dot)) (decode_point form_1 m).object.versions) → a + b ≤ 16
    unfolding survivors
    few_found a b p q =
        omega (
          arith,
          p,
          same_arriving b q,
          few_arrive,
          keep_length version_before (λ v. has_dot o.versions v.dot || not (covers o.context v.dot)) (decode_point form_1 lent).object.versions,
          ap length stored_versions,
          ap length (local_versions s k),
          few_stored,
        )
      where
        few_stored : length (look_up k (decode img).points).versions ≤ 8
        few_stored =
            subst (λ (x : Object). length x.versions ≤ 8) (sym (found_object img small size good k i at))
            (few_versions lent (subst Bytes (sym (part_is img (512 * (3 + i)) 512)) (bytes_cut img (512 * (3 + i)) 512 small)) (lent_long img small size good k i at) (record_laid img small size (good_canonical img good) i at.0))

    -- the result takes the record's place, or less
    pub has_its_place : (c : Clock) → false ≡ ltb (length (decode img).points) (length (put c (decode img).points (result_of (decode img) m there)))
    has_its_place c =
        sym (le-ltb (length (decode img).points) (length (put c (decode img).points r))
        (omega (arith, ap length (sym (put_where_stored c (decode img).points r i (good_ascends img good) at)), restored_length c (put_at (decode img).points i r) i (omega (arith, at.0, splice_length (decode img).points i 1 (r ∷ []) (omega (arith, at.0)) refl)), splice_length (decode img).points i 1 (r ∷ []) (omega (arith, at.0)) refl)))
      where
        r : Stored
        r = result_of (decode img) m there

    -- the result there
    pub merged_found : (c : Clock) (g : Bool) → g ≡ gone (strip c (merge (record { versions = (decode_point form_1 (take (512 * (3 + i) + 512 - 512 * (3 + i)) (drop (512 * (3 + i)) img))).object.versions; context = map counter here }) (theirs m there)))
        → g ≡ (has_record (key_in m) (decode img).points && gone (strip c (result_of (decode img) m there).object))
    merged_found c g e =
        e ∙ ap (λ (x : Object). gone (strip c (merge x o))) (λ j. record { versions = stored_versions j; context = T.3 j })
        ∙ ap (λ (b : Bool). b && gone (strip c (result_of (decode img) m there).object)) (sym (record_there (key_in m) (decode img).points i at))

    -- the record's versions may be merged with the message's
    pub found_ascend : ascends? version_before (decode_point form_1 (take (512 * (3 + i) + 512 - 512 * (3 + i)) (drop (512 * (3 + i)) img))).object.versions ≡ true
    found_ascend = ap (ascends? version_before) stored_versions ∙ local_ascend (decode img) (good_now img good) k o T.5

    pub found_agreed : agreeing (decode_point form_1 (take (512 * (3 + i) + 512 - 512 * (3 + i)) (drop (512 * (3 + i)) img))).object.versions (decode_point form_1 m).object.versions ≡ true
    found_agreed = ap (λ (vs : List Version). agreeing vs (decode_point form_1 m).object.versions) stored_versions ∙ agreed (decode img) (good_now img good) k o T.5

  -- ---- none was

  module _ (i : ℕ) (at : PointIn (decode img).points (key_in m) (Err i)) where
    none : has_record k (decode img).points ≡ false
    none = record_none k (decode img).points i at

    pub nothing_here : local (decode img) (key_in m) ≡ none_here here
    nothing_here = λ j. record { versions = versions j; context = sym T.3 j }
      where
        versions : (local s k).versions ≡ []
        versions = local_versions s k ∙ ap (λ (x : Object). x.versions) (look_up_none k (decode img).points none)

    pub none_goes : (c : Clock) → false ≡ (has_record (key_in m) (decode img).points && gone (strip c (result_of (decode img) m there).object))
    none_goes c = ap (λ (b : Bool). b && gone (strip c (result_of (decode img) m there).object)) (sym none)

    pub few_alone : false ≡ ltb most_versions (length (result_of (decode img) m there).object.versions)
    few_alone = sym (le-ltb 8 (length (merge (local s k) o).versions) (omega (arith, many, few_arrive, ap length alone)))
      where
        alone : survivors (local s k) o ≡ []
        alone = same_survivors (local s k) no_object o (ap (λ (x : Object). x.versions) nothing_here) ∙ (unfold survivors in refl)

    -- the result needs a place where it does not go
    module _ (c : Clock) (g : Bool) (e : g ≡ gone (strip c (merge (none_here here) (theirs m there)))) where
      goes_is : g ≡ gone (strip c (result_of (decode img) m there).object)
      goes_is = e ∙ ap (λ (x : Object). gone (strip c (merge x o))) (sym nothing_here)

      pub place_asked : not g ≡ ltb (length (decode img).points) (length (put c (decode img).points (result_of (decode img) m there)))
      place_asked =
          by_test g
          (λ t. ap not t ∙ sym (le-ltb (length (decode img).points) (length (put c (decode img).points (result_of (decode img) m there)))
          (omega (arith, ap length (put_nothing c (decode img).points (result_of (decode img) m there) i at (sym goes_is ∙ t))))))
          (λ t. ap not t ∙ sym (lt-ltb (length (decode img).points) (length (put c (decode img).points (result_of (decode img) m there)))
          (omega (arith, at.0, ap length (put_where_new c (decode img).points (result_of (decode img) m there) i at (sym goes_is ∙ t)), insert_length (decode img).points i (stripped c (result_of (decode img) m there)) at.0))))
