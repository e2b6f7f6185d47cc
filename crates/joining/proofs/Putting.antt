-- The result of a merge put where its record stands, or would. Assumes nothing.
use Prim.Native.Nat.{ℕ, ◌≤◌, ◌<◌, max}
use mathlib.Core.Path.{◌≡◌, refl, ap, ap₂, sym, ◌∙◌, subst}
use mathlib.Core.Bool.{Bool, true, false}
use mathlib.Core.List.{List, []}
use native.Mathlib.Omega.{arith}
use lib.ListN.{length, get_or}
use Rattle.numbers.specs.declared.Key.{Key}
use Rattle.numbers.specs.Words.{map, ascends?}
use Rattle.numbers.specs.Numbers.{counter}
use Rattle.numbers.proofs.Lists.{map_length}
use Rattle.numbers.proofs.Controllers.{each_same, each_entry}
use Rattle.block.specs.Fields.{put_at, insert_at}
use Rattle.block.proofs.Places.{place_here}
use Rattle.meaning.specs.CrewTable.{CrewTable}
use Rattle.meaning.specs.Clock.{Clock}
use Rattle.meaning.specs.Context.{Context, no_context, entry, fill_context, higher}
use Rattle.meaning.specs.Object.{Version, Object, no_object, fill, strip, merge, gone}
use Rattle.meaning.specs.State.{Stored, stored_before, State, look_up, local}
use Rattle.meaning.specs.Settle.{most_points, stripped, put}
use Rattle.laws.proofs.ContextLaws.{Within, same_counter, no_entry, fill_raises}
use Rattle.layout.specs.Image.{decode}
use Rattle.image.specs.Places.{no_point, PointIn}
use Rattle.image.proofs.Placing.{look_up_at}
use Rattle.image_edits.specs.Edits.{Canonical, with_points}
use Rattle.store.specs.Restored.{restored}
use Rattle.store.proofs.Resulting.{put_where_stored, put_where_new, put_nothing, place_left}
use Rattle.store.proofs.Record.{record_none, look_up_none}
use Rattle.merging.specs.Merging.{theirs, none_here}
use Rattle.weighing.specs.Weighed.{key_in, result_of}
use Rattle.joining.specs.Joined.{merged_with, empty_record, Mergeable}
use Rattle.weighing.proofs.Judging.{local_versions}
use Rattle.std.specs.Prelude.{Ok, Err}

-- ---- contexts that are raised to one above them

above : (c d : Context) → Within c d → length d ≡ 8 → higher c d ≡ d
unfolding higher
above c d w eight = each_same (λ n. counter (max (entry c n).0 (entry d n).0)) (λ n. entry d n) (λ n r. same_counter (counter (max (entry c n).0 (entry d n).0)) (entry d n) (omega (arith, w n r))) ∙ each_entry (counter 0) d eight

pub filled_above : (t : CrewTable) (j : ℕ) (k : Clock) (c : Context) → higher c (fill_context t j k c) ≡ fill_context t j k c
filled_above t j k c = above c (fill_context t j k c) (fill_raises t j k c) (unfold fill_context in refl)

pub none_above : (here : List ℕ) → length here ≡ 8 → higher no_context (map counter here) ≡ map counter here
none_above here e = above no_context (map counter here) (λ n r. omega (arith, no_entry n r)) (map_length counter here ∙ e)

-- ---- the record that was found

module _ (s : State) (m here there : List ℕ) (full : map counter here ≡ (local s (key_in m)).context) (i : ℕ) (up : ascends? stored_before s.points ≡ true) where
  module _ (at : PointIn s.points (key_in m) (Ok i)) where
    abbrev p : Stored
    p = get_or s.points i no_point

    looked_up : look_up (key_in m) s.points ≡ (get_or s.points i no_point).object
    looked_up = look_up_at (key_in m) s.points i up at

    pub stored_above : higher (get_or s.points i no_point).object.context (map counter here) ≡ map counter here
    unfolding local fill
    stored_above =
        ap₂ higher (ap (λ (x : Object). x.context) (sym looked_up)) full ∙ filled_above s.table (key_in m).job s.clock (look_up (key_in m) s.points).context ∙ sym full

    stored_versions : (local s (key_in m)).versions ≡ p.object.versions
    stored_versions = local_versions s (key_in m) ∙ ap (λ (x : Object). x.versions) looked_up

    pub stored_mergeable : Mergeable (local s (key_in m)).versions m here there → Mergeable (get_or s.points i no_point).object.versions m here there
    stored_mergeable M = subst (λ (vs : List Version). Mergeable vs m here there) stored_versions M

    is_result : merged_with p m here there ≡ result_of s m there
    is_result = λ j. record { key = at.1 j; object = merge (record { versions = sym stored_versions j; context = full j }) (theirs m there) }

    pub put_there : (k : Clock) → restored k (put_at s.points i (merged_with (get_or s.points i no_point) m here there)) i ≡ put k s.points (result_of s m there)
    put_there k = ap (λ (r : Stored). restored k (put_at s.points i r) i) is_result ∙ put_where_stored k s.points (result_of s m there) i up at

  -- ---- none was

  module _ (at : PointIn s.points (key_in m) (Err i)) where
    nothing_stored : (local s (key_in m)).versions ≡ []
    nothing_stored = local_versions s (key_in m) ∙ ap (λ (x : Object). x.versions) (look_up_none (key_in m) s.points (record_none (key_in m) s.points i at))

    pub new_mergeable : Mergeable (local s (key_in m)).versions m here there → Mergeable [] m here there
    new_mergeable M = subst (λ (vs : List Version). Mergeable vs m here there) nothing_stored M

    is_new : merged_with (empty_record m) m here there ≡ result_of s m there
    is_new = λ j. record { key = key_in m; object = merge (record { versions = sym nothing_stored j; context = full j }) (theirs m there) }

    module _ (k : Clock) (g : Bool) (e : g ≡ gone (strip k (merge (none_here here) (theirs m there)))) where
      goes_is : g ≡ gone (strip k (result_of s m there).object)
      goes_is = e ∙ ap (λ (r : Stored). gone (strip k r.object)) is_new

      pub put_new_there : g ≡ false → insert_at s.points i (stripped k (merged_with (empty_record m) m here there)) ≡ put k s.points (result_of s m there)
      put_new_there f = ap (λ (r : Stored). insert_at s.points i (stripped k r)) is_new ∙ put_where_new k s.points (result_of s m there) i at (sym goes_is ∙ f)

      pub put_none : g ≡ true → s.points ≡ put k s.points (result_of s m there)
      put_none f = put_nothing k s.points (result_of s m there) i at (sym goes_is ∙ f)

      pub room_left : g ≡ false → length (put k s.points (result_of s m there)) ≤ most_points → length s.points < most_points
      room_left f few = place_left k s.points (result_of s m there) i at (sym goes_is ∙ f) few

-- ---- a place that was opened

module _ (img x : List ℕ) (i : ℕ) (a : Stored) (inside : i ≤ length (decode img).points) (o : (decode x ≡ with_points (decode img) (insert_at (decode img).points i a)) × Canonical x) where
  pub opened_is : get_or (decode x).points i no_point ≡ a
  opened_is = ap (λ (s : State). get_or s.points i no_point) o.0 ∙ place_here (decode img).points i no_point inside 0 a []

pub empty_opened : (img x : List ℕ) (i : ℕ) (m : List ℕ) (k : Key) → k ≡ key_in m → (decode x ≡ with_points (decode img) (insert_at (decode img).points i (record { key = k; object = no_object }))) × Canonical x
    → (decode x ≡ with_points (decode img) (insert_at (decode img).points i (empty_record m))) × Canonical x
empty_opened img x i m k e o = (o.0 ∙ ap (λ (z : Key). with_points (decode img) (insert_at (decode img).points i (record { key = z; object = no_object }))) e, o.1)

pub merged_opened : (img x : List ℕ) (i : ℕ) (m here there : List ℕ) → i ≤ length (decode img).points → (decode x ≡ with_points (decode img) (insert_at (decode img).points i (empty_record m))) × Canonical x
    → (y : List ℕ) → (decode y ≡ with_points (decode x) (put_at (decode x).points i (merged_with (get_or (decode x).points i no_point) m here there))) × Canonical y
    → (decode y ≡ with_points (decode x) (put_at (decode x).points i (merged_with (empty_record m) m here there))) × Canonical y
merged_opened img x i m here there inside o y w =
    (w.0 ∙ ap (λ (p : Stored). with_points (decode x) (put_at (decode x).points i (merged_with p m here there))) (opened_is img x i (empty_record m) inside o), w.1)
