-- Which versions of a message arrive, as the code tests it: by the filled local entry. Assumes nothing.
use Rattle.std.specs.Prelude.{if◌then◌else◌, Ok}
use Prim.Native.Nat.{ℕ, ◌+◌, ◌*◌, ◌-◌, ◌<◌, ◌≤◌, max}
use mathlib.Core.Path.{◌≡◌, refl, ap, ap₂, sym, ◌∙◌, subst}
use mathlib.Core.Bool.{Bool, true, false, ◌&&◌}
use mathlib.Core.List.{List, [], ◌∷◌}
use native.Mathlib.Omega.{arith}
use lib.ListN.{length, take, drop}
use lib.Dec.{ltb}
use borrow.Author.Tests.{eq-eqb, ne_eqb, ltb-true}
use Rattle.numbers.specs.declared.Controller.{Controller}
use Rattle.numbers.specs.declared.Counter.{Counter}
use Rattle.numbers.specs.declared.Dot.{Dot}
use Rattle.numbers.specs.declared.Key.{Key}
use Rattle.numbers.specs.Words.{cons_if, keep, ascends?, map, concat_map, fold}
use Rattle.numbers.specs.Numbers.{counter, last_counter, same_controller, Crew}
use Rattle.numbers.proofs.Tests.{by_test, and_right}
use Rattle.block.specs.Fields.{cut, field}
use Rattle.block.proofs.Numbers.{Bytes, field_bound}
use Rattle.row.specs.declared.Row.{Row}
use Rattle.row.specs.Row.{sound}
use Rattle.meaning.specs.CrewTable.{CrewTable, holds}
use Rattle.meaning.specs.Clock.{Clock, row}
use Rattle.meaning.specs.Context.{entry}
use Rattle.meaning.specs.Object.{Version, Object, fill}
use Rattle.meaning.specs.State.{Stored, stored_before, State, look_up, local}
use Rattle.laws.proofs.ContextLaws.{fill_entry}
use Rattle.layout.specs.Clocks.{decode_clock}
use Rattle.layout.specs.PointBlock.{form_1, decode_point}
use Rattle.layout.specs.Image.{image_length, decode}
use Rattle.record_edits.specs.Written.{Written}
use Rattle.image.specs.Places.{PointIn}
use Rattle.image.proofs.Placing.{look_up_at}
use Rattle.image_edits.specs.Edits.{Canonical}
use Rattle.record.proofs.Reading.{version_at, slot_dot}
use Rattle.store.proofs.Lent.{table_part, clock_part}
use Rattle.store.proofs.Stripped.{says}
use Rattle.arriving.specs.declared.Tried.{Tried}
use Rattle.arriving.specs.Tried.{tried}
use Rattle.arriving.specs.Sent.{arrives, counters_arriving, arriving_with}
use Rattle.arriving.proofs.Folding.{Folded, folded_more, fold_append}
use Rattle.arriving.proofs.Trying.{tried_sound}

-- ---- one dot

module _ (d : Dot) (n : Controller) (here : Counter) where
  pub of_another : (d.who.0 ≡ n.0 → ⊥) → false ≡ (same_controller d.who n && ltb here.0 d.count.0)
  of_another h = sym (ap (λ (b : Bool). b && ltb here.0 d.count.0) (ne_eqb d.who.0 n.0 h))

  pub of_this : d.who.0 ≡ n.0 → ltb here.0 d.count.0 ≡ (same_controller d.who n && ltb here.0 d.count.0)
  of_this h = sym (ap (λ (b : Bool). b && ltb here.0 d.count.0) (eq-eqb d.who.0 n.0 h))

-- ---- the local entry

module _ (img : List ℕ) (size : length img ≡ image_length) (k : Key) (n : Controller) (crew : Crew n) where
  pub entry_is : (o : Object) → look_up k (decode img).points ≡ o → (h : Bool) (r : Row) (e x : Counter) → h ≡ holds (cut img 8 8) n k.job → r ≡ row (decode_clock (cut img 16 96)) n
      → e ≡ entry o.context n → x ≡ (if h then counter (max e.0 r.base) else e) → x ≡ entry (local (decode img) k).context n
  unfolding local fill
  entry_is o l h r e x p q c f =
      f ∙ ap (λ (b : Bool). if b then counter (max e.0 r.base) else e) (p ∙ ap (λ (t : CrewTable). holds t n k.job) (table_part img size))
      ∙ ap₂ (λ (y : Counter) (w : Row). if holds (decode img).table n k.job then counter (max y.0 w.base) else y) (c ∙ ap (λ (z : Object). entry z.context n) (sym l))
      (q ∙ ap (λ (z : Clock). row z n) (clock_part img size))
      ∙ sym (fill_entry (decode img).table k.job (decode img).clock (look_up k (decode img).points).context n crew)

module _ (img : List ℕ) (small : Bytes img) (size : length img ≡ image_length) (canonical : Canonical img) (up : ascends? stored_before (decode img).points ≡ true) (k : Key) (i : ℕ) (at : PointIn (decode img).points k (Ok i)) where
  -- what is stored for the point, read in its block
  pub object_there : look_up k (decode img).points ≡ (decode_point form_1 (take (512 * (3 + i) + 512 - 512 * (3 + i)) (drop (512 * (3 + i)) img))).object
  object_there = look_up_at k (decode img).points i up at ∙ sym (ap (λ (w : Written). w.point.object) (says img small size canonical i at.0).0)

-- ---- the versions of a point, and the points

-- a version is tried where it arrives
abbrev pub try_version : Controller → Counter → Tried → Version → Tried
try_version n here t v = if arrives n here v then tried t v.dot.count else t

step_sound : (n : Controller) (here : Counter) (t : Tried) (v : Version) → v.dot.count.0 ≤ last_counter → sound t.row ≡ true → sound (try_version n here t v).row ≡ true
step_sound n here t v high s =
    by_test (arrives n here v)
    (λ h. subst (λ (b : Bool). sound (if b then tried t v.dot.count else t).row ≡ true) (sym h)
    (tried_sound t v.dot.count s (omega (arith, ltb-true here.0 v.dot.count.0 (and_right (same_controller v.dot.who n) (ltb here.0 v.dot.count.0) h))) high))
    (λ h. subst (λ (b : Bool). sound (if b then tried t v.dot.count else t).row ≡ true) (sym h) s)

-- one version more was looked at
module _ (b : List ℕ) (small : Bytes b) (size : length b ≡ 512) (n : Controller) (here : Counter) (t₀ : Tried) (i : ℕ) (t : Tried) (F : Folded (try_version n here) (field b 5 1) (version_at b) t₀ i t) (s : sound t.row ≡ true) (few : i < 8) where
  high : (version_at b i).dot.count.0 ≤ last_counter
  high = omega (arith, ap (λ (d : Dot). d.count.0) (slot_dot b (40 + 32 * i)), field_bound b (40 + 32 * i + 4) 4 small (omega arith))

  pub version_tried : (d : Dot) (u : Tried) → i < field b 5 1 → d ≡ (version_at b i).dot → u ≡ (if same_controller d.who n && ltb here.0 d.count.0 then tried t d.count else t)
      → Folded (try_version n here) (field b 5 1) (version_at b) t₀ (i + 1) u × (sound u.row ≡ true)
  version_tried d u l e q =
      let is : u ≡ try_version n here t (version_at b i) = q ∙ ap (λ (x : Dot). if same_controller x.who n && ltb here.0 x.count.0 then tried t x.count else t) e in
      (folded_more F l u is, subst (λ (x : Tried). sound x.row ≡ true) (sym is) (step_sound n here t (version_at b i) high s))

pub tried_versions : (n : Controller) (here : Counter) (t : Tried) (vs : List Version) → fold (try_version n here) t vs ≡ fold tried t (counters_arriving n here vs)
unfolding counters_arriving
tried_versions n here t [] = refl
tried_versions n here t (v ∷ vs) =
    by_test (arrives n here v)
    (λ h. ap (λ (b : Bool). fold (try_version n here) (if b then tried t v.dot.count else t) vs) h ∙ tried_versions n here (tried t v.dot.count) vs
    ∙ sym (ap (λ (b : Bool). fold tried t (map (λ w. w.dot.count) (cons_if b v (keep (arrives n here) vs)))) h))
    (λ h. ap (λ (b : Bool). fold (try_version n here) (if b then tried t v.dot.count else t) vs) h ∙ tried_versions n here t vs
    ∙ sym (ap (λ (b : Bool). fold tried t (map (λ w. w.dot.count) (cons_if b v (keep (arrives n here) vs)))) h))

-- the versions of a point are tried
abbrev pub try_point : State → Controller → Tried → Stored → Tried
try_point s n t p = fold tried t (counters_arriving n (entry (local s p.key).context n) p.object.versions)

pub tried_points : (s : State) (n : Controller) (t : Tried) (ps : List Stored) → fold (try_point s n) t ps ≡ fold tried t (arriving_with s n ps)
unfolding arriving_with
tried_points s n t [] = refl
tried_points s n t (p ∷ ps) =
    tried_points s n (try_point s n t p) ps
    ∙ sym (fold_append tried t (counters_arriving n (entry (local s p.key).context n) p.object.versions) (concat_map (λ q. counters_arriving n (entry (local s q.key).context n) q.object.versions) ps))
