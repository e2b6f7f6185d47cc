-- The points of a message, one after the other: their blocks, and the counters that arrive with them. Assumes nothing.
use Prim.Native.Nat.{ℕ, ◌+◌, ◌-◌, ◌*◌, ◌/◌, ◌≤◌, ◌<◌}
use mathlib.Core.Path.{◌≡◌, ap, sym, ◌∙◌, subst}
use mathlib.Core.Bool.{true}
use mathlib.Core.List.{List}
use native.Mathlib.Omega.{arith}
use lib.ListN.{length, take, drop}
use lib.Dec.{ltb}
use borrow.Author.Tests.{ltb-true}
use Rattle.numbers.specs.declared.Controller.{Controller}
use Rattle.numbers.specs.declared.Counter.{Counter}
use Rattle.numbers.specs.declared.Dot.{Dot}
use Rattle.numbers.specs.declared.Key.{Key}
use Rattle.numbers.specs.Words.{keep, fold}
use Rattle.numbers.specs.Numbers.{last_counter, same_controller}
use Rattle.numbers.proofs.Tests.{and_right, ◌∈◌}
use Rattle.numbers.proofs.Lists.{in_keep, in_map, in_concat_map}
use Rattle.block.specs.Fields.{field}
use Rattle.block.specs.Block.{block_at}
use Rattle.block.proofs.Runs.{block_bytes, block_part}
use Rattle.block.proofs.Arrays.{in_upto}
use Rattle.block.proofs.Numbers.{Bytes, field_bound}
use Rattle.block.proofs.Content.{block_length}
use Rattle.row.specs.Row.{sound}
use Rattle.meaning.specs.Context.{entry}
use Rattle.meaning.specs.Object.{Version}
use Rattle.meaning.specs.State.{Stored, State, local}
use Rattle.layout.specs.PointBlock.{form_1, decode_point, decode_stored}
use Rattle.record.proofs.Reading.{version_at, versions_are, slot_dot}
use Rattle.arriving.specs.declared.Tried.{Tried}
use Rattle.arriving.specs.Tried.{tried}
use Rattle.arriving.specs.Sent.{points_in, Few, arrives, counters_arriving, arriving_with}
use Rattle.arriving.proofs.Folding.{Folded, folded_more}
use Rattle.arriving.proofs.Trying.{Countable, all_sound}
use Rattle.arriving.proofs.Arrivals.{try_point}

-- ---- the counters of one block's versions

pub counted_version : (b : List ℕ) → Bytes b → length b ≡ 512 → (i : ℕ) → i < 8 → (version_at b i).dot.count.0 ≤ last_counter
counted_version b small size i few = omega (arith, ap (λ (d : Dot). d.count.0) (slot_dot b (40 + 32 * i)), field_bound b (40 + 32 * i + 4) 4 small (omega arith))

pub arriving_countable : (b : List ℕ) → Bytes b → length b ≡ 512 → field b 5 1 ≤ 8 → (n : Controller) (here : Counter) → Countable (counters_arriving n here (decode_point form_1 b).object.versions)
unfolding counters_arriving
arriving_countable b small size few n here c m =
    let q = in_map (λ (v : Version). v.dot.count) (keep (arrives n here) (decode_point form_1 b).object.versions) m in
    let v = q.0 in
    let k = in_keep (arrives n here) (decode_point form_1 b).object.versions q.1 in
    let u = in_upto (field b 5 1) (version_at b) (subst (λ (vs : List Version). v ∈ vs) (versions_are b few) k.0) in
    let above = ltb-true here.0 v.dot.count.0 (and_right (same_controller v.dot.who n) (ltb here.0 v.dot.count.0) k.1) in
    let is = ap (λ (x : Counter). x.0) q.2 in
    (omega (arith, above, is), omega (arith, is, ap (λ (w : Version). w.dot.count.0) u.2, counted_version b small size u.0 (omega (arith, u.1))))

-- ---- the blocks of a run

module _ (run : List ℕ) (small : Bytes run) where
  pub block_size : (j : ℕ) → j < length run / 512 → length (block_at run j) ≡ 512
  block_size j l = block_length run j (omega arith)

  pub lent_size : (j : ℕ) → j < length run / 512 → length (take (512 * j + 512 - 512 * j) (drop (512 * j) run)) ≡ 512
  lent_size j l = ap length (block_part run j) ∙ block_size j l

  module _ (few : Few run) where
    pub lent_few : (j : ℕ) → j < length run / 512 → field (take (512 * j + 512 - 512 * j) (drop (512 * j) run)) 5 1 ≤ 8
    lent_few j l = subst (λ (b : List ℕ). field b 5 1 ≤ 8) (sym (block_part run j)) (few j l)

    pub run_countable : (s : State) (n : Controller) → Countable (arriving_with s n (points_in run))
    unfolding arriving_with decode_stored
    run_countable s n c m =
        let q = in_concat_map (λ (p : Stored). counters_arriving n (entry (local s p.key).context n) p.object.versions) (points_in run) m in
        let u = in_upto (length run / 512) (λ i. decode_stored form_1 (block_at run i)) q.1 in
        arriving_countable (block_at run u.0) (block_bytes run small u.0) (block_size u.0 u.1) (few u.0 u.1) n (entry (local s q.0.key).context n) c
        (subst (λ (p : Stored). c ∈ counters_arriving n (entry (local s q.0.key).context n) p.object.versions) u.2 q.2)

    -- one point more was looked at
    pub point_tried : (s : State) (n : Controller) (t₀ : Tried) (j : ℕ) (t : Tried) → Folded (try_point s n) (length run / 512) (λ i. decode_stored form_1 (block_at run i)) t₀ j t → sound t.row ≡ true
        → j < length run / 512 → (k : Key) (here : Counter) (u : Tried) → k ≡ (decode_point form_1 (take (512 * j + 512 - 512 * j) (drop (512 * j) run))).key → here ≡ entry (local s k).context n
        → u ≡ fold tried t (counters_arriving n here (decode_point form_1 (take (512 * j + 512 - 512 * j) (drop (512 * j) run))).object.versions)
        → Folded (try_point s n) (length run / 512) (λ i. decode_stored form_1 (block_at run i)) t₀ (j + 1) u × (sound u.row ≡ true)
    unfolding decode_stored
    point_tried s n t₀ j t F sd l k here u ke he ue =
        let b = block_at run j in
        let is : u ≡ try_point s n t (decode_stored form_1 (block_at run j)) =
        ue ∙ ap (λ (x : List ℕ). fold tried t (counters_arriving n here (decode_point form_1 x).object.versions)) (block_part run j)
        ∙ ap (λ (e : Counter). fold tried t (counters_arriving n e (decode_point form_1 (block_at run j)).object.versions))
        (he ∙ ap (λ (x : Key). entry (local s x).context n) (ke ∙ ap (λ (x : List ℕ). (decode_point form_1 x).key) (block_part run j))) in (
          folded_more F l u is,
          subst (λ (x : Tried). sound x.row ≡ true) (sym is) (all_sound t _ sd (arriving_countable (block_at run j) (block_bytes run small j) (block_size j l) (few j l) n _)),
        )
