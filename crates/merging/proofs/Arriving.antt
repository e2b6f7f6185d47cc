-- A loop over a message's versions, from the last to the first, that puts those that pass a test into a point block. Assumes nothing.
use Prim.Native.Nat.{ℕ, zero, suc, ◌+◌, ◌*◌, ◌-◌, ◌≤◌, ◌<◌}
use mathlib.Core.Path.{◌≡◌, ap, ap₂, sym, ◌∙◌}
use mathlib.Core.Bool.{Bool, true, false, not}
use mathlib.Core.List.{List, [], ◌∷◌}
use native.Mathlib.Omega.{arith}
use lib.ListN.{length, take, drop, drop_of_length-le}
use lib.Seq.{drop-cons}
use Rattle.numbers.specs.declared.Dot.{Dot}
use Rattle.numbers.specs.Words.{cons_if, keep, ascends?, place, place_all, map}
use Rattle.numbers.specs.Numbers.{counter}
use Rattle.numbers.proofs.Tests.{by_test}
use Rattle.numbers.proofs.Orders.{place_all_ascends, place_all_length}
use Rattle.block.specs.Fields.{field}
use Rattle.block.specs.Block.{Laid}
use Rattle.block.proofs.Numbers.{Bytes}
use Rattle.meaning.specs.Context.{covers}
use Rattle.meaning.specs.Object.{Version, version_before}
use Rattle.laws.proofs.MergeLaws.{version_order}
use Rattle.layout.specs.PointBlock.{form_1, encode_slot, decode_slot, decode_point}
use Rattle.record.proofs.Reading.{version_at}
use Rattle.record_edits.specs.Written.{Written, lay_point, point_block, with_versions}
use Rattle.record_edits.proofs.Edits.{count_is}
use Rattle.object.proofs.Counting.{stays}
use Rattle.merging.proofs.Slots.{version_read, few_slots, lent_size, lent_laid, lent_says}

keep_drop : {A : Type 0} (f : A → Bool) (k : ℕ) (xs : List A) → length (keep f (drop k xs)) ≤ length (keep f xs)
keep_drop f zero xs = omega arith
keep_drop f (suc k) [] = omega arith
keep_drop f (suc k) (x ∷ xs) = let rest = keep_drop f k xs in by_test (f x) (λ t. rw t (omega arith)) (λ t. rw t rest)

-- a message's point block, laid out but for its check at least
pub record Sent (m : List ℕ) : Type 0 where
  pub small : Bytes m
  pub size : length m ≡ 512
  pub laid : Laid lay_point point_block m

-- those of the message's versions from the i-th on that pass are put, and the block is now b
pub record Arrived (w : Written) (f : Version → Bool) (m : List ℕ) (i : ℕ) (b : List ℕ) : Type 0 where
  pub sent : Sent m
  pub few : field m 5 1 ≤ 8
  pub left : i ≤ field m 5 1
  pub size : length b ≡ 512
  pub is : point_block b ≡ with_versions w (place_all version_before (keep f (drop i (decode_point form_1 m).object.versions)) w.point.object.versions)
  pub laid : Laid lay_point point_block b

pub arriving_none : (w : Written) (f : Version → Bool) (m b : List ℕ) (n : ℕ) → Sent m → n ≡ field m 5 1 → length b ≡ 512 → point_block b ≡ w → Laid lay_point point_block b → Arrived w f m n b
arriving_none w f m b n S e size p l = record {
  sent = S;
  few = few_slots m S.small S.size S.laid;
  left = omega arith;
  size = size;
  is =
      p ∙ ap (λ (xs : List Version). with_versions w (place_all version_before (keep f xs) w.point.object.versions))
      (sym (drop_of_length-le (decode_point form_1 m).object.versions {i = n} (omega (arith, count_is m S.small S.size S.laid))));
  laid = l;
}

module _ {w : Written} {f : Version → Bool} {m : List ℕ} {i : ℕ} {b : List ℕ} (A : Arrived w f m i b) where
  abbrev vs : List Version
  vs = (decode_point form_1 m).object.versions

  abbrev ws : List Version
  ws = w.point.object.versions

  abbrev put : List Version → List Version
  put l = place_all version_before (keep f l) ws

  module _ (more : 0 < i) where
    here : i ≡ suc (i - 1)
    here = omega arith

    pub arriving_inside : i - 1 < field m 5 1
    arriving_inside = omega (arith, A.left)

    inside : i - 1 < length (decode_point form_1 m).object.versions
    inside = omega (arith, A.left, count_is m A.sent.small A.sent.size A.sent.laid)

    -- the slot that is lent
    pub arriving_size : length (take (40 + 32 * (i - 1) + 32 - (40 + 32 * (i - 1))) (drop (40 + 32 * (i - 1)) m)) ≡ 32
    arriving_size = lent_size m A.sent.small A.sent.size A.sent.laid (i - 1) arriving_inside

    pub arriving_slot : encode_slot form_1 (decode_slot form_1 (take (40 + 32 * (i - 1) + 32 - (40 + 32 * (i - 1))) (drop (40 + 32 * (i - 1)) m))) ≡ take (40 + 32 * (i - 1) + 32 - (40 + 32 * (i - 1))) (drop (40 + 32 * (i - 1)) m)
    arriving_slot = lent_laid m A.sent.small A.sent.size A.sent.laid (i - 1) arriving_inside

    versions_now : (decode_point form_1 b).object.versions ≡ place_all version_before (keep f (drop (suc (i - 1)) (decode_point form_1 m).object.versions)) w.point.object.versions
    versions_now = ap (λ (v : Written). v.point.object.versions) A.is ∙ ap (λ (k : ℕ). put (drop k vs)) here

    pub arriving_ascends : ascends? version_before w.point.object.versions ≡ true → ascends? version_before (decode_point form_1 b).object.versions ≡ true
    arriving_ascends up = ap (ascends? version_before) versions_now ∙ place_all_ascends version_before version_order (keep f (drop (suc (i - 1)) vs)) ws up

    -- the one that is looked at
    abbrev v : Version
    v = version_at m (i - 1)

    next : {t : Bool} → f (version_at m (i - 1)) ≡ t → keep f (drop (i - 1) (decode_point form_1 m).object.versions) ≡ cons_if t (version_at m (i - 1)) (keep f (drop (suc (i - 1)) (decode_point form_1 m).object.versions))
    next q =
        ap (keep f) (drop-cons vs (i - 1) v inside) ∙ ap (λ (u : Version). cons_if (f u) u (keep f (drop (suc (i - 1)) vs))) (sym (version_read m (i - 1) A.few arriving_inside))
        ∙ ap (λ (x : Bool). cons_if x v (keep f (drop (suc (i - 1)) vs))) q

    pub arriving_room : f (version_at m (i - 1)) ≡ true → length w.point.object.versions + length (keep f (decode_point form_1 m).object.versions) ≤ 8 → length (decode_point form_1 b).object.versions < 8
    arriving_room t few =
        omega (arith, ap length versions_now, place_all_length version_before (keep f (drop (suc (i - 1)) vs)) ws, ap length (next t), keep_drop f (i - 1) vs)

    pub arriving_more : (x : List ℕ) → length x ≡ 512 → f (version_at m (i - 1)) ≡ true
        → (point_block x ≡ with_versions (point_block b) (place version_before (decode_slot form_1 (take (40 + 32 * (i - 1) + 32 - (40 + 32 * (i - 1))) (drop (40 + 32 * (i - 1)) m))) (decode_point form_1 b).object.versions))
        × Laid lay_point point_block x → Arrived w f m (i - 1) x
    arriving_more x size t r = record {
      sent = A.sent;
      few = A.few;
      left = omega (arith, A.left);
      size = size;
      is =
          r.0 ∙ ap (λ (u : Version). with_versions (point_block b) (place version_before u (decode_point form_1 b).object.versions)) (lent_says m A.sent.small A.sent.size A.sent.laid (i - 1) arriving_inside)
          ∙ ap₂ (λ (y : Written) (l : List Version). with_versions y (place version_before v l)) A.is versions_now
          ∙ ap (with_versions w) (sym (ap (λ (l : List Version). place_all version_before l ws) (next t)));
      laid = r.1;
    }

    pub arriving_past : f (version_at m (i - 1)) ≡ false → Arrived w f m (i - 1) b
    arriving_past t = record {
      sent = A.sent;
      few = A.few;
      left = omega (arith, A.left);
      size = A.size;
      is = A.is ∙ ap (with_versions w) (ap (λ (k : ℕ). put (drop k vs)) here ∙ sym (ap (λ (l : List Version). place_all version_before l ws) (next t)));
      laid = A.laid;
    }

-- r is what was answered of the dot of version j, d as it was read
pub arrives_is : (context m : List ℕ) (j : ℕ) {d : Dot} {r : Bool} → d ≡ (version_at m j).dot → r ≡ covers (map counter context) d → stays context (version_at m j) ≡ not r
arrives_is context m j p q = ap not (sym (q ∙ ap (covers (map counter context)) p))
