-- What is decoded from any bytes is within its sizes, so that its encoding has the right length. Assumes nothing.
use Prim.Native.Nat.{ℕ, ◌+◌, ◌*◌, ◌-◌, ◌^◌, ◌≤◌, ◌<◌}
use mathlib.Core.Path.{◌≡◌, sym, subst}
use mathlib.Core.List.{List}
use native.Mathlib.Omega.{arith}
use lib.ListN.{length, take, length-take}
use lib.Dec.{eqb}
use Rattle.numbers.specs.declared.Counter.{Counter}
use Rattle.numbers.specs.Numbers.{counter}
use Rattle.numbers.proofs.Tests.{by_test, ◌∈◌}
use Rattle.numbers.proofs.Orders.{take_in}
use Rattle.block.specs.Fields.{cut, field, upto}
use Rattle.block.proofs.Parts.{length_cut}
use Rattle.block.proofs.Numbers.{Bytes, bytes_cut, field_bound}
use Rattle.block.proofs.Arrays.{upto_length, in_upto}
use Rattle.row.specs.declared.Row.{Row}
use Rattle.meaning.specs.Object.{Version}
use Rattle.meaning.specs.State.{Listed, listed_before}
use Rattle.meaning.specs.Settle.{most_listed}
use Rattle.layout.specs.PointBlock.{form_1, said_bytes, decode_contents, decode_slot, decode_context, decode_point, decode_stored}
use Rattle.layout.specs.Clocks.{decode_row, decode_clock}
use Rattle.layout.specs.Image.{decode_marks, decode_head, decode_entry, decode_dots}
use Rattle.layout.proofs.PointBack.{SlotSized, ContextSized, PointSized}
use Rattle.layout.proofs.ImageBack.{RowSized, ClockSized, MarksSized, EntrySized, DotsSized, HeadSized, StoredSized}

-- of those that are taken of some below n there are no more than n
few : {A : Type 0} (k n : ℕ) (f : ℕ → A) → length (take k (upto n f)) ≤ n
few k n f = omega (arith, length-take k (upto n f), upto_length n f)

-- ---- a point block

said_few : (n : ℕ) (bytes : List ℕ) (m : ℕ) → length bytes ≡ m → length (said_bytes (decode_contents n bytes)) ≤ m
unfolding decode_contents
said_few n bytes m e = by_test (eqb n 255) (λ t. rw t (omega arith)) (λ t. rw t (omega (arith, length-take n bytes)))

pub slot_decoded : (b : List ℕ) → Bytes b → length b ≡ 32 → SlotSized form_1 (decode_slot form_1 b)
unfolding decode_slot
slot_decoded b h e = record {
  who = field_bound b 0 1 h (omega arith);
  count = field_bound b 4 4 h (omega arith);
  said = said_few (field b 1 1) (cut b 8 24) 24 (length_cut b 8 24 (omega arith));
}

pub context_decoded : (b : List ℕ) → Bytes b → length b ≡ 32 → ContextSized (decode_context b)
unfolding decode_context
context_decoded b h e = record {
  eight = upto_length 8 (λ i. counter (field b (4 * i) 4));
  small = λ x m. let q = in_upto 8 (λ i. counter (field b (4 * i) 4)) m in subst (λ (y : Counter). y.0 < 256 ^ 4) (sym q.2) (field_bound b (4 * q.0) 4 h (omega (arith, q.1)));
}

module _ (b : List ℕ) (h : Bytes b) (e : length b ≡ 512) where
  slot : ℕ → Version
  slot i = decode_slot form_1 (cut b (40 + 32 * i) 32)

  slots_sized : (v : Version) → v ∈ take (field b 5 1) (upto 8 slot) → SlotSized form_1 v
  unfolding slot
  slots_sized v m =
      let q = in_upto 8 slot (take_in Rattle.meaning.specs.Object.version_before (field b 5 1) (upto 8 slot) m) in
      subst (λ (w : Version). SlotSized form_1 w) (sym q.2) (slot_decoded (cut b (40 + 32 * q.0) 32) (bytes_cut b (40 + 32 * q.0) 32 h) (length_cut b (40 + 32 * q.0) 32 (omega (arith, q.1))))

  pub point_decoded : PointSized form_1 (decode_point form_1 b)
  unfolding decode_point slot
  point_decoded = record {
    sender = field_bound b 296 1 h (omega arith);
    job = field_bound b 4 1 h (omega arith);
    point = field_bound b 6 2 h (omega arith);
    few = few (field b 5 1) 8 slot;
    context = context_decoded (cut b 8 32) (bytes_cut b 8 32 h) (length_cut b 8 32 (omega arith));
    versions = slots_sized;
  }

  pub stored_decoded : StoredSized (decode_stored form_1 b)
  unfolding decode_stored
  stored_decoded =
      let P = point_decoded in
      record { sender = omega arith; job = P.job; point = P.point; few = P.few; context = P.context; versions = P.versions }

-- ---- the lists

pub entry_decoded : (b : List ℕ) → Bytes b → length b ≡ 8 → EntrySized (decode_entry b)
unfolding decode_entry
entry_decoded b h e = record {
  who = field_bound b 0 1 h (omega arith);
  count = field_bound b 4 4 h (omega arith);
  job = field_bound b 1 1 h (omega arith);
  point = field_bound b 2 2 h (omega arith);
}

pub dots_decoded : (b : List ℕ) → Bytes b → length b ≡ 512 → DotsSized (decode_dots b)
unfolding decode_dots
dots_decoded b h e = record {
  few = few (field b 4 2) most_listed (λ i. decode_entry (cut b (8 + 8 * i) 8));
  each = λ l m.
      let q = in_upto most_listed (λ i. decode_entry (cut b (8 + 8 * i) 8)) (take_in listed_before (field b 4 2) (upto most_listed (λ i. decode_entry (cut b (8 + 8 * i) 8))) m) in
      subst (λ (x : Listed). EntrySized x) (sym q.2) (entry_decoded (cut b (8 + 8 * q.0) 8) (bytes_cut b (8 + 8 * q.0) 8 h) (length_cut b (8 + 8 * q.0) 8 (omega (arith, q.1))));
}

-- ---- the head

pub row_decoded : (b : List ℕ) → Bytes b → length b ≡ 12 → RowSized (decode_row b)
unfolding decode_row
row_decoded b h e = (field_bound b 0 4 h (omega arith), field_bound b 4 8 h (omega arith))

pub clock_decoded : (b : List ℕ) → Bytes b → length b ≡ 96 → ClockSized (decode_clock b)
unfolding decode_clock
clock_decoded b h e = record {
  eight = upto_length 8 (λ i. decode_row (cut b (12 * i) 12));
  rows = λ r m.
      let q = in_upto 8 (λ i. decode_row (cut b (12 * i) 12)) m in
      subst (λ (x : Row). RowSized x) (sym q.2) (row_decoded (cut b (12 * q.0) 12) (bytes_cut b (12 * q.0) 12 h) (length_cut b (12 * q.0) 12 (omega (arith, q.1))));
}

pub marks_decoded : (b : List ℕ) → Bytes b → length b ≡ 256 → MarksSized (decode_marks b)
unfolding decode_marks
marks_decoded b h e = record {
  eight = upto_length 8 (λ m. line m);
  rows = λ r m. let q = in_upto 8 line m in subst (λ (x : List ℕ). length x ≡ 8) (sym q.2) (upto_length 8 (λ n. field (cut b (32 * q.0) 32) (4 * n) 4));
  small = λ r x m k.
      let q = in_upto 8 line m in
      let p = in_upto 8 (λ n. field (cut b (32 * q.0) 32) (4 * n) 4) (subst (λ (y : List ℕ). x ∈ y) q.2 k) in
      subst (λ (y : ℕ). y < 256 ^ 4) (sym p.2)
      (field_bound (cut b (32 * q.0) 32) (4 * p.0) 4 (bytes_cut b (32 * q.0) 32 h) (omega (arith, p.1, length_cut b (32 * q.0) 32 (omega (arith, q.1)))));
}
  where
    line : ℕ → List ℕ
    line m = upto 8 (λ n. field (cut b (32 * m) 32) (4 * n) 4)

pub head_decoded : (b : List ℕ) → Bytes b → length b ≡ 512 → HeadSized (decode_head b)
unfolding decode_head
head_decoded b h e = record {
  own = field_bound b 4 1 h (omega arith);
  table_eight = upto_length 8 (λ i. field b (8 + i) 1);
  table_bytes = λ x m. let q = in_upto 8 (λ i. field b (8 + i) 1) m in subst (λ (y : ℕ). y < 256) (sym q.2) (field_bound b (8 + q.0) 1 h (omega (arith, q.1)));
  clock = clock_decoded (cut b 16 96) (bytes_cut b 16 96 h) (length_cut b 16 96 (omega arith));
  marks = marks_decoded (cut b 112 256) (bytes_cut b 112 256 h) (length_cut b 112 256 (omega arith));
}
