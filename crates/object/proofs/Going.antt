-- When a record would go, stripped by given rows. Assumes nothing.
use Rattle.std.specs.Prelude.{if◌then◌else◌}
use Prim.Native.Nat.{ℕ, ◌+◌, ◌*◌, ◌≤◌}
use mathlib.Core.Path.{◌≡◌, ap, sym, ◌∙◌}
use mathlib.Core.Bool.{Bool, ◌&&◌}
use mathlib.Core.List.{List, [], ◌∷◌}
use native.Mathlib.Omega.{arith}
use lib.Dec.{leb, eqb}
use borrow.Author.Tests.{leb-false, ne_eqb}
use Rattle.numbers.specs.declared.Counter.{Counter}
use Rattle.numbers.specs.Words.{every}
use Rattle.numbers.specs.Numbers.{controller, counter}
use Rattle.numbers.proofs.Tests.{by_test}
use Rattle.block.specs.Fields.{field, upto}
use Rattle.block.proofs.Arrays.{upto_same}
use Rattle.block.proofs.Passing.{HangsOn, all_upto, and_true}
use Rattle.meaning.specs.Clock.{Clock, row}
use Rattle.meaning.specs.Context.{Context, entry, is_empty, strip_context}
use Rattle.meaning.specs.Object.{strip, gone}
use Rattle.layout.specs.PointBlock.{form_1, decode_point}
use Rattle.record.proofs.Questions.{none_has_value}

-- the entry of controller i + 1 is not above its base
abbrev pub low : Context → Clock → ℕ → Bool
low c k i = leb (entry c (controller (i + 1))).0 (row k (controller (i + 1))).base

none_left : (e : Counter) (base : ℕ) → eqb (if leb e.0 base then counter 0 else e).0 0 ≡ leb e.0 base
none_left e base = by_test (leb e.0 base) (λ t. rw t) (λ t. rw t (ne_eqb e.0 0 (λ z. omega (arith, leb-false e.0 base t))))

-- the stripped context is empty where each entry is low
pub strips_empty : (c : Context) (k : Clock) → every (upto 8 (low c k)) ≡ is_empty (strip_context k c)
unfolding is_empty strip_context
strips_empty c k =
    sym
    (all_upto (λ (e : Counter). eqb e.0 0) 8 stripped
    ∙ ap every (upto_same 8 (λ i. eqb (stripped i).0 0) (low c k) (λ i l. none_left (entry c (controller (i + 1))) (row k (controller (i + 1))).base)))
  where
    stripped : ℕ → Counter
    stripped i = if low c k i then counter 0 else entry c (controller (i + 1))

pub goes_tests : (b : List ℕ) (k : Clock) {count : ℕ} → field b 5 1 ≤ 8 → count ≡ field b 5 1
    → HangsOn (gone (strip k (decode_point form_1 b).object))
    (is_empty (strip_context k (decode_point form_1 b).object.context) ∷ every (upto count (λ i. eqb (field b (41 + 32 * i) 1) 255)) ∷ [])
unfolding gone strip
goes_tests b k {count} l r = record {
  hangs =
      ap (λ (t : Bool). is_empty (strip_context k (decode_point form_1 b).object.context) && t)
      (none_has_value b l r ∙ sym (and_true (every (upto count (λ i. eqb (field b (41 + 32 * i) 1) 255)))));
}
