-- What a point block says, read at its places. Assumes nothing.
use Prim.Native.Nat.{ℕ, ◌+◌, ◌*◌, ◌-◌, ◌≤◌}
use mathlib.Core.Path.{◌≡◌, ap, ◌∙◌}
use mathlib.Core.List.{List}
use native.Mathlib.Omega.{arith}
use Rattle.numbers.specs.declared.Controller.{Controller}
use Rattle.numbers.specs.Numbers.{Crew, counter}
use Rattle.numbers.specs.Dot.{dot}
use Rattle.block.specs.Fields.{cut, field, upto}
use Rattle.block.proofs.Arrays.{upto_at, take_upto}
use Rattle.meaning.specs.Context.{entry}
use Rattle.meaning.specs.Object.{Version}
use Rattle.layout.specs.PointBlock.{form_1, decode_slot, decode_context, decode_point}
use Rattle.parts.proofs.Lookup.{field_of_cut}

-- the first field of a part
pub first_of_cut : (b : List ℕ) (a n m : ℕ) → m ≤ n → field (cut b a n) 0 m ≡ field b a m
first_of_cut b a n m h = field_of_cut b a n 0 m (omega arith) ∙ ap (λ (o : ℕ). field b o m) there
  where
    there : a + 0 ≡ a
    there = omega arith

-- a version's slot at a place
abbrev pub slot_at : List ℕ → ℕ → Version
slot_at b at = decode_slot form_1 (cut b at 32)

-- the i-th version's slot
abbrev pub version_at : List ℕ → ℕ → Version
version_at b i = slot_at b (40 + 32 * i)

pub slot_dot : (b : List ℕ) (at : ℕ) → (slot_at b at).dot ≡ dot (field b at 1) (field b (at + 4) 4)
unfolding decode_slot
slot_dot b at i = dot (first_of_cut b at 32 1 (omega arith) i) (field_of_cut b at 32 4 4 (omega arith) i)

-- a counter of a context that stands alone, in 32 bytes, and of a block's
pub context_field : (s : List ℕ) (n : Controller) → Crew n → entry (decode_context s) n ≡ counter (field s (4 * (n.0 - 1)) 4)
unfolding decode_context
context_field s n c = upto_at 8 (λ i. counter (field s (4 * i) 4)) (counter 0) (n.0 - 1) (omega (arith, c.0, c.1))

pub entry_field : (b : List ℕ) (n : Controller) → Crew n → entry (decode_point form_1 b).object.context n ≡ counter (field b (8 + 4 * (n.0 - 1)) 4)
unfolding decode_point
entry_field b n c = context_field (cut b 8 32) n c ∙ ap counter (field_of_cut b 8 32 (4 * (n.0 - 1)) 4 (omega (arith, c.0, c.1)))

-- the versions, where there is room for as many as are said
pub versions_are : (b : List ℕ) → field b 5 1 ≤ 8 → (decode_point form_1 b).object.versions ≡ upto (field b 5 1) (version_at b)
unfolding decode_point
versions_are b h = take_upto (field b 5 1) 8 (version_at b) h
