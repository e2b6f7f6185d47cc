-- A mark, read at its place. Assumes nothing.
use Prim.Native.Nat.{ℕ, ◌+◌, ◌*◌, ◌-◌}
use mathlib.Core.Path.{◌≡◌, ap, ◌∙◌}
use mathlib.Core.List.{List, []}
use native.Mathlib.Omega.{arith}
use lib.ListN.{get_or}
use Rattle.numbers.specs.declared.Controller.{Controller}
use Rattle.numbers.specs.Numbers.{Crew}
use Rattle.block.specs.Fields.{cut, field, upto}
use Rattle.block.proofs.Arrays.{upto_at}
use Rattle.meaning.specs.State.{mark}
use Rattle.layout.specs.Image.{decode_marks}
use Rattle.parts.proofs.Lookup.{field_of_cut}

pub mark_field : (marks : List ℕ) (m n : Controller) → Crew m → Crew n → mark (decode_marks marks) m n ≡ field marks (32 * (m.0 - 1) + 4 * (n.0 - 1)) 4
unfolding decode_marks
mark_field marks m n p q =
    ap (λ (r : List ℕ). get_or r (n.0 - 1) 0)
    (upto_at 8 (λ i. upto 8 (λ j. field (cut marks (32 * i) 32) (4 * j) 4)) [] (m.0 - 1) (omega (arith, p.0, p.1)))
    ∙ upto_at 8 (λ j. field (cut marks (32 * (m.0 - 1)) 32) (4 * j) 4) 0 (n.0 - 1) (omega (arith, q.0, q.1))
    ∙ field_of_cut marks (32 * (m.0 - 1)) 32 (4 * (n.0 - 1)) 4 (omega (arith, q.0, q.1))
