-- What the table and the rows say, read at their places. Assumes nothing.
use Prim.Native.Nat.{ℕ, ◌+◌, ◌*◌, ◌-◌, ◌/◌, ◌%◌, ◌^◌, ◌≤◌, ◌<◌}
use mathlib.Core.Path.{◌≡◌, ap, ◌∙◌}
use mathlib.Core.Bool.{false}
use mathlib.Core.List.{List}
use native.Mathlib.Omega.{arith}
use native.Mathlib.Nat.{zero-div}
use lib.ListN.{length, get_or-eq_default}
use lib.Dec.{eqb}
use Rattle.numbers.specs.declared.Controller.{Controller}
use Rattle.numbers.specs.Numbers.{Crew}
use Rattle.block.specs.Fields.{number, cut, field}
use Rattle.block.proofs.Parts.{cut_cut}
use Rattle.block.proofs.Arrays.{upto_at}
use Rattle.row.specs.Row.{none_seen, bit}
use Rattle.meaning.specs.CrewTable.{CrewTable, holds}
use Rattle.meaning.specs.Clock.{row}
use Rattle.layout.specs.Clocks.{decode_row, decode_clock}

-- nobody holds a job that there is not
pub no_job : (t : CrewTable) (n : Controller) (j : ℕ) → length t ≡ 8 → 7 < j → holds t n j ≡ false
unfolding holds bit
no_job t n j e h = ap (λ (b : ℕ). eqb (b / 2 ^ (n.0 - 1) % 2) 1) (get_or-eq_default t 0 (omega arith)) ∙ rw (zero-div (2 ^ (n.0 - 1)))

-- a field of a part is a field of the whole
pub field_of_cut : (b : List ℕ) (a n o m : ℕ) → o + m ≤ n → field (cut b a n) o m ≡ field b (a + o) m
unfolding field
field_of_cut b a n o m h = ap number (cut_cut b a n o m h)

pub row_fields : (rows : List ℕ) (n : Controller) → Crew n → row (decode_clock rows) n ≡ record { base = field rows (12 * (n.0 - 1)) 4; bits = field rows (12 * (n.0 - 1) + 4) 8 }
unfolding decode_clock decode_row
row_fields rows n c =
    upto_at 8 (λ i. record { base = field (cut rows (12 * i) 12) 0 4; bits = field (cut rows (12 * i) 12) 4 8 }) none_seen (n.0 - 1) (omega (arith, c.0, c.1))
    ∙ (λ i. record { base = (field_of_cut rows (12 * (n.0 - 1)) 12 0 4 (omega arith) ∙ ap (λ (o : ℕ). field rows o 4) there) i; bits = field_of_cut rows (12 * (n.0 - 1)) 12 4 8 (omega arith) i })
  where
    there : 12 * (n.0 - 1) + 0 ≡ 12 * (n.0 - 1)
    there = omega arith
