-- The clauses of a good head, on its parts. Assumes nothing.
use Prim.Native.Nat.{ℕ}
use mathlib.Core.Path.{◌≡◌, refl, sym, ◌∙◌}
use mathlib.Core.Bool.{Bool, true, false}
use mathlib.Core.List.{List, [], ◌∷◌}
use lib.ListN.{get_or, take}
use lib.Dec.{eqb}
use Rattle.numbers.specs.declared.Controller.{Controller}
use Rattle.numbers.specs.Words.{every}
use Rattle.numbers.specs.Numbers.{Crew, is_controller}
use Rattle.numbers.proofs.Tests.{by_test}
use Rattle.numbers.proofs.Lists.{Passed, failed, last_test}
use Rattle.numbers.proofs.Controllers.{crew_is}
use Rattle.meaning.specs.Clock.{row, every_row}
use Rattle.meaning.specs.State.{peers}
use Rattle.meaning.specs.Good.{rows_sound, own_row_whole, rows_of_peers, marks_of_peers, own_marks_known}
use Rattle.layout.specs.Clocks.{decode_clock}
use Rattle.layout.specs.Image.{decode_marks}
use Rattle.head.specs.HeadGood.{own_column_known, head_good}
use Rattle.head.specs.HeadParts.{head_of_parts, row_good, rows_allowed, marks_row_allowed, marks_allowed, own_row_known, own_column}

pub not_crew : (n : Controller) → (Crew n → ⊥) → is_controller n ≡ false
not_crew n h = by_test (is_controller n) (λ t. absurd (h (crew_is n t))) (λ f. f)

module _ (own : Controller) (table rows marks : List ℕ) where
  -- in the code's order
  abbrev pub clauses : List Bool
  clauses =
      is_controller own
      ∷ every_row row_good (decode_clock rows)
      ∷ eqb (row (decode_clock rows) own).bits 0
      ∷ rows_allowed own table (decode_clock rows)
      ∷ marks_allowed own table (decode_marks marks)
      ∷ own_row_known own (decode_clock rows) (decode_marks marks)
      ∷ own_column own (row (decode_clock rows) own).base (decode_marks marks)
      ∷ []

  clauses_are : head_good (head_of_parts own table rows marks) ≡ every clauses
  unfolding head_good rows_sound own_row_whole rows_of_peers marks_of_peers own_marks_known own_column_known rows_allowed marks_row_allowed marks_allowed own_row_known own_column peers
  clauses_are = refl

  pub not_good : (i : ℕ) → get_or clauses i true ≡ false → false ≡ head_good (head_of_parts own table rows marks)
  not_good i t = failed clauses i t ∙ sym clauses_are

  pub good : Passed (take 6 clauses) → own_column own (row (decode_clock rows) own).base (decode_marks marks) ≡ head_good (head_of_parts own table rows marks)
  good p = last_test (take 6 clauses) (own_column own (row (decode_clock rows) own).base (decode_marks marks)) p ∙ sym clauses_are
