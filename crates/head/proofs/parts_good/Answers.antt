-- `head::parts_good` meets its contract. Each answer is one of the clauses that Clauses names. Assumes nothing.
use mathlib.Core.Path.{sym, ap, ◌∙◌}
use native.Mathlib.Omega.{arith}
use borrow.Author.Tests.{not-true, not-false}
use Rattle.numbers.proofs.Controllers.{is_crew}
use Rattle.numbers.proofs.Lists.{passed, ◌and_also◌}
use Rattle.numbers.proofs.Tests.{read_is, read_is_not}
use Rattle.row.specs.declared.Row.{Row}
use Rattle.layout.specs.Image.{decode_marks}
use Rattle.head.specs.HeadParts.{own_column}
use Rattle.head.proofs.Clauses.{not_crew, not_good, good}
use borrow.Author.Rules.{rules}
use Rattle.head.proofs.parts_good.Goals as goal

pub returns-then-who-lt1 : goal.returns-then-who-lt1
returns-then-who-lt1 c = let a = c.args in not_good a.own a.table.now a.rows.now a.marks.now 0 (not_crew a.own (λ k. omega (arith, k.0)))

pub returns-then-who-gt8 : goal.returns-then-who-gt8
returns-then-who-gt8 c = let a = c.args in not_good a.own a.table.now a.rows.now a.marks.now 0 (not_crew a.own (λ k. omega (arith, k.1)))

pub returns-then-not-rows_sound : goal.returns-then-not-rows_sound
returns-then-not-rows_sound c = let a = c.args in not_good a.own a.table.now a.rows.now a.marks.now 1 (sym c.rows_sound.ensures ∙ not-true _ c.if-not-rows_sound.true-raw)

pub returns-then-ours-ne0 : goal.returns-then-ours-ne0
returns-then-ours-ne0 c = let a = c.args in not_good a.own a.table.now a.rows.now a.marks.now 2 (read_is_not (ap (λ (r : Row). r.bits) c.row_at-ours.ensures) c.if-ours-ne0.true)

pub returns-then-not-rows_allowed : goal.returns-then-not-rows_allowed
returns-then-not-rows_allowed c = let a = c.args in not_good a.own a.table.now a.rows.now a.marks.now 3 (sym c.rows_allowed.ensures ∙ not-true _ c.if-not-rows_allowed.true-raw)

pub returns-then-not-marks_allowed : goal.returns-then-not-marks_allowed
returns-then-not-marks_allowed c = let a = c.args in not_good a.own a.table.now a.rows.now a.marks.now 4 (sym c.marks_allowed.ensures ∙ not-true _ c.if-not-marks_allowed.true-raw)

pub returns-then-not-own_row_known : goal.returns-then-not-own_row_known
returns-then-not-own_row_known c = let a = c.args in not_good a.own a.table.now a.rows.now a.marks.now 5 (sym c.own_row_known.ensures ∙ not-true _ c.if-not-own_row_known.true-raw)

pub returns : goal.returns
returns c = let a = c.args in c.own_column_known.ensures ∙ ap (λ (r : Row). own_column a.own r.base (decode_marks a.marks.now)) c.row_at-ours.ensures ∙ good a.own a.table.now a.rows.now a.marks.now (is_crew a.own (search rules) and_also (sym c.rows_sound.ensures ∙ not-false _ c.if-not-rows_sound.false-raw) and_also read_is (ap (λ (r : Row). r.bits) c.row_at-ours.ensures) c.if-ours-ne0.false and_also (sym c.rows_allowed.ensures ∙ not-false _ c.if-not-rows_allowed.false-raw) and_also (sym c.marks_allowed.ensures ∙ not-false _ c.if-not-marks_allowed.false-raw) and_also (sym c.own_row_known.ensures ∙ not-false _ c.if-not-own_row_known.false-raw) and_also passed)
