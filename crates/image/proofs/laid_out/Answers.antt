use native.Mathlib.Omega.{arith}
use mathlib.Core.Path.{◌∙◌}
use Rattle.numbers.proofs.Lists.{passed, ◌and_also◌}
use Rattle.block.proofs.Passing.{said_no, said_yes}
use Rattle.image.proofs.Counted.{stored_few}
use Rattle.image.proofs.Whole.{not_laid_out, laid_out, head_part, own_part, foreign_part, points_part, rest_part}
use Rattle.image.proofs.laid_out.Goals as goal

pub returns-then-not-head_laid_out : goal.returns-then-not-head_laid_out
returns-then-not-head_laid_out c = not_laid_out c.args.image.now 0 (said_no (head_part c.args.image.now c.head_laid_out.result c.head_laid_out.ensures) c.if-not-head_laid_out.true-raw)

pub returns-then-not-dots_laid_out : goal.returns-then-not-dots_laid_out
returns-then-not-dots_laid_out c = not_laid_out c.args.image.now 1 (said_no (own_part c.args.image.now c.dots_laid_out.result c.dots_laid_out.ensures) c.if-not-dots_laid_out.true-raw)

pub returns-then-not-dots_laid_out-2 : goal.returns-then-not-dots_laid_out-2
returns-then-not-dots_laid_out-2 c = not_laid_out c.args.image.now 2 (said_no (foreign_part c.args.image.now c.dots_laid_out-2.result c.dots_laid_out-2.ensures) c.if-not-dots_laid_out-2.true-raw)

pub points_laid_out-requires : goal.points_laid_out-requires
points_laid_out-requires c = (omega arith, omega (arith, stored_few c.args.image.now, c.stored_count-count.ensures))

pub returns-then-not-points_laid_out : goal.returns-then-not-points_laid_out
returns-then-not-points_laid_out c = not_laid_out c.args.image.now 3 (said_no (points_part c.args.image.now c.stored_count-count.result c.points_laid_out.result c.stored_count-count.ensures c.points_laid_out.ensures) c.if-not-points_laid_out.true-raw)

pub overflow_add-count : goal.overflow_add-count
overflow_add-count c = omega (arith, stored_few c.args.image.now, c.stored_count-count.ensures)

pub overflow_mul-count : goal.overflow_mul-count
overflow_mul-count c = omega (arith, stored_few c.args.image.now, c.stored_count-count.ensures)

pub is_zero-requires : goal.is_zero-requires
is_zero-requires c = (omega (arith, stored_few c.args.image.now, c.stored_count-count.ensures), omega arith)

pub returns : goal.returns
returns c = rest_part c.args.image.now c.stored_count-count.result c.is_zero.result c.requires c.stored_count-count.ensures c.is_zero.ensures ∙ laid_out c.args.image.now (said_yes (head_part c.args.image.now c.head_laid_out.result c.head_laid_out.ensures) c.if-not-head_laid_out.false-raw and_also said_yes (own_part c.args.image.now c.dots_laid_out.result c.dots_laid_out.ensures) c.if-not-dots_laid_out.false-raw and_also said_yes (foreign_part c.args.image.now c.dots_laid_out-2.result c.dots_laid_out-2.ensures) c.if-not-dots_laid_out-2.false-raw and_also said_yes (points_part c.args.image.now c.stored_count-count.result c.points_laid_out.result c.stored_count-count.ensures c.points_laid_out.ensures) c.if-not-points_laid_out.false-raw and_also passed)
