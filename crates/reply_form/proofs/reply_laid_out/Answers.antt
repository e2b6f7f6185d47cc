-- `reply_form::reply_laid_out` meets its contract. The head's block, and then the points' (LaidOut). Assumes nothing.
use Prim.Native.Nat.{◌≤◌}
use mathlib.Core.Path.{ap, sym, ◌∙◌, subst}
use mathlib.Core.List.{List}
use Prim.Native.Nat.{ℕ}
use lib.ListN.{length, length-drop}
use Rattle.block.proofs.Numbers.{bytes_of}
use Rattle.block.proofs.Passing.{passed, failed, last_test, said_no, said_yes}
use Rattle.reply_form.specs.Parts.{points_laid_out}
use Rattle.reply_form.proofs.Points.{at_least, at_most, rest_lent}
use Rattle.reply_form.proofs.LaidOut.{laid_out_tests, head_lent}
use native.Mathlib.Omega.{arith}
use Rattle.reply_form.proofs.reply_laid_out.Goals as goal

pub overflow_sub-many : goal.overflow_sub-many
overflow_sub-many c = omega (arith, at_least c.args.reply.now c.requires)

pub slice_bounds-greeting_laid_out-end : goal.slice_bounds-greeting_laid_out-end
slice_bounds-greeting_laid_out-end c = omega (arith, at_least c.args.reply.now c.requires)

pub overflow_cast-many : goal.overflow_cast-many
overflow_cast-many c = omega (arith, at_most c.args.reply.now c.requires)

pub returns-then-not-greeting_laid_out : goal.returns-then-not-greeting_laid_out
returns-then-not-greeting_laid_out c = failed (laid_out_tests c.args.reply.now c.requires (bytes_of c.args.reply.now c.type_inv.reply)) (said_no (head_lent c.args.reply.now c.requires (bytes_of c.args.reply.now c.type_inv.reply) c.greeting_laid_out.ensures) c.if-not-greeting_laid_out.true-raw)

pub slice_bounds-points_laid_out-count : goal.slice_bounds-points_laid_out-count
slice_bounds-points_laid_out-count c = omega (arith, at_least c.args.reply.now c.requires)

pub slice_bounds-points_laid_out-start : goal.slice_bounds-points_laid_out-start
slice_bounds-points_laid_out-start c = omega (arith, at_least c.args.reply.now c.requires)

pub points_laid_out-requires : goal.points_laid_out-requires
points_laid_out-requires c = subst (λ (l : List ℕ). length l ≤ 61440) (sym (rest_lent c.args.reply.now)) (omega (arith, length-drop 512 c.args.reply.now, at_most c.args.reply.now c.requires))

pub returns : goal.returns
returns c = c.points_laid_out.ensures ∙ ap points_laid_out (rest_lent c.args.reply.now) ∙ last_test (passed (laid_out_tests c.args.reply.now c.requires (bytes_of c.args.reply.now c.type_inv.reply)) (said_yes (head_lent c.args.reply.now c.requires (bytes_of c.args.reply.now c.type_inv.reply) c.greeting_laid_out.ensures) c.if-not-greeting_laid_out.false-raw))
