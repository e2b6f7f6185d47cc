-- `repairing::repair_at` meets its contract (Steps). Assumes nothing.
use Rattle.std.proofs.Common.{rules, ◌≡◌, Err}
use mathlib.Core.Path.{ap, sym, ◌∙◌}
use Rattle.block.proofs.Numbers.{bytes_of}
use Rattle.layout.specs.Calls.{After}
use Rattle.reply_form.proofs.Points.{at_least}
use Rattle.repairing.proofs.Steps.{rest_from, not_repaired, lent, is_repaired}
use native.Mathlib.Omega.{arith}
use Rattle.repairing.proofs.repair_at.Goals as goal

pub slice_bounds-repair_heard-end : goal.slice_bounds-repair_heard-end
slice_bounds-repair_heard-end c = omega (arith, at_least c.args.reply.now c.requires.2)

pub slice_bounds-repair_heard-count-2 : goal.slice_bounds-repair_heard-count-2
slice_bounds-repair_heard-count-2 c = omega (arith, at_least c.args.reply.now c.requires.2, c.requires.3)

pub slice_bounds-repair_heard-start-2 : goal.slice_bounds-repair_heard-start-2
slice_bounds-repair_heard-start-2 c = omega (arith, at_least c.args.reply.now c.requires.2, c.requires.3)

pub repair_heard-requires : goal.repair_heard-requires
repair_heard-requires c = (c.requires.0, c.requires.1, lent c.args.image.now c.args.reply.now c.requires.2 (bytes_of c.args.reply.now c.type_inv.reply) (sym c.judge_reply.ensures ∙ c.in_ok-judge_reply.was) _ (rest_from c.args.reply.now c.args.at c.requires.3))

pub returns-in_err-judge_reply : goal.returns-in_err-judge_reply
returns-in_err-judge_reply c = let z : ◌≡◌ c.from_residual.result (Err c.in_err-judge_reply.field-0.0) = search rules in let e = not_repaired c.args.image.now c.args.reply.now c.requires.2 (bytes_of c.args.reply.now c.type_inv.reply) c.in_err-judge_reply.field-0.0 (sym c.judge_reply.ensures ∙ c.in_err-judge_reply.was) in (z ∙ sym (ap (λ (a : After). a.verdict) e), sym (ap (λ (a : After). a.image) e))

pub returns : goal.returns
returns c = let e = is_repaired c.args.image.now c.args.reply.now c.requires.2 (bytes_of c.args.reply.now c.type_inv.reply) (sym c.judge_reply.ensures ∙ c.in_ok-judge_reply.was) _ (rest_from c.args.reply.now c.args.at c.requires.3) in (c.repair_heard.ensures.0 ∙ sym (ap (λ (a : After). a.verdict) e), c.repair_heard.ensures.1 ∙ sym (ap (λ (a : After). a.image) e))
