-- `weighing::given_context` meets its contract. Assumes nothing.
use mathlib.Core.Path.{◌∙◌}
use Rattle.merging.proofs.Eight.{made_more, made_all}
use Rattle.weighing.proofs.Contexts.{given, entry_at, context_whole}
use native.Mathlib.Omega.{arith}
use Rattle.weighing.proofs.given_context.Goals as goal

pub loop-i-preserved : goal.loop-i-preserved
loop-i-preserved c = made_more (given c.args.stored.now) c.loop-i.i c.loop-i.out c.loop-i.invariant (omega arith) (entry_at c.args.stored.now c.loop-i.i (omega arith) c.u32_at.ensures)

pub returns : goal.returns
returns c = (made_all (given c.args.stored.now) c.loop-i.i c.loop-i.out c.loop-i.invariant (omega arith) ∙ context_whole c.args.stored.now, c.loop-i.invariant.size)
