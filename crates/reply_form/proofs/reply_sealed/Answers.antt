-- `reply_form::reply_sealed` meets its contract. Each block is asked (block's Chunks). Assumes nothing.
use Rattle.std.proofs.Common.{rules}
use Rattle.block.specs.Block.{blocks}
use Rattle.block.specs.Check.{sealed}
use Rattle.block.proofs.Roads.{all_of}
use Rattle.block.proofs.Chunks.{blocks_given}
use Rattle.layout.specs.Messages.{checks_right}
use Rattle.reply_form.proofs.reply_sealed.Goals as goal

pub returns : goal.returns
unfolding checks_right blocks
returns c = all_of (blocks_given (λ b. b) c.args.reply.now c.chunks_exact.ensures.rest c.chunks_exact.ensures.size) sealed c.all.ensures.ran (λ x b q k. search rules)
