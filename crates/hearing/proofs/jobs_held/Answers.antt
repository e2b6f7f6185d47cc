-- `hearing::jobs_held` meets its contract. Each point's block is asked (block's Chunks). Assumes nothing.
use Rattle.std.proofs.Common.{rules}
use Rattle.block.proofs.Roads.{all_of}
use Rattle.block.proofs.Chunks.{blocks_given}
use Rattle.meaning.specs.Exchange.{both_hold}
use Rattle.layout.specs.PointBlock.{form_1, decode_stored}
use Rattle.layout.specs.Image.{decode}
use Rattle.hearing.proofs.jobs_held.Goals as goal

pub returns : goal.returns
unfolding decode_stored
returns c =
    all_of (blocks_given (decode_stored form_1) c.args.points.now c.chunks_exact.ensures.rest c.chunks_exact.ensures.size) (λ p. both_hold (decode c.args.image.now) c.args.sender p.key)
    c.all.ensures.ran (λ x b q k. search rules)
