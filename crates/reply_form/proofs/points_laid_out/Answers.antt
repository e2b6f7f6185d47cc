-- `reply_form::points_laid_out` meets its contract. Each point's block is asked, with its position (block's Chunks). Assumes nothing.
use Prim.Native.Nat.{◌+◌, ◌/◌}
use mathlib.Core.Path.{◌≡◌, ◌∙◌}
use lib.ListN.{length}
use Rattle.std.proofs.Common.{rules}
use Rattle.numbers.specs.Words.{same_list}
use Rattle.block.specs.Block.{block_at}
use Rattle.block.proofs.Passing.{all_upto}
use Rattle.block.proofs.Roads.{all_of, served}
use Rattle.block.proofs.Chunks.{numbered_given, given_size}
use Rattle.layout.specs.PointBlock.{form_1, encode_stored, decode_stored}
use Rattle.reply_form.specs.Parts.{point_laid_out, points_laid_out}
use Rattle.reply_form.proofs.points_laid_out.Goals as goal

pub all-requires-clause-callable : goal.all-requires-clause-callable
all-requires-clause-callable c =
    served (numbered_given (λ b. b) c.args.points.now c.chunks_exact.ensures.rest c.chunks_exact.ensures.size c.enumerate.ensures.source c.enumerate.ensures.count) (λ x q r. search rules)
    (λ x k l e. let at : x.0 ≡ k = λ i. (e i).0 in let size = given_size c.args.points.now k l (λ i. (e i).1) in search rules)

pub returns : goal.returns
unfolding point_laid_out points_laid_out
returns c =
    all_of (numbered_given (λ b. b) c.args.points.now c.chunks_exact.ensures.rest c.chunks_exact.ensures.size c.enumerate.ensures.source c.enumerate.ensures.count)
    (λ p. same_list (encode_stored form_1 (1 + p.0) (decode_stored form_1 p.1)) p.1) c.all.ensures.ran (λ x b q k. search rules)
    ∙ all_upto (λ p. same_list (encode_stored form_1 (1 + p.0) (decode_stored form_1 p.1)) p.1) (length c.args.points.now / 512) (λ k. (k, block_at c.args.points.now k))
