-- `hearing::points_clash` meets its contract. Each point's block is asked (block's Chunks). Assumes nothing.
use mathlib.Core.Path.{sym, subst}
use Rattle.std.proofs.Common.{rules}
use Rattle.numbers.specs.Words.{some?}
use Rattle.block.specs.Block.{Laid}
use Rattle.block.proofs.Roads.{any_of}
use Rattle.block.proofs.Chunks.{blocks_given, blocks_served}
use Rattle.meaning.specs.Exchange.{clashes}
use Rattle.layout.specs.PointBlock.{form_1, decode_stored}
use Rattle.layout.specs.Image.{decode}
use Rattle.record_edits.specs.Written.{lay_point, point_block}
use Rattle.hearing.proofs.points_clash.Goals as goal

pub any-requires-clause-callable : goal.any-requires-clause-callable
any-requires-clause-callable c =
    blocks_served c.args.points.now c.chunks_exact.ensures.rest c.chunks_exact.ensures.size (λ x q r. search rules)
    (λ x k l e size. let laid = subst (Laid lay_point point_block) (sym e) (c.requires.3 k l) in search rules)

pub returns : goal.returns
unfolding decode_stored
returns c =
    any_of (blocks_given (decode_stored form_1) c.args.points.now c.chunks_exact.ensures.rest c.chunks_exact.ensures.size) (λ p. some? (clashes (decode c.args.image.now) p.key) p.object.versions)
    c.any.ensures.ran (λ x b q k. search rules)
