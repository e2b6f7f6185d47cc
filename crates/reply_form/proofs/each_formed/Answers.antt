-- `reply_form::each_formed` meets its contract. Each point's block is asked (block's Chunks). Assumes nothing.
use Prim.Native.Nat.{ℕ, ◌≤◌}
use mathlib.Core.Path.{sym, subst}
use mathlib.Core.List.{List}
use Rattle.std.proofs.Common.{rules}
use Rattle.block.specs.Fields.{field}
use Rattle.block.proofs.Roads.{all_of}
use Rattle.block.proofs.Chunks.{blocks_given, blocks_served}
use Rattle.meaning.specs.Message.{point_formed}
use Rattle.layout.specs.PointBlock.{form_1, decode_stored}
use Rattle.reply_form.proofs.each_formed.Goals as goal

pub all-requires-clause-callable : goal.all-requires-clause-callable
all-requires-clause-callable c =
    blocks_served c.args.points.now c.chunks_exact.ensures.rest c.chunks_exact.ensures.size (λ x q r. search rules)
    (λ x k l e size. let few = subst (λ (b : List ℕ). field b 5 1 ≤ 8) (sym e) (c.requires.0 k l) in search rules)

pub returns : goal.returns
unfolding decode_stored
returns c = all_of (blocks_given (decode_stored form_1) c.args.points.now c.chunks_exact.ensures.rest c.chunks_exact.ensures.size) (λ p. point_formed c.args.table.now p.key p.object) c.all.ensures.ran (λ x b q k. search rules)
