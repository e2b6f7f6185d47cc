-- `reply_form::keys_ascend` meets its contract. The keys are those of the points, one after the other (block's Chunks). Assumes nothing.
use mathlib.Core.Path.{◌∙◌}
use Rattle.std.proofs.Common.{rules}
use Rattle.numbers.specs.Key.{key_before}
use Rattle.block.proofs.Roads.{sorted_of}
use Rattle.block.proofs.Chunks.{mapped_given}
use Rattle.layout.specs.PointBlock.{form_1, decode_point, decode_stored}
use Rattle.reply_form.proofs.Loops.{keys_tests}
use Rattle.reply_form.proofs.keys_ascend.Goals as goal

pub returns : goal.returns
unfolding decode_stored
returns c =
    sorted_of (mapped_given (λ b. (decode_point form_1 b).key) c.args.points.now c.chunks_exact.ensures.rest c.chunks_exact.ensures.size c.map.ensures.source c.map.ensures.closure (λ x r q k. search rules)) key_before
    c.is_sorted_by.ensures.runs (λ x y b q k. search rules)
    ∙ keys_tests c.args.points.now
