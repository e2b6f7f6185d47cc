-- `opening::opens` meets its contract. Row by row (Ladder). Assumes nothing.
use mathlib.Core.Path.{sym, ◌∙◌}
use native.Mathlib.Omega.{arith}
use borrow.Author.Tests.{not-true, not-false}
use Rattle.opening.proofs.Ladder.{no_image, no_buffer, bad_image, may_open}
use Rattle.opening.proofs.opens.Goals as goal

pub returns-then-image-ne34304 : goal.returns-then-image-ne34304
returns-then-image-ne34304 c = no_image c.args.image.now c.args.lengths c.if-image-ne34304.true

pub returns-then-not-lengths : goal.returns-then-not-lengths
returns-then-not-lengths c = no_buffer c.args.image.now c.args.lengths (omega arith) (not-true _ c.if-not-lengths.true-raw)

pub returns-then-not-good : goal.returns-then-not-good
returns-then-not-good c = bad_image c.args.image.now c.args.lengths (omega arith) (not-false _ c.if-not-lengths.false-raw) (sym c.good.ensures ∙ not-true _ c.if-not-good.true-raw)

pub returns : goal.returns
returns c = may_open c.args.image.now c.args.lengths (omega arith) (not-false _ c.if-not-lengths.false-raw) (sym c.good.ensures ∙ not-false _ c.if-not-good.false-raw)
