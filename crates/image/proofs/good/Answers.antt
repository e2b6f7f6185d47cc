use mathlib.Core.Path.{◌∙◌}
use Rattle.block.proofs.Numbers.{bytes_of}
use Rattle.block.proofs.Passing.{said_no, said_yes}
use Rattle.image.proofs.Whole.{other_length, not_laid, whole_good}
use Rattle.image.proofs.good.Goals as goal

pub returns-then-image-ne34304 : goal.returns-then-image-ne34304
returns-then-image-ne34304 c = other_length c.args.image.now c.if-image-ne34304.true

pub returns-then-not-laid_out : goal.returns-then-not-laid_out
returns-then-not-laid_out c = not_laid c.args.image.now (bytes_of c.args.image.now c.type_inv.image) c.if-image-ne34304.false (said_no c.laid_out.ensures c.if-not-laid_out.true-raw)

pub parts_good-requires : goal.parts_good-requires
parts_good-requires c = (c.if-image-ne34304.false, said_yes c.laid_out.ensures c.if-not-laid_out.false-raw)

pub returns : goal.returns
returns c = c.parts_good.ensures ∙ whole_good c.args.image.now (bytes_of c.args.image.now c.type_inv.image) c.if-image-ne34304.false (said_yes c.laid_out.ensures c.if-not-laid_out.false-raw)
