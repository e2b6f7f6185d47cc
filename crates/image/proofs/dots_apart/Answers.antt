use mathlib.Core.Path.{◌∙◌}
use Rattle.numbers.proofs.Lists.{passed, ◌and_also◌}
use Rattle.block.proofs.Passing.{said_no, said_yes}
use Rattle.image.proofs.Whole.{not_apart, apart_last}
use Rattle.image.proofs.dots_apart.Goals as goal

pub returns-then-not-records_apart : goal.returns-then-not-records_apart
returns-then-not-records_apart c = not_apart c.args.image.now c.args.count 0 (said_no c.records_apart.ensures c.if-not-records_apart.true-raw)

pub returns-then-not-list_agrees : goal.returns-then-not-list_agrees
returns-then-not-list_agrees c = not_apart c.args.image.now c.args.count 1 (said_no c.list_agrees.ensures c.if-not-list_agrees.true-raw)

pub returns : goal.returns
returns c = c.list_agrees-2.ensures ∙ apart_last c.args.image.now c.args.count (said_yes c.records_apart.ensures c.if-not-records_apart.false-raw and_also said_yes c.list_agrees.ensures c.if-not-list_agrees.false-raw and_also passed)
