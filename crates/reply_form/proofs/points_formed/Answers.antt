-- `reply_form::points_formed` meets its contract. Test by test (Formed). Assumes nothing.
use mathlib.Core.Path.{◌∙◌}
use Rattle.block.proofs.Passing.{passed, failed, last_test, said_no, said_yes}
use Rattle.layout.specs.Clocks.{decode_clock}
use Rattle.arriving.specs.Sent.{points_in}
use Rattle.reply_form.proofs.Formed.{points_tests}
use Rattle.reply_form.proofs.points_formed.Goals as goal

pub each_formed-requires : goal.each_formed-requires
each_formed-requires c = (c.requires.0, c.requires.1)

pub returns-then-not-each_formed : goal.returns-then-not-each_formed
returns-then-not-each_formed c = failed (points_tests c.args.table.now (decode_clock c.args.rows.now) (points_in c.args.points.now)) (said_no c.each_formed.ensures c.if-not-each_formed.true-raw)

pub each_covered-requires : goal.each_covered-requires
each_covered-requires c = (c.requires.0, c.requires.1, c.requires.2, said_yes c.each_formed.ensures c.if-not-each_formed.false-raw)

pub returns-then-not-each_covered : goal.returns-then-not-each_covered
returns-then-not-each_covered c = failed (passed (points_tests c.args.table.now (decode_clock c.args.rows.now) (points_in c.args.points.now)) (said_yes c.each_formed.ensures c.if-not-each_formed.false-raw)) (said_no c.each_covered.ensures c.if-not-each_covered.true-raw)

pub returns-then-not-keys_ascend : goal.returns-then-not-keys_ascend
returns-then-not-keys_ascend c = failed (passed (passed (points_tests c.args.table.now (decode_clock c.args.rows.now) (points_in c.args.points.now)) (said_yes c.each_formed.ensures c.if-not-each_formed.false-raw)) (said_yes c.each_covered.ensures c.if-not-each_covered.false-raw)) (said_no c.keys_ascend.ensures c.if-not-keys_ascend.true-raw)

pub all_apart-requires : goal.all_apart-requires
all_apart-requires c = (c.requires.0, (said_yes c.keys_ascend.ensures c.if-not-keys_ascend.false-raw))

pub returns : goal.returns
returns c = c.all_apart.ensures ∙ last_test (passed (passed (passed (points_tests c.args.table.now (decode_clock c.args.rows.now) (points_in c.args.points.now)) (said_yes c.each_formed.ensures c.if-not-each_formed.false-raw)) (said_yes c.each_covered.ensures c.if-not-each_covered.false-raw)) (said_yes c.keys_ascend.ensures c.if-not-keys_ascend.false-raw))
