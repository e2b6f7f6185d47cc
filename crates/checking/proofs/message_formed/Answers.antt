-- `checking::message_formed` meets its contract. Test after test (Judging). Assumes nothing.
use mathlib.Core.Path.{ap, ◌∙◌}
use Rattle.numbers.specs.Numbers.{is_controller}
use Rattle.block.proofs.Passing.{passed, failed, last_test, said_no, said_yes}
use Rattle.layout.specs.PointBlock.{form_1, decode_point}
use Rattle.record.proofs.Questions.{formed_crewed}
use Rattle.checking.proofs.Judging.{formed_tests}
use Rattle.checking.proofs.message_formed.Goals as goal

pub returns-then-not-is_controller : goal.returns-then-not-is_controller
returns-then-not-is_controller c = let a = c.args in
    failed (formed_tests a.message.now a.table.now) (said_no (c.is_controller.ensures ∙ ap is_controller c.sender_of.ensures) c.if-not-is_controller.true-raw)

pub returns-then-not-point_formed : goal.returns-then-not-point_formed
returns-then-not-point_formed c = let a = c.args in
    failed (passed (formed_tests a.message.now a.table.now) (said_yes (c.is_controller.ensures ∙ ap is_controller c.sender_of.ensures) c.if-not-is_controller.false-raw)) (said_no c.point_formed.ensures c.if-not-point_formed.true-raw)

pub covered_as_is-requires : goal.covered_as_is-requires
covered_as_is-requires c = let a = c.args in
    let r = c.requires in
    let message = a.message.now in
    (r.0, r.1, formed_crewed a.table.now (decode_point form_1 message).key (decode_point form_1 message).object (said_yes c.point_formed.ensures c.if-not-point_formed.false-raw))

pub returns : goal.returns
returns c = let a = c.args in
    c.covered_as_is.ensures ∙ last_test (passed (passed (formed_tests a.message.now a.table.now) (said_yes (c.is_controller.ensures ∙ ap is_controller c.sender_of.ensures) c.if-not-is_controller.false-raw)) (said_yes c.point_formed.ensures c.if-not-point_formed.false-raw))
