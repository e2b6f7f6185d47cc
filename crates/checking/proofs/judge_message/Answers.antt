-- `checking::judge_message` meets its contract. Rows 3 and 4, and then the rest (Judging). Assumes nothing.
use borrow.Author.Rules.{rules}
use mathlib.Core.Path.{sym, ◌∙◌}
use borrow.Author.Tests.{not-true, not-false}
use Rattle.block.proofs.Numbers.{bytes_of}
use Rattle.layout.specs.Image.{decode}
use Rattle.layout.specs.Messages.{decode_outgoing}
use Rattle.merging.proofs.Slots.{few_slots}
use Rattle.layout.proofs.MessagesBack.{one_check}
use Rattle.checking.proofs.Judging.{laid_out_is, laid_message, sender_crew, formed_is, wrong_check, not_laid_out, not_formed, by_the_rest}
use Rattle.checking.proofs.judge_message.Goals as goal

pub returns-then-not-is_sealed : goal.returns-then-not-is_sealed
returns-then-not-is_sealed c = let a = c.args in
    let message = a.message.now in
    wrong_check message (decode a.image.now) (one_check message c.requires.2 ∙ sym c.is_sealed.ensures ∙ not-true _ c.if-not-is_sealed.true-raw)

pub returns-then-not-point_laid_out : goal.returns-then-not-point_laid_out
returns-then-not-point_laid_out c = let a = c.args in
    let message = a.message.now in
    not_laid_out message (decode a.image.now) (one_check message c.requires.2 ∙ sym c.is_sealed.ensures ∙ not-false _ c.if-not-is_sealed.false-raw) (laid_out_is message c.point_laid_out.result c.point_laid_out.ensures ∙ not-true _ c.if-not-point_laid_out.true-raw)

pub message_formed-requires : goal.message_formed-requires
message_formed-requires c = let a = c.args in
    let r = c.requires in
    let message = a.message.now in
    (r.2, few_slots message (bytes_of message c.type_inv.message) r.2 (laid_message message (bytes_of message c.type_inv.message) r.2 (laid_out_is message c.point_laid_out.result c.point_laid_out.ensures ∙ not-false _ c.if-not-point_laid_out.false-raw)), search rules)

pub returns-then-not-message_formed : goal.returns-then-not-message_formed
returns-then-not-message_formed c = let a = c.args in
    let r = c.requires in
    let image = a.image.now in
    let message = a.message.now in
    not_formed message (decode image) (one_check message r.2 ∙ sym c.is_sealed.ensures ∙ not-false _ c.if-not-is_sealed.false-raw) (laid_out_is message c.point_laid_out.result c.point_laid_out.ensures ∙ not-false _ c.if-not-point_laid_out.false-raw) (formed_is image r.0 message c.message_formed.result c.message_formed.ensures ∙ not-true _ c.if-not-message_formed.true-raw)

pub judge_outgoing-requires : goal.judge_outgoing-requires
judge_outgoing-requires c = let a = c.args in
    let r = c.requires in
    let image = a.image.now in
    let message = a.message.now in
    (r.0, r.1, r.2, (laid_message message (bytes_of message c.type_inv.message) r.2 (laid_out_is message c.point_laid_out.result c.point_laid_out.ensures ∙ not-false _ c.if-not-point_laid_out.false-raw)), sender_crew (decode image).table (decode_outgoing message) (formed_is image r.0 message c.message_formed.result c.message_formed.ensures ∙ not-false _ c.if-not-message_formed.false-raw))

pub returns : goal.returns
returns c = let a = c.args in
    let r = c.requires in
    let image = a.image.now in
    let message = a.message.now in
    by_the_rest message (decode image) (one_check message r.2 ∙ sym c.is_sealed.ensures ∙ not-false _ c.if-not-is_sealed.false-raw) (laid_out_is message c.point_laid_out.result c.point_laid_out.ensures ∙ not-false _ c.if-not-point_laid_out.false-raw) (formed_is image r.0 message c.message_formed.result c.message_formed.ensures ∙ not-false _ c.if-not-message_formed.false-raw) c.judge_outgoing.result c.judge_outgoing.ensures
