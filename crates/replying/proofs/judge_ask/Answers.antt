-- `replying::judge_ask` meets its contract. Row by row (Judging). Assumes nothing.
use mathlib.Core.Path.{ap, sym, ◌∙◌, subst}
use borrow.Author.Tests.{not-true, not-false}
use Rattle.numbers.specs.Numbers.{Crew}
use Rattle.meaning.specs.Exchange.{other_peer, row_ahead_of_us}
use Rattle.layout.specs.Image.{decode}
use Rattle.layout.specs.Messages.{decode_ask}
use Rattle.layout.proofs.MessagesBack.{one_check}
use Rattle.replying.proofs.Judging.{asker_crew, laid_is, clock_lent, formed_is, wrong_check, not_laid_out, not_formed, no_peer, not_for_us, history_lost, may_reply}
use Rattle.replying.proofs.judge_ask.Goals as goal

pub returns-then-not-is_sealed : goal.returns-then-not-is_sealed
returns-then-not-is_sealed c = wrong_check c.args.message.now (decode c.args.image.now) (one_check c.args.message.now c.requires.2 ∙ sym c.is_sealed.ensures ∙ not-true _ c.if-not-is_sealed.true-raw)

pub returns-then-not-greeting_laid_out : goal.returns-then-not-greeting_laid_out
returns-then-not-greeting_laid_out c = not_laid_out c.args.message.now (decode c.args.image.now) (one_check c.args.message.now c.requires.2 ∙ sym c.is_sealed.ensures ∙ not-false _ c.if-not-is_sealed.false-raw) (laid_is c.args.message.now c.greeting_laid_out.result c.greeting_laid_out.ensures ∙ not-true _ c.if-not-greeting_laid_out.true-raw)

pub returns-then-not-ask_formed : goal.returns-then-not-ask_formed
returns-then-not-ask_formed c = not_formed c.args.message.now (decode c.args.image.now) (one_check c.args.message.now c.requires.2 ∙ sym c.is_sealed.ensures ∙ not-false _ c.if-not-is_sealed.false-raw) (laid_is c.args.message.now c.greeting_laid_out.result c.greeting_laid_out.ensures ∙ not-false _ c.if-not-greeting_laid_out.false-raw) (formed_is c.args.image.now c.requires.0 c.args.message.now c.ask_formed.result c.ask_formed.ensures ∙ not-true _ c.if-not-ask_formed.true-raw)

pub other_peer-requires : goal.other_peer-requires
other_peer-requires c = (c.requires.0, c.requires.1, subst Crew (sym c.sender_of.ensures) (asker_crew (decode c.args.image.now).table (decode_ask c.args.message.now) (formed_is c.args.image.now c.requires.0 c.args.message.now c.ask_formed.result c.ask_formed.ensures ∙ not-false _ c.if-not-ask_formed.false-raw)))

pub returns-then-not-other_peer : goal.returns-then-not-other_peer
returns-then-not-other_peer c = no_peer c.args.message.now (decode c.args.image.now) (one_check c.args.message.now c.requires.2 ∙ sym c.is_sealed.ensures ∙ not-false _ c.if-not-is_sealed.false-raw) (laid_is c.args.message.now c.greeting_laid_out.result c.greeting_laid_out.ensures ∙ not-false _ c.if-not-greeting_laid_out.false-raw) (formed_is c.args.image.now c.requires.0 c.args.message.now c.ask_formed.result c.ask_formed.ensures ∙ not-false _ c.if-not-ask_formed.false-raw) (ap (other_peer (decode c.args.image.now)) (sym c.sender_of.ensures) ∙ sym c.other_peer.ensures ∙ not-true _ c.if-not-other_peer.true-raw)

pub returns-then-not-is_for_us : goal.returns-then-not-is_for_us
returns-then-not-is_for_us c = not_for_us c.args.message.now (decode c.args.image.now) (one_check c.args.message.now c.requires.2 ∙ sym c.is_sealed.ensures ∙ not-false _ c.if-not-is_sealed.false-raw) (laid_is c.args.message.now c.greeting_laid_out.result c.greeting_laid_out.ensures ∙ not-false _ c.if-not-greeting_laid_out.false-raw) (formed_is c.args.image.now c.requires.0 c.args.message.now c.ask_formed.result c.ask_formed.ensures ∙ not-false _ c.if-not-ask_formed.false-raw) (ap (other_peer (decode c.args.image.now)) (sym c.sender_of.ensures) ∙ sym c.other_peer.ensures ∙ not-false _ c.if-not-other_peer.false-raw) (sym c.is_for_us.ensures ∙ not-true _ c.if-not-is_for_us.true-raw)

pub returns-then-ahead_of_us : goal.returns-then-ahead_of_us
returns-then-ahead_of_us c = history_lost c.args.message.now (decode c.args.image.now) (one_check c.args.message.now c.requires.2 ∙ sym c.is_sealed.ensures ∙ not-false _ c.if-not-is_sealed.false-raw) (laid_is c.args.message.now c.greeting_laid_out.result c.greeting_laid_out.ensures ∙ not-false _ c.if-not-greeting_laid_out.false-raw) (formed_is c.args.image.now c.requires.0 c.args.message.now c.ask_formed.result c.ask_formed.ensures ∙ not-false _ c.if-not-ask_formed.false-raw) (ap (other_peer (decode c.args.image.now)) (sym c.sender_of.ensures) ∙ sym c.other_peer.ensures ∙ not-false _ c.if-not-other_peer.false-raw) (sym c.is_for_us.ensures ∙ not-false _ c.if-not-is_for_us.false-raw) (ap (row_ahead_of_us (decode c.args.image.now)) (clock_lent c.args.message.now) ∙ sym c.ahead_of_us.ensures ∙ c.if-ahead_of_us.true)

pub returns : goal.returns
returns c = may_reply c.args.message.now (decode c.args.image.now) (one_check c.args.message.now c.requires.2 ∙ sym c.is_sealed.ensures ∙ not-false _ c.if-not-is_sealed.false-raw) (laid_is c.args.message.now c.greeting_laid_out.result c.greeting_laid_out.ensures ∙ not-false _ c.if-not-greeting_laid_out.false-raw) (formed_is c.args.image.now c.requires.0 c.args.message.now c.ask_formed.result c.ask_formed.ensures ∙ not-false _ c.if-not-ask_formed.false-raw) (ap (other_peer (decode c.args.image.now)) (sym c.sender_of.ensures) ∙ sym c.other_peer.ensures ∙ not-false _ c.if-not-other_peer.false-raw) (sym c.is_for_us.ensures ∙ not-false _ c.if-not-is_for_us.false-raw) (ap (row_ahead_of_us (decode c.args.image.now)) (clock_lent c.args.message.now) ∙ sym c.ahead_of_us.ensures ∙ c.if-ahead_of_us.false)
