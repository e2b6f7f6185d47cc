-- `checking::judge_outgoing` meets its contract. Row by row (Judging). Assumes nothing.
use mathlib.Core.Path.{ap, sym, ◌∙◌, subst}
use borrow.Author.Tests.{not-true, not-false}
use Rattle.numbers.specs.Numbers.{Crew}
use Rattle.block.proofs.Numbers.{bytes_of}
use Rattle.meaning.specs.Exchange.{other_peer}
use Rattle.layout.specs.Image.{decode}
use Rattle.layout.specs.Messages.{decode_outgoing}
use Rattle.merging.proofs.Slots.{few_slots}
use Rattle.store.proofs.Lent.{counted}
use Rattle.checking.proofs.Judging.{clash_is, not_held, no_peer, history_gone, dot_clash, may_take}
use Rattle.checking.proofs.judge_outgoing.Goals as goal

pub returns-then-not-job_held : goal.returns-then-not-job_held
returns-then-not-job_held c = let a = c.args in
    not_held (decode a.image.now) (decode_outgoing a.message.now) (sym c.job_held.ensures ∙ not-true _ c.if-not-job_held.true-raw)

pub other_peer-requires : goal.other_peer-requires
other_peer-requires c = let r = c.requires in
    (r.0, r.1, subst Crew (sym c.sender_of.ensures) r.4)

pub returns-then-not-other_peer : goal.returns-then-not-other_peer
returns-then-not-other_peer c = let a = c.args in
    let image = a.image.now in
    no_peer (decode image) (decode_outgoing a.message.now) (sym c.job_held.ensures ∙ not-false _ c.if-not-job_held.false-raw) (ap (other_peer (decode image)) (sym c.sender_of.ensures) ∙ sym c.other_peer.ensures ∙ not-true _ c.if-not-other_peer.true-raw)

pub history_lost-requires : goal.history_lost-requires
history_lost-requires c = let a = c.args in
    let r = c.requires in
    let message = a.message.now in
    (r.0, r.1, r.2, few_slots message (bytes_of message c.type_inv.message) r.2 r.3)

pub returns-then-history_lost : goal.returns-then-history_lost
returns-then-history_lost c = let a = c.args in
    let image = a.image.now in
    history_gone (decode image) (decode_outgoing a.message.now) (sym c.job_held.ensures ∙ not-false _ c.if-not-job_held.false-raw) (ap (other_peer (decode image)) (sym c.sender_of.ensures) ∙ sym c.other_peer.ensures ∙ not-false _ c.if-not-other_peer.false-raw) (sym c.history_lost.ensures ∙ c.if-history_lost.true)

pub clashing-requires : goal.clashing-requires
clashing-requires c = let r = c.requires in
    (r.0, r.1, counted c.args.image.now c.stored_count.result c.stored_count.ensures, r.2, r.3)

pub returns-then-clashing : goal.returns-then-clashing
returns-then-clashing c = let a = c.args in
    let image = a.image.now in
    let message = a.message.now in
    dot_clash (decode image) (decode_outgoing message) (sym c.job_held.ensures ∙ not-false _ c.if-not-job_held.false-raw) (ap (other_peer (decode image)) (sym c.sender_of.ensures) ∙ sym c.other_peer.ensures ∙ not-false _ c.if-not-other_peer.false-raw) (sym c.history_lost.ensures ∙ c.if-history_lost.false) (clash_is (decode image) message c.clashing.result _ c.clashing.ensures c.if-clashing.true)

pub returns : goal.returns
returns c = let a = c.args in
    let image = a.image.now in
    let message = a.message.now in
    may_take (decode image) (decode_outgoing message) (sym c.job_held.ensures ∙ not-false _ c.if-not-job_held.false-raw) (ap (other_peer (decode image)) (sym c.sender_of.ensures) ∙ sym c.other_peer.ensures ∙ not-false _ c.if-not-other_peer.false-raw) (sym c.history_lost.ensures ∙ c.if-history_lost.false) (clash_is (decode image) message c.clashing.result _ c.clashing.ensures c.if-clashing.false)
