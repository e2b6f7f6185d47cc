-- `hearing::judge_points` meets its contract. Row by row (Judging). Assumes nothing.
use mathlib.Core.Path.{ap, sym, ◌∙◌, subst}
use borrow.Author.Tests.{not-true, not-false}
use Rattle.numbers.specs.declared.Controller.{Controller}
use Rattle.numbers.specs.Words.{all?}
use Rattle.numbers.specs.Numbers.{Crew}
use Rattle.meaning.specs.Exchange.{both_hold, other_peer, row_ahead_of_us}
use Rattle.layout.specs.Image.{decode}
use Rattle.store.proofs.Lent.{counted}
use Rattle.arriving.specs.Sent.{points_in}
use Rattle.replying.proofs.Judging.{clock_lent}
use Rattle.hearing.specs.Heard.{reply_in}
use Rattle.hearing.proofs.Judging.{not_held, no_peer, not_for_us, point_ahead, row_ahead, dot_clash, may_repair}
use Rattle.hearing.proofs.judge_points.Goals as goal

pub jobs_held-requires : goal.jobs_held-requires
jobs_held-requires c = let r = c.requires in
    (r.0, r.1, subst Crew (sym c.sender_of-sender.ensures) r.5)

pub returns-then-not-jobs_held : goal.returns-then-not-jobs_held
returns-then-not-jobs_held c = let a = c.args in
    not_held (decode a.image.now) (reply_in a.head.now a.points.now) (ap (λ (n : Controller). all? (λ p. both_hold (decode a.image.now) n p.key) (points_in a.points.now)) (sym c.sender_of-sender.ensures) ∙ sym c.jobs_held.ensures ∙ not-true _ c.if-not-jobs_held.true-raw)

pub other_peer-requires : goal.other_peer-requires
other_peer-requires c = let r = c.requires in
    (r.0, r.1, subst Crew (sym c.sender_of-sender.ensures) r.5)

pub returns-then-not-other_peer : goal.returns-then-not-other_peer
returns-then-not-other_peer c = let a = c.args in
    no_peer (decode a.image.now) (reply_in a.head.now a.points.now) (ap (λ (n : Controller). all? (λ p. both_hold (decode a.image.now) n p.key) (points_in a.points.now)) (sym c.sender_of-sender.ensures) ∙ sym c.jobs_held.ensures ∙ not-false _ c.if-not-jobs_held.false-raw) (ap (other_peer (decode a.image.now)) (sym c.sender_of-sender.ensures) ∙ sym c.other_peer.ensures ∙ not-true _ c.if-not-other_peer.true-raw)

pub returns-then-not-is_for_us : goal.returns-then-not-is_for_us
returns-then-not-is_for_us c = let a = c.args in
    not_for_us (decode a.image.now) (reply_in a.head.now a.points.now) (ap (λ (n : Controller). all? (λ p. both_hold (decode a.image.now) n p.key) (points_in a.points.now)) (sym c.sender_of-sender.ensures) ∙ sym c.jobs_held.ensures ∙ not-false _ c.if-not-jobs_held.false-raw) (ap (other_peer (decode a.image.now)) (sym c.sender_of-sender.ensures) ∙ sym c.other_peer.ensures ∙ not-false _ c.if-not-other_peer.false-raw) (sym c.is_for_us.ensures ∙ not-true _ c.if-not-is_for_us.true-raw)

pub returns-then-points_ahead : goal.returns-then-points_ahead
returns-then-points_ahead c = let a = c.args in
    point_ahead (decode a.image.now) (reply_in a.head.now a.points.now) (ap (λ (n : Controller). all? (λ p. both_hold (decode a.image.now) n p.key) (points_in a.points.now)) (sym c.sender_of-sender.ensures) ∙ sym c.jobs_held.ensures ∙ not-false _ c.if-not-jobs_held.false-raw) (ap (other_peer (decode a.image.now)) (sym c.sender_of-sender.ensures) ∙ sym c.other_peer.ensures ∙ not-false _ c.if-not-other_peer.false-raw) (sym c.is_for_us.ensures ∙ not-false _ c.if-not-is_for_us.false-raw) (sym c.points_ahead.ensures ∙ c.if-points_ahead.true)

pub returns-then-ahead_of_us : goal.returns-then-ahead_of_us
returns-then-ahead_of_us c = let a = c.args in
    row_ahead (decode a.image.now) (reply_in a.head.now a.points.now) (ap (λ (n : Controller). all? (λ p. both_hold (decode a.image.now) n p.key) (points_in a.points.now)) (sym c.sender_of-sender.ensures) ∙ sym c.jobs_held.ensures ∙ not-false _ c.if-not-jobs_held.false-raw) (ap (other_peer (decode a.image.now)) (sym c.sender_of-sender.ensures) ∙ sym c.other_peer.ensures ∙ not-false _ c.if-not-other_peer.false-raw) (sym c.is_for_us.ensures ∙ not-false _ c.if-not-is_for_us.false-raw) (sym c.points_ahead.ensures ∙ c.if-points_ahead.false) (ap (row_ahead_of_us (decode a.image.now)) (clock_lent a.head.now) ∙ sym c.ahead_of_us.ensures ∙ c.if-ahead_of_us.true)

pub points_clash-requires : goal.points_clash-requires
points_clash-requires c = let r = c.requires in
    (r.0, r.1, counted c.args.image.now c.stored_count.result c.stored_count.ensures, r.4)

pub returns-then-points_clash : goal.returns-then-points_clash
returns-then-points_clash c = let a = c.args in
    dot_clash (decode a.image.now) (reply_in a.head.now a.points.now) (ap (λ (n : Controller). all? (λ p. both_hold (decode a.image.now) n p.key) (points_in a.points.now)) (sym c.sender_of-sender.ensures) ∙ sym c.jobs_held.ensures ∙ not-false _ c.if-not-jobs_held.false-raw) (ap (other_peer (decode a.image.now)) (sym c.sender_of-sender.ensures) ∙ sym c.other_peer.ensures ∙ not-false _ c.if-not-other_peer.false-raw) (sym c.is_for_us.ensures ∙ not-false _ c.if-not-is_for_us.false-raw) (sym c.points_ahead.ensures ∙ c.if-points_ahead.false) (ap (row_ahead_of_us (decode a.image.now)) (clock_lent a.head.now) ∙ sym c.ahead_of_us.ensures ∙ c.if-ahead_of_us.false) (sym c.points_clash.ensures ∙ c.if-points_clash.true)

pub returns : goal.returns
returns c = let a = c.args in
    may_repair (decode a.image.now) (reply_in a.head.now a.points.now) (ap (λ (n : Controller). all? (λ p. both_hold (decode a.image.now) n p.key) (points_in a.points.now)) (sym c.sender_of-sender.ensures) ∙ sym c.jobs_held.ensures ∙ not-false _ c.if-not-jobs_held.false-raw) (ap (other_peer (decode a.image.now)) (sym c.sender_of-sender.ensures) ∙ sym c.other_peer.ensures ∙ not-false _ c.if-not-other_peer.false-raw) (sym c.is_for_us.ensures ∙ not-false _ c.if-not-is_for_us.false-raw) (sym c.points_ahead.ensures ∙ c.if-points_ahead.false) (ap (row_ahead_of_us (decode a.image.now)) (clock_lent a.head.now) ∙ sym c.ahead_of_us.ensures ∙ c.if-ahead_of_us.false) (sym c.points_clash.ensures ∙ c.if-points_clash.false)
