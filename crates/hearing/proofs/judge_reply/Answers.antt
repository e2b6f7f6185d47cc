-- `hearing::judge_reply` meets its contract. Rows 3 and 4, and then the rest (Judging). Assumes nothing.
use borrow.Author.Rules.{rules}
use Prim.Native.Nat.{ℕ}
use mathlib.Core.Path.{ap, sym, ◌∙◌, subst}
use mathlib.Core.Bool.{true}
use mathlib.Core.List.{List}
use borrow.Author.Tests.{not-true, not-false}
use Rattle.numbers.specs.Numbers.{Crew}
use Rattle.refusal.specs.Refusal.{verdict_of}
use Rattle.block.specs.Fields.{cut}
use Rattle.block.proofs.Numbers.{bytes_of}
use Rattle.block.proofs.Parts.{length_cut}
use Rattle.meaning.specs.CrewTable.{CrewTable}
use Rattle.meaning.specs.Message.{Reply, reply_formed}
use Rattle.layout.specs.Image.{decode}
use Rattle.layout.specs.Messages.{decode_reply}
use Rattle.store.proofs.Lent.{table_part}
use Rattle.arriving.specs.Sent.{Few}
use Rattle.reply_form.proofs.Points.{at_least, rest_lent}
use Rattle.reply_form.proofs.LaidOut.{laid_point, few}
use Rattle.hearing.specs.Heard.{AllLaid, reply_in, peers_judged}
use Rattle.hearing.proofs.Points.{reply_lent}
use Rattle.hearing.proofs.Judging.{wrong_check, not_laid_out, not_formed, by_the_rest}
use native.Mathlib.Omega.{arith}
use Rattle.laws.proofs.Formed.{formed_reply}
use Rattle.hearing.proofs.judge_reply.Goals as goal

pub returns-then-not-reply_sealed : goal.returns-then-not-reply_sealed
returns-then-not-reply_sealed c = let image = c.args.image.now in
    let reply = c.args.reply.now in
    wrong_check reply (decode image) (sym c.reply_sealed.ensures ∙ not-true _ c.if-not-reply_sealed.true-raw)

pub returns-then-not-reply_laid_out : goal.returns-then-not-reply_laid_out
returns-then-not-reply_laid_out c = let image = c.args.image.now in
    let reply = c.args.reply.now in
    not_laid_out reply (decode image) (sym c.reply_sealed.ensures ∙ not-false _ c.if-not-reply_sealed.false-raw) (sym c.reply_laid_out.ensures ∙ not-true _ c.if-not-reply_laid_out.true-raw)

pub reply_formed-requires : goal.reply_formed-requires
reply_formed-requires c = (c.requires.2, (sym c.reply_laid_out.ensures ∙ not-false _ c.if-not-reply_laid_out.false-raw), search rules)

pub returns-then-not-reply_formed : goal.returns-then-not-reply_formed
returns-then-not-reply_formed c = let r = c.requires in
    let image = c.args.image.now in
    let reply = c.args.reply.now in
    not_formed reply (decode image) (sym c.reply_sealed.ensures ∙ not-false _ c.if-not-reply_sealed.false-raw) (sym c.reply_laid_out.ensures ∙ not-false _ c.if-not-reply_laid_out.false-raw) (ap (λ (t : CrewTable). reply_formed t (decode_reply reply)) (sym (table_part image r.0)) ∙ sym c.reply_formed.ensures ∙ not-true _ c.if-not-reply_formed.true-raw)

pub slice_bounds-judge_points-end : goal.slice_bounds-judge_points-end
slice_bounds-judge_points-end c = omega (arith, at_least c.args.reply.now c.requires.2)

pub slice_bounds-judge_points-count-2 : goal.slice_bounds-judge_points-count-2
slice_bounds-judge_points-count-2 c = omega (arith, at_least c.args.reply.now c.requires.2)

pub slice_bounds-judge_points-start-2 : goal.slice_bounds-judge_points-start-2
slice_bounds-judge_points-start-2 c = omega (arith, at_least c.args.reply.now c.requires.2)

pub judge_points-requires : goal.judge_points-requires
judge_points-requires c = let r = c.requires in
    let image = c.args.image.now in
    let reply = c.args.reply.now in
    let laid = (sym c.reply_laid_out.ensures ∙ not-false _ c.if-not-reply_laid_out.false-raw) in
    let lent = sym (rest_lent reply) in
    (r.0, r.1, length_cut reply 0 512 (omega (arith, at_least reply r.2)), subst Few lent (few reply r.2 (bytes_of reply c.type_inv.reply) laid), subst AllLaid lent (laid_point reply r.2 (bytes_of reply c.type_inv.reply) laid), subst (λ (q : Reply). Crew q.sender) (reply_lent reply) (formed_reply (decode image).table (decode_reply reply) (ap (λ (t : CrewTable). reply_formed t (decode_reply reply)) (sym (table_part image r.0)) ∙ sym c.reply_formed.ensures ∙ not-false _ c.if-not-reply_formed.false-raw)).sender)

pub returns : goal.returns
returns c = let r = c.requires in
    let image = c.args.image.now in
    let reply = c.args.reply.now in
    by_the_rest reply (decode image) (sym c.reply_sealed.ensures ∙ not-false _ c.if-not-reply_sealed.false-raw) (sym c.reply_laid_out.ensures ∙ not-false _ c.if-not-reply_laid_out.false-raw) (ap (λ (t : CrewTable). reply_formed t (decode_reply reply)) (sym (table_part image r.0)) ∙ sym c.reply_formed.ensures ∙ not-false _ c.if-not-reply_formed.false-raw) _ (c.judge_points.ensures ∙ ap (λ (l : List ℕ). verdict_of (peers_judged (decode image) (reply_in (cut reply 0 512) l) true)) (rest_lent reply))
