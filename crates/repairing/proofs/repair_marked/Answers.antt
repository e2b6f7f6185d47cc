-- `repairing::repair_marked` meets its contract (Merges, Steps). Assumes nothing.
use Rattle.std.proofs.Common.{rules, ◌≡◌, Err}
use borrow.Author.Rules.{rules}
use mathlib.Core.Path.{ap, sym, ◌∙◌}
use mathlib.Core.List.{List}
use mathlib.Core.Bool.{true}
use Rattle.numbers.specs.Words.{map}
use Rattle.refusal.specs.Refusal.{verdict_of}
use Rattle.block.proofs.Numbers.{bytes_of}
use Rattle.meaning.specs.State.{Stored}
use Rattle.layout.specs.Clocks.{decode_clock}
use Rattle.layout.specs.Image.{decode}
use Rattle.layout.specs.Calls.{After}
use Rattle.store.proofs.Lent.{good_now, good_ascends}
use Rattle.arriving.proofs.OfPoints.{block_size}
use Rattle.placing.specs.Placed.{comes}
use Rattle.hearing.specs.Heard.{reply_in}
use Rattle.tallying.specs.Tallied.{mark, results_judged}
use Rattle.repairing.proofs.Merges.{ready, same_results, ordered}
use Rattle.repairing.proofs.Steps.{not_made, made}
use native.Mathlib.Omega.{arith}
use Rattle.repairing.proofs.repair_marked.Goals as goal

pub judge_results-requires : goal.judge_results-requires
judge_results-requires c = (c.requires.0, c.requires.1, c.requires.2, search rules, ready (decode c.args.image.now) (good_now c.args.image.now c.requires.1) (good_ascends c.args.image.now c.requires.1) c.args.head.now c.args.points.now c.args.marks.now c.requires.3 (block_size c.args.points.now (bytes_of c.args.points.now c.type_inv.points)), c.requires.4, omega (arith, c.requires.3.3, c.requires.7), c.requires.7, ordered (decode c.args.image.now) (good_now c.args.image.now c.requires.1) (good_ascends c.args.image.now c.requires.1) c.args.head.now c.args.points.now c.args.marks.now c.requires.3 (block_size c.args.points.now (bytes_of c.args.points.now c.type_inv.points)), c.requires.6)

pub put_repaired-requires : goal.put_repaired-requires
put_repaired-requires c = (c.requires.0, c.requires.1, c.requires.2, c.requires.3, c.requires.4, c.requires.5, c.judge_results.ensures.2, c.judge_results.ensures.1 ∙ ap (map (λ r. mark (comes (decode_clock c.args.rows.now) (decode c.args.image.now).points r))) (same_results (decode c.args.image.now) (good_now c.args.image.now c.requires.1) (good_ascends c.args.image.now c.requires.1) c.args.head.now c.args.points.now c.args.marks.now c.requires.3 (block_size c.args.points.now (bytes_of c.args.points.now c.type_inv.points))), sym (c.judge_results.ensures.0 ∙ ap (λ (rs : List Stored). verdict_of (results_judged (decode c.args.image.now) (decode_clock c.args.rows.now) rs true)) (same_results (decode c.args.image.now) (good_now c.args.image.now c.requires.1) (good_ascends c.args.image.now c.requires.1) c.args.head.now c.args.points.now c.args.marks.now c.requires.3 (block_size c.args.points.now (bytes_of c.args.points.now c.type_inv.points)))) ∙ c.in_ok-judge_results.was)

pub returns-in_err-judge_results : goal.returns-in_err-judge_results
returns-in_err-judge_results c = let z : ◌≡◌ c.from_residual.result (Err c.in_err-judge_results.field-0.0) = search rules in let e = not_made (decode c.args.image.now) (reply_in c.args.head.now c.args.points.now) (decode_clock c.args.rows.now) c.requires.5 c.args.image.now c.in_err-judge_results.field-0.0 (sym (c.judge_results.ensures.0 ∙ ap (λ (rs : List Stored). verdict_of (results_judged (decode c.args.image.now) (decode_clock c.args.rows.now) rs true)) (same_results (decode c.args.image.now) (good_now c.args.image.now c.requires.1) (good_ascends c.args.image.now c.requires.1) c.args.head.now c.args.points.now c.args.marks.now c.requires.3 (block_size c.args.points.now (bytes_of c.args.points.now c.type_inv.points)))) ∙ c.in_err-judge_results.was) in (z ∙ sym (ap (λ (a : After). a.verdict) e), sym (ap (λ (a : After). a.image) e))

pub returns : goal.returns
returns c = let e = made (decode c.args.image.now) (reply_in c.args.head.now c.args.points.now) (decode_clock c.args.rows.now) c.requires.5 c.args.image.now (sym (c.judge_results.ensures.0 ∙ ap (λ (rs : List Stored). verdict_of (results_judged (decode c.args.image.now) (decode_clock c.args.rows.now) rs true)) (same_results (decode c.args.image.now) (good_now c.args.image.now c.requires.1) (good_ascends c.args.image.now c.requires.1) c.args.head.now c.args.points.now c.args.marks.now c.requires.3 (block_size c.args.points.now (bytes_of c.args.points.now c.type_inv.points)))) ∙ c.in_ok-judge_results.was) in (sym (ap (λ (a : After). a.verdict) e), c.put_repaired.ensures ∙ sym (ap (λ (a : After). a.image) e))
