-- `taking::take_in_with` meets its contract (Steps, Ready). Assumes nothing.
use Rattle.std.proofs.Common.{rules, ◌≡◌, Err}
use mathlib.Core.Path.{refl, ap, sym, ◌∙◌}
use mathlib.Core.List.{[], ◌∷◌}
use Rattle.block.proofs.Numbers.{bytes_of}
use Rattle.meaning.specs.State.{Stored}
use Rattle.meaning.specs.Settle.{settle}
use Rattle.layout.specs.Clocks.{decode_clock}
use Rattle.layout.specs.Image.{decode}
use Rattle.layout.specs.Calls.{After, afterwards}
use Rattle.store.proofs.Lent.{good_now}
use Rattle.weighing.specs.Weighed.{key_in, result_of}
use Rattle.taking.specs.Taken.{left_by}
use Rattle.taking.proofs.OfOne.{result_is, clock_left}
use Rattle.taking.proofs.Steps.{settle_refused, settle_made}
use Rattle.taking.proofs.Ready.{takable_now}
use Rattle.taking.proofs.take_in_with.Goals as goal

pub judge_point-requires : goal.judge_point-requires
judge_point-requires c = (c.requires.0, c.requires.1, c.requires.2, (takable_now c.args.m.now (bytes_of c.args.m.now c.type_inv.m) c.requires.3 (decode c.args.image.now) c.requires.4 c.args.here.now c.args.there.now (key_in c.args.m.now) refl (c.requires.9, c.requires.8) c.requires.11 c.requires.10), c.requires.5, c.requires.7)

pub put_taken-requires : goal.put_taken-requires
put_taken-requires c = (c.requires.0, c.requires.1, c.requires.2, (takable_now c.args.m.now (bytes_of c.args.m.now c.type_inv.m) c.requires.3 (decode c.args.image.now) c.requires.4 c.args.here.now c.args.there.now (key_in c.args.m.now) refl (c.requires.9, c.requires.8) c.requires.11 c.requires.10), c.requires.5, c.requires.11, c.requires.6, sym c.judge_point.ensures ∙ c.in_ok-judge_point.was)

pub returns-in_err-judge_point : goal.returns-in_err-judge_point
returns-in_err-judge_point c = let z : ◌≡◌ c.from_residual.result (Err c.in_err-judge_point.field-0.0) = search rules in let e = ap (λ (x : Stored). afterwards c.args.image.now [] (left_by (settle (decode c.args.image.now) (decode c.args.image.now).clock (x ∷ [])))) (sym (result_is (decode c.args.image.now) c.args.m.now c.args.there.now c.requires.11)) ∙ settle_refused (decode c.args.image.now) (decode_clock c.args.rows.now) (result_of (decode c.args.image.now) c.args.m.now c.args.there.now) (decode c.args.image.now).clock (clock_left (decode c.args.image.now) (good_now c.args.image.now c.requires.1) c.args.m.now c.args.here.now c.args.there.now c.requires.11 (takable_now c.args.m.now (bytes_of c.args.m.now c.type_inv.m) c.requires.3 (decode c.args.image.now) c.requires.4 c.args.here.now c.args.there.now (key_in c.args.m.now) refl (c.requires.9, c.requires.8) c.requires.11 c.requires.10) (decode_clock c.args.rows.now) c.requires.6) c.args.image.now c.in_err-judge_point.field-0.0 (sym c.judge_point.ensures ∙ c.in_err-judge_point.was) in (z ∙ sym (ap (λ (a : After). a.verdict) e), sym (ap (λ (a : After). a.image) e))

pub returns : goal.returns
returns c = let e = ap (λ (x : Stored). afterwards c.args.image.now [] (left_by (settle (decode c.args.image.now) (decode c.args.image.now).clock (x ∷ [])))) (sym (result_is (decode c.args.image.now) c.args.m.now c.args.there.now c.requires.11)) ∙ settle_made (decode c.args.image.now) (decode_clock c.args.rows.now) (result_of (decode c.args.image.now) c.args.m.now c.args.there.now) (decode c.args.image.now).clock (clock_left (decode c.args.image.now) (good_now c.args.image.now c.requires.1) c.args.m.now c.args.here.now c.args.there.now c.requires.11 (takable_now c.args.m.now (bytes_of c.args.m.now c.type_inv.m) c.requires.3 (decode c.args.image.now) c.requires.4 c.args.here.now c.args.there.now (key_in c.args.m.now) refl (c.requires.9, c.requires.8) c.requires.11 c.requires.10) (decode_clock c.args.rows.now) c.requires.6) c.args.image.now (sym c.judge_point.ensures ∙ c.in_ok-judge_point.was) in (sym (ap (λ (a : After). a.verdict) e), c.put_taken.ensures ∙ sym (ap (λ (a : After). a.image) e))
