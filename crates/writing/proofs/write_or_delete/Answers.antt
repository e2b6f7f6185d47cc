-- `writing::write_or_delete` meets its contract. Refused, or made (Steps). Assumes nothing.
use Rattle.std.proofs.Common.{rules, ◌≡◌, Err, Bool, true}
use mathlib.Core.Path.{ap, sym, ◌∙◌}
use Rattle.numbers.specs.Words.{map}
use Rattle.numbers.specs.Numbers.{counter}
use Rattle.layout.specs.Image.{decode}
use Rattle.layout.specs.Calls.{After}
use Rattle.refusal.specs.Refusal.{verdict_of}
use Rattle.record_edits.specs.Said.{contents_of}
use Rattle.store.proofs.Lent.{good_now}
use Rattle.writing.specs.Judged.{judged}
use Rattle.writing.proofs.Steps.{says_value, put_down_refused, put_down_made}
use Rattle.writing.proofs.write_or_delete.Goals as goal

pub put_said-requires : goal.put_said-requires
put_said-requires c = (c.requires.0, c.requires.1, c.requires.2, c.requires.3, c.requires.4, ap (λ (t : Bool). verdict_of (judged (decode c.args.image.now) c.args.k t (map counter c.args.context.now) true)) (says_value c.args.said ∙ sym c.is_some.ensures) ∙ sym c.judge.ensures ∙ c.in_ok-judge.was, c.requires.5)

pub returns-in_err-judge : goal.returns-in_err-judge
returns-in_err-judge c = let s = decode c.args.image.now in let k = c.args.k in let z : ◌≡◌ c.from_residual.result (Err c.in_err-judge.field-0.0) = search rules in let e = put_down_refused s k (map counter c.args.context.now) c.requires.2 (good_now c.args.image.now c.requires.1) (contents_of c.args.said) c.args.image.now c.args.out.now c.in_err-judge.field-0.0 (ap (λ (t : Bool). verdict_of (judged s k t (map counter c.args.context.now) true)) (says_value c.args.said ∙ sym c.is_some.ensures) ∙ sym c.judge.ensures ∙ c.in_err-judge.was) in (z ∙ sym (ap (λ (a : After). a.verdict) e), sym (ap (λ (a : After). a.image) e), sym (ap (λ (a : After). a.out) e))

pub returns : goal.returns
returns c = let s = decode c.args.image.now in let k = c.args.k in let e = put_down_made s k (map counter c.args.context.now) c.requires.2 (good_now c.args.image.now c.requires.1) (contents_of c.args.said) c.args.image.now c.args.out.now (ap (λ (t : Bool). verdict_of (judged s k t (map counter c.args.context.now) true)) (says_value c.args.said ∙ sym c.is_some.ensures) ∙ sym c.judge.ensures ∙ c.in_ok-judge.was) in (sym (ap (λ (a : After). a.verdict) e), c.put_said.ensures.0 ∙ sym (ap (λ (a : After). a.image) e), c.put_said.ensures.1 ∙ sym (ap (λ (a : After). a.out) e))
