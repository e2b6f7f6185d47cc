-- `own_calls::write` meets its contract. Refused by rows 1, 2 and 5, or what the step answers (Writing). Assumes nothing.
use Rattle.std.proofs.Common.{rules, ◌≡◌, Err}
use mathlib.Core.Path.{◌≡◌, ap, ap₂, sym, ◌∙◌, subst}
use mathlib.Core.Bool.{Bool, true, ◌&&◌}
use borrow.Author.Tests.{eqb-true}
use lib.ListN.{length}
use lib.Dec.{eqb}
use Rattle.refusal.specs.Refusal.{verdict_of}
use Rattle.numbers.specs.declared.Key.{Key}
use Rattle.numbers.specs.Words.{map}
use Rattle.numbers.specs.Numbers.{counter}
use Rattle.numbers.specs.Key.{key}
use Rattle.numbers.proofs.Tests.{and_left, and_right}
use Rattle.meaning.specs.OwnSteps.{ours, write}
use Rattle.layout.specs.Image.{decode}
use Rattle.layout.specs.Calls.{After, afterwards, one_block}
use Rattle.writing.specs.LeftBy.{left_by}
use Rattle.opening.specs.Admitted.{admitted}
use Rattle.opening.proofs.Ladder.{what_is_admitted}
use Rattle.own_calls.proofs.Writing.{write_refused, write_goes_on}
use Rattle.own_calls.proofs.write.Goals as goal

pub write_at-requires : goal.write_at-requires
write_at-requires c = ((what_is_admitted c.args.image.now (eqb (length c.args.context.now) 8 && one_block c.args.out.now) (key c.args.job c.args.point) ((sym (c.admit.ensures ∙ ap₂ (λ (b : Bool) (x : Key). verdict_of (admitted c.args.image.now b x)) c.lengths_right.ensures c.named-k.ensures)) ∙ c.in_ok-admit.was)).size, (what_is_admitted c.args.image.now (eqb (length c.args.context.now) 8 && one_block c.args.out.now) (key c.args.job c.args.point) ((sym (c.admit.ensures ∙ ap₂ (λ (b : Bool) (x : Key). verdict_of (admitted c.args.image.now b x)) c.lengths_right.ensures c.named-k.ensures)) ∙ c.in_ok-admit.was)).good, subst (λ (x : Key). ours (decode c.args.image.now) x ≡ true) (sym c.named-k.ensures) (what_is_admitted c.args.image.now (eqb (length c.args.context.now) 8 && one_block c.args.out.now) (key c.args.job c.args.point) ((sym (c.admit.ensures ∙ ap₂ (λ (b : Bool) (x : Key). verdict_of (admitted c.args.image.now b x)) c.lengths_right.ensures c.named-k.ensures)) ∙ c.in_ok-admit.was)).mine, eqb-true (length c.args.context.now) 8 (and_left (eqb (length c.args.context.now) 8) (one_block c.args.out.now) (what_is_admitted c.args.image.now (eqb (length c.args.context.now) 8 && one_block c.args.out.now) (key c.args.job c.args.point) ((sym (c.admit.ensures ∙ ap₂ (λ (b : Bool) (x : Key). verdict_of (admitted c.args.image.now b x)) c.lengths_right.ensures c.named-k.ensures)) ∙ c.in_ok-admit.was)).right), eqb-true (length c.args.out.now) 512 (and_right (eqb (length c.args.context.now) 8) (one_block c.args.out.now) (what_is_admitted c.args.image.now (eqb (length c.args.context.now) 8 && one_block c.args.out.now) (key c.args.job c.args.point) ((sym (c.admit.ensures ∙ ap₂ (λ (b : Bool) (x : Key). verdict_of (admitted c.args.image.now b x)) c.lengths_right.ensures c.named-k.ensures)) ∙ c.in_ok-admit.was)).right))

pub returns-in_err-admit : goal.returns-in_err-admit
returns-in_err-admit c = let z : ◌≡◌ c.from_residual.result (Err c.in_err-admit.field-0.0) = search rules in let e = write_refused c.args.image.now c.args.job c.args.point c.args.context.now c.args.out.now c.args.value.now c.in_err-admit.field-0.0 ((sym (c.admit.ensures ∙ ap₂ (λ (b : Bool) (x : Key). verdict_of (admitted c.args.image.now b x)) c.lengths_right.ensures c.named-k.ensures)) ∙ c.in_err-admit.was) in (z ∙ sym (ap (λ (a : After). a.verdict) e), sym (ap (λ (a : After). a.image) e), sym (ap (λ (a : After). a.out) e))

pub returns : goal.returns
returns c = let e = (ap (λ (x : Key). afterwards c.args.image.now c.args.out.now (left_by (write (decode c.args.image.now) x c.args.value.now (map counter c.args.context.now)))) c.named-k.ensures ∙ sym (write_goes_on c.args.image.now c.args.job c.args.point c.args.context.now c.args.out.now c.args.value.now ((sym (c.admit.ensures ∙ ap₂ (λ (b : Bool) (x : Key). verdict_of (admitted c.args.image.now b x)) c.lengths_right.ensures c.named-k.ensures)) ∙ c.in_ok-admit.was))) in (c.write_at.ensures.0 ∙ ap (λ (a : After). a.verdict) e, c.write_at.ensures.1 ∙ ap (λ (a : After). a.image) e, c.write_at.ensures.2 ∙ ap (λ (a : After). a.out) e)
