-- `own_calls::read` meets its contract. Refused by rows 1, 2 and 5, or the reading (Reading). Assumes nothing.
use Rattle.std.proofs.Common.{rules, ◌≡◌, Err}
use mathlib.Core.Path.{ap, sym, ◌∙◌}
use borrow.Author.Tests.{eqb-true}
use lib.ListN.{length}
use Rattle.refusal.specs.Refusal.{verdict_of}
use Rattle.numbers.specs.declared.Key.{Key}
use Rattle.numbers.specs.Key.{key}
use Rattle.meaning.specs.State.{local}
use Rattle.meaning.specs.OwnSteps.{shown}
use Rattle.layout.specs.Image.{decode}
use Rattle.layout.specs.Messages.{encode_reading}
use Rattle.layout.specs.Calls.{After, one_block}
use Rattle.opening.specs.Admitted.{admitted}
use Rattle.opening.proofs.Ladder.{what_is_admitted}
use Rattle.own_calls.proofs.Reading.{read_refused, read_shown}
use Rattle.own_calls.proofs.read.Goals as goal

pub write_reading-requires : goal.write_reading-requires
write_reading-requires c = ((what_is_admitted c.args.image.now (one_block c.args.out.now) (key c.args.job c.args.point) ((sym (c.admit.ensures ∙ ap (λ (x : Key). verdict_of (admitted c.args.image.now (one_block c.args.out.now) x)) c.named-k.ensures)) ∙ c.in_ok-admit.was)).size, (what_is_admitted c.args.image.now (one_block c.args.out.now) (key c.args.job c.args.point) ((sym (c.admit.ensures ∙ ap (λ (x : Key). verdict_of (admitted c.args.image.now (one_block c.args.out.now) x)) c.named-k.ensures)) ∙ c.in_ok-admit.was)).good, eqb-true (length c.args.out.now) 512 (what_is_admitted c.args.image.now (one_block c.args.out.now) (key c.args.job c.args.point) ((sym (c.admit.ensures ∙ ap (λ (x : Key). verdict_of (admitted c.args.image.now (one_block c.args.out.now) x)) c.named-k.ensures)) ∙ c.in_ok-admit.was)).right)

pub returns-in_err-admit : goal.returns-in_err-admit
returns-in_err-admit c = let z : ◌≡◌ c.from_residual.result (Err c.in_err-admit.field-0.0) = search rules in let e = read_refused c.args.image.now c.args.job c.args.point c.args.out.now c.in_err-admit.field-0.0 ((sym (c.admit.ensures ∙ ap (λ (x : Key). verdict_of (admitted c.args.image.now (one_block c.args.out.now) x)) c.named-k.ensures)) ∙ c.in_err-admit.was) in (z ∙ sym (ap (λ (a : After). a.verdict) e), sym (ap (λ (a : After). a.out) e))

pub returns : goal.returns
returns c = let e = read_shown c.args.image.now c.args.job c.args.point c.args.out.now ((sym (c.admit.ensures ∙ ap (λ (x : Key). verdict_of (admitted c.args.image.now (one_block c.args.out.now) x)) c.named-k.ensures)) ∙ c.in_ok-admit.was) in (sym (ap (λ (a : After). a.verdict) e), c.write_reading.ensures ∙ ap (λ (x : Key). encode_reading (record { sender = (decode c.args.image.now).own; key = x; object = shown (local (decode c.args.image.now) x) })) c.named-k.ensures ∙ sym (ap (λ (a : After). a.out) e))
