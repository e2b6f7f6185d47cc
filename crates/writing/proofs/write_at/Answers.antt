-- `writing::write_at` meets its contract. Too long, or put down (Steps). Assumes nothing.
use mathlib.Core.Path.{ap, sym, ◌∙◌}
use native.Mathlib.Omega.{arith}
use Rattle.numbers.specs.Words.{map}
use Rattle.numbers.specs.Numbers.{counter}
use Rattle.block.proofs.Numbers.{bytes_of}
use Rattle.refusal.specs.Refusal.{Answer}
use Rattle.meaning.specs.OwnSteps.{Done}
use Rattle.layout.specs.Image.{decode}
use Rattle.layout.specs.Calls.{After, afterwards}
use Rattle.writing.specs.LeftBy.{left_by}
use Rattle.writing.proofs.Steps.{write_long, goes_on, value_formed}
use Rattle.writing.proofs.write_at.Goals as goal

pub returns-then-said-gt24 : goal.returns-then-said-gt24
returns-then-said-gt24 c = let e = write_long (decode c.args.image.now) c.args.k (map counter c.args.context.now) c.requires.2 c.args.image.now c.args.out.now c.args.said.now c.if-said-gt24.true in (sym (ap (λ (a : After). a.verdict) e), sym (ap (λ (a : After). a.image) e), sym (ap (λ (a : After). a.out) e))

pub write_or_delete-requires : goal.write_or_delete-requires
write_or_delete-requires c = (c.requires.0, c.requires.1, c.requires.2, value_formed c.args.said.now (bytes_of c.args.said.now c.type_inv.said) (omega (arith, c.if-said-gt24.false)), c.requires.3, c.requires.4)

pub returns : goal.returns
returns c = let e = ap (λ (x : Answer Done). afterwards c.args.image.now c.args.out.now (left_by x)) (goes_on (decode c.args.image.now) c.args.k (map counter c.args.context.now) c.requires.2 c.args.said.now (omega (arith, c.if-said-gt24.false))) in (c.write_or_delete.ensures.0 ∙ sym (ap (λ (a : After). a.verdict) e), c.write_or_delete.ensures.1 ∙ sym (ap (λ (a : After). a.image) e), c.write_or_delete.ensures.2 ∙ sym (ap (λ (a : After). a.out) e))
