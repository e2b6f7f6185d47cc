-- `writing::delete_at` meets its contract. It puts a deletion down (Steps). Assumes nothing.
use mathlib.Core.Path.{ap, sym, ◌∙◌}
use Rattle.numbers.specs.Words.{map}
use Rattle.numbers.specs.Numbers.{counter}
use Rattle.refusal.specs.Refusal.{Answer}
use Rattle.meaning.specs.OwnSteps.{Done}
use Rattle.layout.specs.Image.{decode}
use Rattle.layout.specs.Calls.{After, afterwards}
use Rattle.writing.specs.LeftBy.{left_by}
use Rattle.writing.proofs.Steps.{deletes, deletion_formed}
use Rattle.writing.proofs.delete_at.Goals as goal

pub write_or_delete-requires : goal.write_or_delete-requires
write_or_delete-requires c = (c.requires.0, c.requires.1, c.requires.2, deletion_formed, c.requires.3, c.requires.4)

pub returns : goal.returns
returns c = let e = ap (λ (x : Answer Done). afterwards c.args.image.now c.args.out.now (left_by x)) (deletes (decode c.args.image.now) c.args.k (map counter c.args.context.now) c.requires.2) in (c.write_or_delete.ensures.0 ∙ sym (ap (λ (a : After). a.verdict) e), c.write_or_delete.ensures.1 ∙ sym (ap (λ (a : After). a.image) e), c.write_or_delete.ensures.2 ∙ sym (ap (λ (a : After). a.out) e))
