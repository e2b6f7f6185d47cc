-- `tidying::raise_mark` meets its contract. The mark is as high already, or it is put (Marks). Assumes nothing.
use mathlib.Core.Path.{ap, subst, ◌∙◌}
use Prim.Native.Nat.{ℕ, ◌≤◌, ◌<◌}
use Rattle.block.proofs.Numbers.{bytes_of}
use Rattle.layout.specs.Image.{decode}
use Rattle.meaning.specs.State.{Watermark, mark}
use Rattle.tidying.specs.Tidied.{with_marks}
use Rattle.tidying.proofs.Marks.{decoded_square, raised_stays, raised_goes, marks_lent}
use Rattle.tidying.proofs.raise_mark.Goals as goal

pub returns-then-base-mark_at : goal.returns-then-base-mark_at
returns-then-base-mark_at c = (ap (with_marks (decode c.args.image.now)) (raised_stays (decode c.args.image.now).watermark (decoded_square c.args.image.now (bytes_of c.args.image.now c.slice_known-1.given) c.requires.0) c.args.m c.args.n c.requires.2 c.requires.3 c.args.base (subst (λ (x : ℕ). c.args.base ≤ x) (c.mark_at.ensures ∙ ap (λ (w : Watermark). mark w c.args.m c.args.n) (marks_lent c.args.image.now c.requires.0)) c.if-base-mark_at.true)), c.requires.1)

pub returns : goal.returns
returns c = (c.set_mark.ensures.0 ∙ ap (with_marks (decode c.args.image.now)) (raised_goes (decode c.args.image.now).watermark (decoded_square c.args.image.now (bytes_of c.args.image.now c.slice_known-1.given) c.requires.0) c.args.m c.args.n c.requires.2 c.requires.3 c.args.base (subst (λ (x : ℕ). x < c.args.base) (c.mark_at.ensures ∙ ap (λ (w : Watermark). mark w c.args.m c.args.n) (marks_lent c.args.image.now c.requires.0)) c.if-base-mark_at.false)), c.set_mark.ensures.1)
