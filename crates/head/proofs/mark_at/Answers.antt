-- `head::mark_at` meets its contract. The field at its place (Marks). Assumes nothing.
use mathlib.Core.Path.{sym, ◌∙◌}
use Rattle.head.proofs.Marks.{mark_field}
use borrow.Author.Rules.{rules}
use Rattle.head.proofs.mark_at.Goals as goal

pub returns : goal.returns
returns c = let a = c.args in c.u32_at.ensures ∙ sym (mark_field a.marks.now a.m a.n (search rules) (search rules))
