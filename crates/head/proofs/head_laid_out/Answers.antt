-- `head::head_laid_out` meets its contract. Each answer is one of the tests that Laid names. Assumes nothing.
use mathlib.Core.Path.{sym, ◌∙◌}
use borrow.Author.Tests.{not-true, not-false}
use Rattle.numbers.proofs.Lists.{passed, ◌and_also◌}
use Rattle.block.proofs.Begins.{headed_each}
use Rattle.head.proofs.Laid.{not_laid_out, begins_otherwise, laid_out}
use borrow.Author.Rules.{rules}
use Rattle.head.proofs.head_laid_out.Goals as goal

pub returns-then-not-headed : goal.returns-then-not-headed
returns-then-not-headed c = begins_otherwise c.args.b.now c.type_inv.b (search rules) (sym c.headed.ensures ∙ not-true _ c.if-not-headed.true-raw)

pub returns-then-not-is_zero : goal.returns-then-not-is_zero
returns-then-not-is_zero c = not_laid_out c.args.b.now c.type_inv.b (search rules) 3 (sym c.is_zero.ensures ∙ not-true _ c.if-not-is_zero.true-raw)

pub returns-then-not-is_zero-2 : goal.returns-then-not-is_zero-2
returns-then-not-is_zero-2 c = not_laid_out c.args.b.now c.type_inv.b (search rules) 4 (sym c.is_zero-2.ensures ∙ not-true _ c.if-not-is_zero-2.true-raw)

pub returns : goal.returns
returns c = let h = headed_each _ _ _ (sym c.headed.ensures ∙ not-false _ c.if-not-headed.false-raw) in c.is_sealed.ensures ∙ laid_out c.args.b.now c.type_inv.b (search rules) (h.0 and_also h.1 and_also h.2 and_also (sym c.is_zero.ensures ∙ not-false _ c.if-not-is_zero.false-raw) and_also (sym c.is_zero-2.ensures ∙ not-false _ c.if-not-is_zero-2.false-raw) and_also passed)
