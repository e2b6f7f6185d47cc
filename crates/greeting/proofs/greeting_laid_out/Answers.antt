-- `greeting::greeting_laid_out` meets its contract. Each answer is one of the tests that Laid names. Assumes nothing.
use mathlib.Core.Path.{sym, ◌∙◌}
use native.Mathlib.Omega.{arith}
use borrow.Author.Tests.{not-true, not-false}
use Rattle.numbers.proofs.Lists.{passed, ◌and_also◌}
use Rattle.numbers.proofs.Tests.{read_is, read_is_not}
use Rattle.block.specs.Kind.{kind_number}
use Rattle.block.proofs.Begins.{headed_each, kind_fits}
use Rattle.block.proofs.Numbers.{bytes_of}
use Rattle.greeting.proofs.Laid.{not_laid_out, begins_otherwise, laid_out}
use Rattle.greeting.proofs.greeting_laid_out.Goals as goal

pub returns-then-not-headed : goal.returns-then-not-headed
returns-then-not-headed c = begins_otherwise c.args.b.now c.requires (bytes_of c.args.b.now c.type_inv.b) (kind_number c.args.kind) c.args.points (omega arith) (kind_fits c.args.kind) (sym c.headed.ensures ∙ not-true _ c.if-not-headed.true-raw)

pub returns-then-u16_at-points : goal.returns-then-u16_at-points
returns-then-u16_at-points c = not_laid_out c.args.b.now c.requires (bytes_of c.args.b.now c.type_inv.b) (kind_number c.args.kind) c.args.points (omega arith) (kind_fits c.args.kind) 3 (read_is_not c.u16_at.ensures c.if-u16_at-points.true)

pub returns-then-not-is_zero : goal.returns-then-not-is_zero
returns-then-not-is_zero c = not_laid_out c.args.b.now c.requires (bytes_of c.args.b.now c.type_inv.b) (kind_number c.args.kind) c.args.points (omega arith) (kind_fits c.args.kind) 4 (sym c.is_zero.ensures ∙ not-true _ c.if-not-is_zero.true-raw)

pub returns : goal.returns
returns c = let h = headed_each _ _ _ (sym c.headed.ensures ∙ not-false _ c.if-not-headed.false-raw) in c.is_sealed.ensures ∙ laid_out c.args.b.now c.requires (bytes_of c.args.b.now c.type_inv.b) (kind_number c.args.kind) c.args.points (omega arith) (kind_fits c.args.kind) (h.0 and_also h.1 and_also h.2 and_also read_is c.u16_at.ensures c.if-u16_at-points.false and_also (sym c.is_zero.ensures ∙ not-false _ c.if-not-is_zero.false-raw) and_also passed)
