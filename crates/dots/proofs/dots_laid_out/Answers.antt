-- `dots::dots_laid_out` meets its contract. Each answer is one of the tests that Laid names. Assumes nothing.
use mathlib.Core.Path.{sym, ap, ◌∙◌}
use Prim.Native.Nat.{ℕ, ◌+◌, ◌*◌, ◌-◌}
use native.Mathlib.Omega.{arith}
use borrow.Author.Tests.{not-true, not-false, le-leb, lt-leb}
use Rattle.block.proofs.Numbers.{bytes_of}
use Rattle.numbers.proofs.Lists.{passed, ◌and_also◌}
use Rattle.block.specs.Fields.{field}
use Rattle.block.proofs.Begins.{headed_each}
use Rattle.block.proofs.Same.{zero_at}
use Rattle.dots.proofs.Laid.{not_laid_out, begins_otherwise, laid_out}
use borrow.Author.Rules.{rules}
use Rattle.dots.proofs.dots_laid_out.Goals as goal

pub returns-then-not-headed : goal.returns-then-not-headed
returns-then-not-headed c = begins_otherwise c.args.b.now (bytes_of c.args.b.now c.type_inv.b)
    (search rules) c.args.position (search rules)
    (sym c.headed.ensures ∙ not-true _ c.if-not-headed.true-raw)

pub returns-then-n-gt60 : goal.returns-then-n-gt60
returns-then-n-gt60 c = not_laid_out c.args.b.now
    (bytes_of c.args.b.now c.type_inv.b)
    (search rules) c.args.position
    (search rules) 3 (lt-leb (field c.args.b.now 4 2) 60 (omega (arith, c.entry_count-n.ensures)))

pub returns-then-not-is_zero : goal.returns-then-not-is_zero
returns-then-not-is_zero c = not_laid_out c.args.b.now
    (bytes_of c.args.b.now c.type_inv.b)
    (search rules) c.args.position
    (search rules) 4 (sym c.is_zero.ensures ∙ not-true _ c.if-not-is_zero.true-raw)

pub returns-then-not-is_zero-2 : goal.returns-then-not-is_zero-2
returns-then-not-is_zero-2 c = let b = c.args.b.now in
    not_laid_out b (bytes_of b c.type_inv.b)
    (search rules) c.args.position
    (search rules) 5 (ap (λ (n : ℕ). zero_at b (8 + 8 * n) (508 - (8 + 8 * n))) (sym c.entry_count-n.ensures) ∙ sym c.is_zero-2.ensures ∙ not-true _ c.if-not-is_zero-2.true-raw)

pub returns : goal.returns
returns c = let b = c.args.b.now in
    let h = headed_each _ _ _ (sym c.headed.ensures ∙ not-false _ c.if-not-headed.false-raw) in
    c.is_sealed.ensures
    ∙ laid_out b (bytes_of b c.type_inv.b)
    (search rules) c.args.position
    (search rules) (h.0 and_also h.1 and_also h.2
    and_also le-leb (field b 4 2) 60 (omega (arith, c.entry_count-n.ensures))
    and_also (sym c.is_zero.ensures ∙ not-false _ c.if-not-is_zero.false-raw)
    and_also (ap (λ (n : ℕ). zero_at b (8 + 8 * n) (508 - (8 + 8 * n))) (sym c.entry_count-n.ensures) ∙ sym c.is_zero-2.ensures ∙ not-false _ c.if-not-is_zero-2.false-raw)
    and_also passed)
