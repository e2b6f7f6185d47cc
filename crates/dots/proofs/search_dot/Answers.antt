-- `dots::search_dot` meets its contract. The invariant: those before low come before the dot, those from high on after it (Search). Assumes nothing.
use borrow.Author.Rules.{rules}
use Prim.Native.Nat.{◌+◌, ◌-◌, ◌/◌}
use mathlib.Core.Path.{sym, ap, ◌∙◌}
use native.Mathlib.Omega.{arith}
use borrow.Author.Tests.{not-true, not-false}
use Rattle.numbers.specs.declared.Dot.{Dot}
use Rattle.numbers.specs.Dot.{dot_before}
use Rattle.numbers.proofs.Dots.{dot_order}
use Rattle.block.proofs.Search.{nothing_yet, upper_half, lower_half}
use Rattle.dots.proofs.Search.{all_pairs, found_at, found_before}
use Rattle.dots.proofs.search_dot.Goals as goal

pub loop-low-init : goal.loop-low-init
loop-low-init c = let a = c.args in
    nothing_yet c.entry_count-high.ensures (all_pairs a.b.now (search rules) a.d c.requires.2)

pub loop-low-preserved-then-before : goal.loop-low-preserved-then-before
loop-low-preserved-then-before c = let a = c.args in
    let s = c.loop-low in
    upper_half dot_order s.invariant (s.low + (s.high - s.low) / 2)
    (omega arith) (omega arith) (ap (λ (x : Dot). dot_before x a.d) (sym c.entry_dot-e.ensures) ∙ sym c.before-in-loop-low.ensures ∙ c.if-before.true)

pub returns-then-not-before : goal.returns-then-not-before
returns-then-not-before c = let a = c.args in
    let s = c.loop-low in
    found_at a.b.now (search rules) a.d (s.low + (s.high - s.low) / 2)
    (omega (arith, s.invariant.within))
    c.entry_dot-e.ensures (sym c.before-in-loop-low.ensures ∙ c.if-before.false)
    (sym c.before-else-before.ensures ∙ not-true _ c.if-not-before.true-raw)

pub loop-low-preserved : goal.loop-low-preserved
loop-low-preserved c = let a = c.args in
    let s = c.loop-low in
    lower_half dot_order s.invariant
    (s.low + (s.high - s.low) / 2)
    (omega arith) (omega arith) (ap (dot_before a.d) (sym c.entry_dot-e.ensures) ∙ sym c.before-else-before.ensures ∙ not-false _ c.if-not-before.false-raw)

pub returns : goal.returns
returns c = let a = c.args in
    found_before a.b.now (search rules) a.d c.loop-low.invariant c.loop-low-test.false
