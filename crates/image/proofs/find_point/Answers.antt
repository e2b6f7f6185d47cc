-- `image::find_point` meets its contract. The invariant: the points before low come before the key, those from high on after it. Assumes nothing.
use borrow.Author.Rules.{rules}
use Prim.Native.Nat.{◌+◌, ◌-◌, ◌/◌}
use mathlib.Core.Path.{sym, ap, ◌∙◌}
use native.Mathlib.Omega.{arith}
use borrow.Author.Tests.{not-true, not-false}
use Rattle.numbers.specs.declared.Key.{Key}
use Rattle.numbers.specs.Key.{key_before}
use Rattle.numbers.proofs.Dots.{key_order}
use Rattle.block.proofs.ByIndex.{upto_ascends}
use Rattle.block.proofs.Search.{nothing_yet, upper_half, lower_half}
use Rattle.meaning.specs.State.{stored_before}
use Rattle.image.specs.Apart.{point_at}
use Rattle.image.proofs.Finding.{key_there, point_found, point_before}
use Rattle.image.proofs.find_point.Goals as goal

pub loop-low-init : goal.loop-low-init
loop-low-init c = let a = c.args in
    nothing_yet (search rules) (upto_ascends stored_before a.count (point_at a.image.now) c.requires.2)

pub loop-low-preserved-then-before : goal.loop-low-preserved-then-before
loop-low-preserved-then-before c = let a = c.args in
    let s = c.loop-low in
    let mid = s.low + (s.high - s.low) / 2 in
    upper_half key_order s.invariant mid (omega arith) (omega arith)
    (ap (λ (x : Key). key_before x a.k) (sym (key_there a.image.now mid c.key_of-there.ensures)) ∙ sym c.before-in-loop-low.ensures ∙ c.if-before.true)

pub returns-then-not-before : goal.returns-then-not-before
returns-then-not-before c = let a = c.args in
    let s = c.loop-low in
    let mid = s.low + (s.high - s.low) / 2 in
    point_found a.image.now a.count a.k mid
    (omega (arith, s.invariant.within)) (key_there a.image.now mid c.key_of-there.ensures) (sym c.before-in-loop-low.ensures ∙ c.if-before.false)
    (sym c.before-else-before.ensures ∙ not-true _ c.if-not-before.true-raw)

pub loop-low-preserved : goal.loop-low-preserved
loop-low-preserved c = let a = c.args in
    let s = c.loop-low in
    let mid = s.low + (s.high - s.low) / 2 in
    lower_half key_order s.invariant mid (omega arith) (omega arith)
    (ap (key_before a.k) (sym (key_there a.image.now mid c.key_of-there.ensures)) ∙ sym c.before-else-before.ensures ∙ not-false _ c.if-not-before.false-raw)

pub returns : goal.returns
returns c = let a = c.args in
    point_before a.image.now a.count a.k c.loop-low.invariant c.loop-low-test.false
