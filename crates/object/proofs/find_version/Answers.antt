-- `object::find_version` meets its contract. The invariant: the versions before i come before the dot (block Search, from i to the end). Assumes nothing.
use Rattle.std.proofs.Common.{ℕ, ◌≡◌, Err}
use mathlib.Core.Path.{subst}
use Rattle.layout.specs.PointBlock.{form_1, decode_point}
use Rattle.object.specs.Versions.{VersionIn}
use borrow.Author.Rules.{rules}
use Prim.Native.Nat.{◌-◌}
use mathlib.Core.Path.{refl, ap, sym, ◌∙◌}
use native.Mathlib.Omega.{arith}
use borrow.Author.Tests.{not-true, not-false}
use Rattle.numbers.specs.declared.Dot.{Dot}
use Rattle.numbers.specs.Dot.{dot_before}
use Rattle.numbers.proofs.Dots.{dot_order}
use Rattle.block.proofs.Search.{nothing_yet, upper_half, lower_half}
use Rattle.object.proofs.VersionPlaces.{version_pairs, version_found, version_nowhere}
use Rattle.object.proofs.find_version.Goals as goal

pub loop-i-init : goal.loop-i-init
loop-i-init c = let a = c.args in
    nothing_yet refl (version_pairs a.b.now (search rules) a.d c.requires.2)

pub version_dot-v-requires : goal.version_dot-v-requires
version_dot-v-requires c = (omega arith, omega (arith, c.version_count-count.ensures))

pub returns-then-before : goal.returns-then-before
returns-then-before c = let a = c.args in
    let i = c.loop-i.i in
    version_nowhere a.b.now (search rules) a.d
    (lower_half dot_order c.loop-i.invariant i (omega arith) (omega (arith, c.version_count-count.ensures)) (ap (dot_before a.d) (sym c.version_dot-v.ensures) ∙ sym c.before-in-loop-i.ensures ∙ c.if-before.true))
    (omega arith)

pub returns-then-not-before : goal.returns-then-not-before
returns-then-not-before c = let a = c.args in
    version_found a.b.now (search rules) a.d c.loop-i.i (omega (arith, c.version_count-count.ensures))
    c.version_dot-v.ensures (sym c.before-in-loop-i-2.ensures ∙ not-true _ c.if-not-before.true-raw) (sym c.before-in-loop-i.ensures ∙ c.if-before.false)

pub loop-i-preserved : goal.loop-i-preserved
loop-i-preserved c = let a = c.args in
    upper_half dot_order c.loop-i.invariant c.loop-i.i (omega arith) (omega (arith, c.version_count-count.ensures))
    (ap (λ (x : Dot). dot_before x a.d) (sym c.version_dot-v.ensures) ∙ sym c.before-in-loop-i-2.ensures ∙ not-false _ c.if-not-before.false-raw)

pub returns : goal.returns
returns c = let a = c.args in
    let end : ◌≡◌ c.loop-i.i c.version_count-count.result = omega arith in
    subst (λ (n : ℕ). VersionIn (decode_point form_1 a.b.now).object.versions a.d (Err n)) end
    (version_nowhere a.b.now (search rules) a.d c.loop-i.invariant (omega (arith, c.version_count-count.ensures)))
