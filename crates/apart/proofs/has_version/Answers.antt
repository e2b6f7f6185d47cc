-- `apart::has_version` meets its contract. The invariant is `Passing`: the versions before i have other dots (Versions). Assumes nothing.
use Rattle.block.specs.Fields.{field}
use Rattle.block.proofs.Passing.{none_passed}
use Rattle.apart.proofs.Versions.{another, has_it, not_yet, has_none}
use native.Mathlib.Omega.{arith}
use Rattle.apart.proofs.has_version.Goals as goal

pub loop-i-init : goal.loop-i-init
loop-i-init c = let a = c.args in none_passed (field a.b.now 5 1) (another a.b.now a.d)

pub returns-then-same : goal.returns-then-same
returns-then-same c = let a = c.args in has_it a.b.now a.d (omega arith) c.loop-i.invariant (omega (arith, c.version_count-i-end.ensures)) c.version_dot.ensures c.same.ensures c.if-same.true

pub loop-i-preserved : goal.loop-i-preserved
loop-i-preserved c = let a = c.args in not_yet a.b.now a.d (omega arith) c.loop-i.invariant (omega (arith, c.version_count-i-end.ensures)) c.version_dot.ensures c.same.ensures c.if-same.false

pub returns : goal.returns
returns c = let a = c.args in has_none a.b.now a.d (omega arith) c.loop-i.invariant (omega (arith, c.version_count-i-end.ensures))
