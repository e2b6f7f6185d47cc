-- `apart::apart_from_earlier` meets its contract. The invariant is `Going`: the dots passed stand in no point before, and their marks are set (Earlier).
-- Assumes nothing.
use Prim.Native.Nat.{◌+◌, ◌<◌}
use mathlib.Core.Path.{refl, sym, ◌∙◌}
use Rattle.numbers.proofs.Tests.{never}
use Rattle.apart.proofs.Lent.{lent_size}
use Rattle.apart.proofs.Earlier.{count, was_new, was_marked, stood, all_fresh, all_noted, count_read}
use native.Mathlib.Omega.{arith}
use Rattle.apart.proofs.apart_from_earlier.Goals as goal
use Rattle.apart.proofs.apart_from_earlier.Goals.{else-mark_dot-via-then-mark_dot+else-among, else-mark_dot-via-else-mark_dot}

pub version_dot-d-requires : goal.version_dot-d-requires
version_dot-d-requires c = let a = c.args in
    let p = c.requires in
    (lent_size a.points.now (a.j + 1) a.j (omega arith) p.0, omega (arith, (p.1 a.j (omega arith)), count_read a.points.now a.j c.version_count-i-end.ensures))

pub returns-then-among : goal.returns-then-among
returns-then-among c = let a = c.args in
    let p = c.requires in
    (stood a.points.now a.j c.loop-i.marks c.loop-i.i c.loop-i.invariant (omega (arith, count_read a.points.now a.j c.version_count-i-end.ensures)) c.version_dot-d.result c.version_dot-d.ensures (p.1 a.j (omega arith)) (sym c.among.ensures ∙ c.if-among.true), λ t. never t refl)

pub loop-i-preserved : goal.loop-i-preserved
loop-i-preserved c = let a = c.args in
    let more : c.loop-i.i < count a.points.now a.j = omega (arith, count_read a.points.now a.j c.version_count-i-end.ensures) in
    elim c.else-mark_dot.branch [
      | else-mark_dot-via-then-mark_dot+else-among w ↦ was_marked a.points.now a.j c.loop-i.marks c.loop-i.i c.loop-i.invariant more c.version_dot-d.result c.version_dot-d.ensures c.mark_dot.ensures.0 c.mark_dot.ensures.1 (sym w.among.ensures ∙ w.if-among.false)
      | else-mark_dot-via-else-mark_dot w ↦ was_new a.points.now a.j c.loop-i.marks c.loop-i.i c.loop-i.invariant more c.version_dot-d.result c.version_dot-d.ensures c.mark_dot.ensures.0 c.mark_dot.ensures.1 w.if-mark_dot.false
    ]

pub returns : goal.returns
returns c = let a = c.args in
    let p = c.requires in
    (all_fresh a.points.now a.j c.loop-i.marks c.loop-i.i c.loop-i.invariant (p.1 a.j (omega arith)) (omega (arith, count_read a.points.now a.j c.version_count-i-end.ensures)), λ t. all_noted a.points.now a.j c.loop-i.marks c.loop-i.i c.loop-i.invariant (p.1 a.j (omega arith)) (omega (arith, count_read a.points.now a.j c.version_count-i-end.ensures)))
