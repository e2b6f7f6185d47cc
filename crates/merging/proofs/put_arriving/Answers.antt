-- `merging::put_arriving` meets its contract. The invariant: those from the i-th on that arrive are put (Arriving). Assumes nothing.
use Prim.Native.Nat.{◌-◌}
use mathlib.Core.Bool.{not}
use mathlib.Core.Path.{refl, ap, sym, subst, ◌∙◌}
use Rattle.numbers.specs.declared.Dot.{Dot}
use Rattle.numbers.specs.Numbers.{Crew}
use Rattle.block.specs.Fields.{field}
use Rattle.block.proofs.Numbers.{bytes_of}
use Rattle.record.proofs.Questions.{crewed_at}
use Rattle.record_edits.specs.Written.{point_block}
use Rattle.object.proofs.Counting.{stays}
use Rattle.merging.proofs.Arriving.{arriving_none, arriving_inside, arriving_size, arriving_slot, arriving_ascends, arriving_room, arriving_more, arriving_past, arrives_is}
use native.Mathlib.Omega.{arith}
use Rattle.merging.proofs.put_arriving.Goals as goal

pub loop-i-init : goal.loop-i-init
loop-i-init c = let a = c.args in
    let p = c.requires in
    let b = a.b.now in
    let m = a.m.now in
    arriving_none (point_block b) (stays a.here.now) m b c.version_count-count.result (record { small = bytes_of m c.type_inv.m; size = p.3; laid = p.4 }) c.version_count-count.ensures p.0 refl p.1

pub given_covers-requires : goal.given_covers-requires
given_covers-requires c = let a = c.args in
    let p = c.requires in
    let l = c.loop-i in
    let m = a.m.now in
    (p.6, subst (λ (x : Dot). Crew x.who) (sym c.version_dot.ensures) (crewed_at m {count = field m 5 1} l.invariant.few refl p.5 (l.i - 1) (arriving_inside l.invariant (omega arith))))

pub put_version-requires : goal.put_version-requires
put_version-requires c = let a = c.args in
    let p = c.requires in
    let l = c.loop-i in
    (l.invariant.size, l.invariant.laid, arriving_ascends l.invariant (omega arith) p.2, arriving_room l.invariant (omega arith) (arrives_is a.here.now a.m.now (l.i - 1) c.version_dot.ensures c.given_covers.ensures ∙ ap not c.if-not-given_covers.true) p.7, arriving_size l.invariant (omega arith), arriving_slot l.invariant (omega arith))

pub loop-i-preserved-then-not-given_covers : goal.loop-i-preserved-then-not-given_covers
loop-i-preserved-then-not-given_covers c = let a = c.args in
    let l = c.loop-i in
    arriving_more l.invariant (omega arith) _ (omega (arith, l.invariant.size)) (arrives_is a.here.now a.m.now (l.i - 1) c.version_dot.ensures c.given_covers.ensures ∙ ap not c.if-not-given_covers.true) c.put_version.ensures

pub loop-i-preserved : goal.loop-i-preserved
loop-i-preserved c = let a = c.args in
    let l = c.loop-i in
    arriving_past l.invariant (omega arith) (arrives_is a.here.now a.m.now (l.i - 1) c.version_dot.ensures c.given_covers.ensures ∙ ap not c.if-not-given_covers.false)
