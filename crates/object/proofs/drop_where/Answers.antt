-- `object::drop_where` meets its contract. The invariant: the versions from the i-th on were asked (Asking). Assumes nothing.
use Rattle.std.proofs.Common.{rules}
use Prim.Native.Nat.{◌-◌}
use mathlib.Core.Path.{refl}
use native.Mathlib.Omega.{arith}
use Rattle.block.proofs.Numbers.{bytes_of}
use Rattle.record_edits.specs.Written.{point_block}
use Rattle.object.proofs.Asking.{asked_none, asked_old, asked_small, asked_reads, asked_stays, asked_goes}
use Rattle.object.proofs.drop_where.Goals as goal

pub loop-i-init : goal.loop-i-init
loop-i-init g c =
    asked_none (point_block c.args.b.now) _ c.args.b.now c.version_count-i.result (bytes_of c.args.b.now (search rules)) c.requires.laid.0 refl c.requires.laid.1
    c.version_count-i.ensures

pub goes-requires : goal.goes-requires
goes-requires g c =
    c.requires.asked _ (c.loop-i.i - 1) c.loop-i.invariant.size (asked_small (point_block c.args.b.now) _ c.loop-i.i c.loop-i.b c.loop-i.invariant c.loop-i-test.true)
    (asked_old (point_block c.args.b.now) _ c.loop-i.i c.loop-i.b c.loop-i.invariant c.loop-i-test.true)
    (asked_reads (point_block c.args.b.now) _ c.loop-i.i c.loop-i.b c.loop-i.invariant c.loop-i-test.true)

pub loop-i-preserved-then-goes : goal.loop-i-preserved-then-goes
loop-i-preserved-then-goes g c =
    asked_goes (point_block c.args.b.now) _ c.loop-i.i c.loop-i.b c.loop-i.invariant c.loop-i-test.true _ refl _ c.goes.ensures _ (bytes_of _ c.type_inv.b) (omega (arith, c.loop-i.invariant.size)) c.if-goes.true
    c.remove_version.ensures

pub loop-i-preserved : goal.loop-i-preserved
loop-i-preserved g c =
    asked_stays (point_block c.args.b.now) _ c.loop-i.i c.loop-i.b c.loop-i.invariant c.loop-i-test.true _ refl _ c.goes.ensures c.if-goes.false
