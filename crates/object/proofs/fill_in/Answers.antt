-- `object::fill_in` meets its contract. The invariant: the entries of the first controllers are filled (Sweeping). Assumes nothing.
use Rattle.std.proofs.Common.{rules}
use mathlib.Core.Path.{refl, ◌∙◌}
use Prim.Native.Nat.{◌-◌}
use native.Mathlib.Omega.{arith}
use Rattle.numbers.specs.Numbers.{controller}
use Rattle.block.proofs.Numbers.{bytes_of}
use Rattle.meaning.specs.Context.{fill_context}
use Rattle.meaning.specs.Object.{fill}
use Rattle.layout.specs.PointBlock.{form_1, decode_point}
use Rattle.layout.specs.Clocks.{decode_clock}
use Rattle.layout.proofs.Decoded.{point_decoded}
use Rattle.record_edits.specs.Written.{point_block}
use Rattle.object.proofs.Sweeping.{sweeping_none, swept_entry_of, sweeping_next, sweeping_all}
use Rattle.object.proofs.Entries.{filling, filling_is}
use Rattle.object.proofs.fill_in.Goals as goal

pub loop-who-init : goal.loop-who-init
loop-who-init c = let b = c.args.b.now in
    let f = filling c.args.table.now (decode_point form_1 b).key.job (decode_clock c.args.rows.now) (decode_point form_1 b).object.context in
    sweeping_none (point_block b) f b c.requires.0 (point_decoded b (bytes_of b (search rules)) c.requires.0).context.eight refl c.requires.1

pub loop-who-preserved : goal.loop-who-preserved
loop-who-preserved c = let b = c.args.b.now in
    let f = filling c.args.table.now (decode_point form_1 b).key.job (decode_clock c.args.rows.now) (decode_point form_1 b).object.context in
    let S = c.loop-who.invariant in
    sweeping_next (point_block b) f c.loop-who.who c.loop-who.b S (omega arith) (omega arith) _ c.filled_entry-filled.result (omega (arith, S.size))
    (c.filled_entry-filled.ensures
    ∙ filling_is c.args.table.now c.args.rows.now b (controller c.loop-who.who) (c.context_entry-e.ensures ∙ swept_entry_of (point_block b) f c.loop-who.who c.loop-who.b S (omega arith) (omega arith)) c.holds.ensures c.u8_at-job.ensures c.row_at-r.ensures)
    c.set_entry.ensures

pub returns : goal.returns
unfolding fill fill_context
returns c = let b = c.args.b.now in
    let f = filling c.args.table.now (decode_point form_1 b).key.job (decode_clock c.args.rows.now) (decode_point form_1 b).object.context in
    sweeping_all (point_block b) f (c.loop-who.who - 1) c.loop-who.b c.loop-who.invariant (omega arith)
