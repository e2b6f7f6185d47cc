-- `object::strip_off` meets its contract. The invariant: the entries of the first controllers are stripped (Sweeping). Assumes nothing.
use Rattle.std.specs.Prelude.{if◌then◌else◌}
use mathlib.Core.Path.{refl, ap₂, ◌∙◌}
use Prim.Native.Nat.{◌-◌}
use native.Mathlib.Omega.{arith}
use lib.Dec.{leb}
use Rattle.numbers.specs.declared.Counter.{Counter}
use Rattle.numbers.specs.Numbers.{counter}
use Rattle.block.proofs.Numbers.{bytes_of}
use Rattle.row.specs.declared.Row.{Row}
use Rattle.meaning.specs.Context.{strip_context}
use Rattle.meaning.specs.Object.{strip}
use Rattle.layout.specs.PointBlock.{form_1, decode_point}
use Rattle.layout.specs.Clocks.{decode_clock}
use Rattle.layout.proofs.Decoded.{point_decoded}
use Rattle.record_edits.specs.Written.{point_block}
use Rattle.object.proofs.Sweeping.{sweeping_none, swept_entry_of, sweeping_next, sweeping_all}
use Rattle.object.proofs.Entries.{stripping}
use Rattle.object.proofs.strip_off.Goals as goal

pub loop-who-init : goal.loop-who-init
loop-who-init c = let b = c.args.b.now in
    let f = stripping (decode_clock c.args.rows.now) (decode_point form_1 b).object.context in
    sweeping_none (point_block b) f b c.requires.0 (point_decoded b (bytes_of b c.type_inv.b) c.requires.0).context.eight refl c.requires.1

pub loop-who-preserved : goal.loop-who-preserved
loop-who-preserved c = let b = c.args.b.now in
    let f = stripping (decode_clock c.args.rows.now) (decode_point form_1 b).object.context in
    let S = c.loop-who.invariant in
    sweeping_next (point_block b) f c.loop-who.who c.loop-who.b S (omega arith) (omega arith) _ c.stripped_entry.result (omega (arith, S.size))
    (c.stripped_entry.ensures
    ∙ ap₂ (λ (e : Counter) (r : Row). if leb e.0 r.base then counter 0 else e) (c.context_entry-e.ensures ∙ swept_entry_of (point_block b) f c.loop-who.who c.loop-who.b S (omega arith) (omega arith)) c.row_at-r.ensures)
    c.set_entry.ensures

pub returns : goal.returns
unfolding strip strip_context
returns c = let b = c.args.b.now in
    let f = stripping (decode_clock c.args.rows.now) (decode_point form_1 b).object.context in
    sweeping_all (point_block b) f (c.loop-who.who - 1) c.loop-who.b c.loop-who.invariant (omega arith)
