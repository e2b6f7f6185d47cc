-- `merging::raise_to` meets its contract. The invariant: the entries of the first controllers are raised (object's Sweeping). Assumes nothing.
use mathlib.Core.Path.{refl, ◌∙◌}
use Rattle.numbers.specs.Words.{map}
use Rattle.numbers.specs.Numbers.{counter}
use Rattle.block.proofs.Numbers.{bytes_of}
use Rattle.meaning.specs.Context.{higher}
use Rattle.layout.specs.PointBlock.{form_1, decode_point}
use Rattle.layout.proofs.Decoded.{point_decoded}
use Rattle.record_edits.specs.Written.{point_block}
use Rattle.object.proofs.Sweeping.{sweeping_none, sweeping_entry, sweeping_more, sweeping_all}
use Rattle.merging.proofs.Eight.{higher_at, read_higher}
use native.Mathlib.Omega.{arith}
use Rattle.merging.proofs.raise_to.Goals as goal

pub loop-i-init : goal.loop-i-init
loop-i-init c = let a = c.args in
    let p = c.requires in
    let b = a.b.now in
    sweeping_none (point_block b) (higher_at (decode_point form_1 b).object.context (map counter a.there.now)) b p.0 (point_decoded b (bytes_of b c.type_inv.b) p.0).context.eight refl p.1

pub loop-i-preserved : goal.loop-i-preserved
loop-i-preserved c = let a = c.args in
    let l = c.loop-i in
    let b = a.b.now in
    let there = a.there.now in
    sweeping_more (point_block b) (higher_at (decode_point form_1 b).object.context (map counter there)) l.i l.b l.invariant (omega arith) _ c.higher_entry.result (omega (arith, l.invariant.size))
    (c.higher_entry.ensures ∙ read_higher (decode_point form_1 b).object.context there l.i (c.context_entry-e.ensures ∙ sweeping_entry (point_block b) (higher_at (decode_point form_1 b).object.context (map counter there)) l.i l.b l.invariant (omega arith))) c.set_entry.ensures

pub returns : goal.returns
returns c = let a = c.args in
    let l = c.loop-i in
    let b = a.b.now in
    unfold higher in (sweeping_all (point_block b) (higher_at (decode_point form_1 b).object.context (map counter a.there.now)) l.i l.b l.invariant (omega arith))
