-- `merging::filled_context` meets its contract. The invariant: the counters of the first controllers are filled (Eight). Assumes nothing.
use Prim.Native.Nat.{◌+◌}
use mathlib.Core.Path.{◌∙◌}
use Rattle.numbers.specs.Numbers.{controller}
use Rattle.meaning.specs.Context.{fill_context}
use Rattle.layout.specs.PointBlock.{decode_context}
use Rattle.layout.specs.Clocks.{decode_clock}
use Rattle.object.proofs.Entries.{filled_parts}
use Rattle.object.proofs.Given.{read_stored}
use Rattle.merging.proofs.Eight.{made_more, made_all, filled_at}
use native.Mathlib.Omega.{arith}
use Rattle.merging.proofs.filled_context.Goals as goal

pub loop-i-preserved : goal.loop-i-preserved
loop-i-preserved c = let a = c.args in
    let l = c.loop-i in
    let rows = a.rows.now in
    let table = a.table.now in
    let stored = a.stored.now in
    made_more (filled_at table a.job (decode_clock rows) (decode_context stored)) l.i l.out l.invariant (omega arith)
    (c.filled_entry-filled.ensures ∙ filled_parts table (decode_clock rows) (decode_context stored) a.job (controller (l.i + 1)) (read_stored stored l.i (omega arith) c.u32_at.ensures) c.holds.ensures c.row_at-r.ensures)

pub returns : goal.returns
returns c = let a = c.args in
    let l = c.loop-i in
    unfold fill_context in (made_all (filled_at a.table.now a.job (decode_clock a.rows.now) (decode_context a.stored.now)) l.i l.out l.invariant (omega arith), l.invariant.size)
