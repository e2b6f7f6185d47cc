-- `record::stored_laid_out` meets its contract. A block with sender 0 that is laid out (LaidOut). Assumes nothing.
use mathlib.Core.Path.{sym, ◌∙◌}
use native.Mathlib.Omega.{arith}
use Rattle.block.proofs.Numbers.{bytes_of}
use Rattle.record.proofs.LaidOut.{stored_sent, stored_unsent}
use Rattle.record.proofs.stored_laid_out.Goals as goal

pub returns-then-u8_at-ne0 : goal.returns-then-u8_at-ne0
returns-then-u8_at-ne0 c = let a = c.args in
    sym (stored_sent a.b.now a.position (bytes_of a.b.now c.type_inv.b) (omega arith) (omega arith) (λ z. c.if-u8_at-ne0.true (c.u8_at.ensures ∙ z)))

pub returns : goal.returns
returns c = let a = c.args in
    c.point_laid_out.ensures ∙ stored_unsent a.b.now a.position (sym c.u8_at.ensures ∙ c.if-u8_at-ne0.false)
