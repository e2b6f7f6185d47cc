-- `record::slot_laid_out` meets its contract. By what the length byte says (LaidOut). Assumes nothing.
use mathlib.Core.Path.{◌∙◌}
use native.Mathlib.Omega.{arith}
use Rattle.block.proofs.Numbers.{bytes_of}
use Rattle.record.proofs.LaidOut.{slot_gap, slot_deleted, slot_value, slot_wrong}
use Rattle.record.proofs.slot_laid_out.Goals as goal

pub returns-then-u16_at-ne0 : goal.returns-then-u16_at-ne0
returns-then-u16_at-ne0 c = let a = c.args in let b = a.b.now in let h = bytes_of b c.type_inv.b in
    slot_gap b a.at h (omega arith) (omega arith) c.u16_at.ensures c.if-u16_at-ne0.true

pub returns-then-n : goal.returns-then-n
returns-then-n c = let a = c.args in let b = a.b.now in let h = bytes_of b c.type_inv.b in
    c.is_zero.ensures ∙ slot_deleted b a.at h (omega arith) (omega arith) c.u16_at.ensures c.if-u16_at-ne0.false c.u8_at-n.ensures c.if-n.true

pub returns-then-n-gt24 : goal.returns-then-n-gt24
returns-then-n-gt24 c = let a = c.args in let b = a.b.now in let h = bytes_of b c.type_inv.b in
    slot_wrong b a.at h (omega arith) (omega arith) c.u16_at.ensures c.if-u16_at-ne0.false c.u8_at-n.ensures c.if-n-gt24.true c.if-n.false

pub returns : goal.returns
returns c = let a = c.args in let b = a.b.now in let h = bytes_of b c.type_inv.b in
    c.is_zero-2.ensures ∙ slot_value b a.at h (omega arith) (omega arith) c.u16_at.ensures c.if-u16_at-ne0.false c.u8_at-n.ensures (omega arith)
