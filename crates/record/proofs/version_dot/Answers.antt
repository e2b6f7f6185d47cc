-- `record::version_dot` meets its contract. Two fields of a slot. Assumes nothing.
use Prim.Native.Nat.{◌+◌, ◌*◌}
use mathlib.Core.Path.{sym, ◌∙◌}
use Rattle.numbers.specs.Dot.{dot}
use Rattle.record.proofs.Reading.{slot_dot}
use Rattle.record.proofs.version_dot.Goals as goal

pub returns : goal.returns
returns c = let a = c.args in
    (λ i. dot (c.u8_at.ensures i) (c.u32_at.ensures i)) ∙ sym (slot_dot a.b.now (40 + 32 * a.i))
