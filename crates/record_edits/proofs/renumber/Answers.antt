-- `record::renumber` meets its contract. The relabelled block, sealed (Edits). Assumes nothing.
use Prim.Native.Nat.{ℕ}
use mathlib.Core.Path.{ap, ◌∙◌}
use Rattle.numbers.specs.Numbers.{controller}
use Rattle.record_edits.specs.Written.{point_block, relabelled}
use Rattle.record_edits.proofs.Edits.{renumbered}
use Rattle.record_edits.proofs.renumber.Goals as goal

pub returns : goal.returns
returns c =
    let a = c.args in
    renumbered a.b.now _ _ a.position (c.relabel.ensures.0 ∙ ap (λ (n : ℕ). relabelled (point_block a.b.now) n a.position (controller 0)) c.from.ensures, c.relabel.ensures.1) c.seal_block.ensures
