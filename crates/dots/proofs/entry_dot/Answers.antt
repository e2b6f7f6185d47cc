-- `dots::entry_dot` meets its contract. The fields at their places (Laid). Assumes nothing.
use mathlib.Core.Path.{sym, ap, ◌∙◌}
use Rattle.numbers.specs.Dot.{dot}
use Rattle.meaning.specs.State.{Listed}
use Rattle.dots.proofs.Laid.{entry_fields}
use Rattle.dots.proofs.entry_dot.Goals as goal

pub returns : goal.returns
returns c = let a = c.args in
    (λ j. dot (c.u8_at.ensures j) (c.u32_at.ensures j))
    ∙ sym (ap (λ (l : Listed). l.dot) (entry_fields a.b.now a.i))
