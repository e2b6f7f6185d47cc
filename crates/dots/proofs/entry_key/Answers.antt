-- `dots::entry_key` meets its contract. The fields at their places (Laid). Assumes nothing.
use mathlib.Core.Path.{sym, ap, ◌∙◌}
use Rattle.numbers.specs.Key.{key}
use Rattle.meaning.specs.State.{Listed}
use Rattle.dots.proofs.Laid.{entry_fields}
use Rattle.dots.proofs.entry_key.Goals as goal

pub returns : goal.returns
returns c = let a = c.args in
    (λ j. key (c.u8_at.ensures j) (c.u16_at.ensures j))
    ∙ sym (ap (λ (l : Listed). l.key) (entry_fields a.b.now a.i))
