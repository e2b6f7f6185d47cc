-- `record::context_entry` meets its contract. The entry is a field of the block. Assumes nothing.
use mathlib.Core.Path.{sym, ◌∙◌}
use borrow.Author.Rules.{rules}
use Rattle.numbers.specs.Numbers.{counter}
use Rattle.record.proofs.Reading.{entry_field}
use Rattle.record.proofs.context_entry.Goals as goal

pub returns : goal.returns
returns c = let a = c.args in
    (λ i. counter (c.u32_at.ensures i)) ∙ sym (entry_field a.b.now a.n (search rules))
