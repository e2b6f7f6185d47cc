use borrow.Author.Rules.{rules}
use mathlib.Core.Path.{sym, ◌∙◌}
use Rattle.parts.proofs.Lookup.{row_fields}
use Rattle.parts.proofs.row_at.Goals as goal

pub returns : goal.returns
returns c = let at = c.args.n in
    (λ i. record { base = c.u32_at.ensures i; bits = c.u64_at.ensures i }) ∙ sym (row_fields c.args.rows.now at (search rules))
