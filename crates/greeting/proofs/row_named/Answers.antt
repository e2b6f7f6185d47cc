-- `greeting::row_named` meets its contract. Assumes nothing.
use mathlib.Core.Path.{ap, sym, ◌∙◌}
use mathlib.Core.Bool.{Bool, ◌||◌}
use Rattle.meaning.specs.Clock.{row}
use Rattle.meaning.specs.Message.{is_none}
use Rattle.layout.specs.Clocks.{decode_clock}
use Rattle.greeting.proofs.row_named.Goals as goal

pub returns-then-in_some_job : goal.returns-then-in_some_job
returns-then-in_some_job c = sym (ap (λ (b : Bool). b || (is_none (row (decode_clock c.args.rows.now) c.args.n))) (sym c.in_some_job.ensures ∙ c.if-in_some_job.true))

pub returns : goal.returns
returns c = c.row_none.ensures ∙ ap is_none c.row_at.ensures ∙ sym (ap (λ (b : Bool). b || (is_none (row (decode_clock c.args.rows.now) c.args.n))) (sym c.in_some_job.ensures ∙ c.if-in_some_job.false))
