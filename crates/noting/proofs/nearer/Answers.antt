-- `noting::nearer` meets its contract. The choice between two (Choosing). Assumes nothing.
use mathlib.Core.Path.{sym, ◌∙◌}
use Rattle.noting.proofs.Choosing.{first_found, now_nearer, still_nearer}
use Rattle.noting.proofs.nearer.Goals as goal

pub returns-then-before : goal.returns-then-before
returns-then-before c = now_nearer c.args.best (record { dot = c.args.d; key = c.args.k }) c.in-Some.e c.in-Some.j c.in-Some.is (sym c.before-in-Some.ensures ∙ c.if-before.true)

pub returns-in-None : goal.returns-in-None
returns-in-None c = first_found c.args.best (record { dot = c.args.d; key = c.args.k }) c.in-None.is

pub returns-else-before : goal.returns-else-before
returns-else-before c = still_nearer c.args.best (record { dot = c.args.d; key = c.args.k }) c.in-Some.e c.in-Some.j c.in-Some.is (sym c.before-in-Some.ensures ∙ c.if-before.false)
