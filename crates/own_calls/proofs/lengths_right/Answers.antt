-- `own_calls::lengths_right` meets its contract. Assumes nothing.
use mathlib.Core.Path.{sym}
use lib.ListN.{length}
use borrow.Author.Tests.{eq-eqb, ne_eqb}
use Rattle.own_calls.proofs.lengths_right.Goals as goal

pub returns-then-context-eq8 : goal.returns-then-context-eq8
returns-then-context-eq8 c = sym (rw (eq-eqb (length c.args.context.now) 8 c.if-context-eq8.true))

pub returns-else-context-eq8 : goal.returns-else-context-eq8
returns-else-context-eq8 c = sym (rw (ne_eqb (length c.args.context.now) 8 c.if-context-eq8.false))
