-- `head::row_none` meets its contract. Assumes nothing.
use borrow.Author.Tests.{eq-eqb, ne_eqb}
use Rattle.meaning.specs.Message.{is_none}
use Rattle.head.proofs.row_none.Goals as goal

pub returns-then-r-ne0 : goal.returns-then-r-ne0
unfolding is_none
returns-then-r-ne0 c = rw (ne_eqb _ _ c.if-r-ne0.true)

pub returns : goal.returns
unfolding is_none
returns c = rw (eq-eqb _ _ c.if-r-ne0.false)
