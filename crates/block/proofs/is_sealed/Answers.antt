-- `block::is_sealed` meets its contract. The two reads and the sums are those that `sealed` names. Assumes nothing.
use borrow.Author.Tests.{eq-eqb, ne_eqb}
use Rattle.block.specs.Check.{sealed}
use Rattle.block.proofs.is_sealed.Goals as goal

pub returns-then-u16_at-s : goal.returns-then-u16_at-s
unfolding sealed
returns-then-u16_at-s c = rw (← c.u16_at.ensures, ← c.sums_of-s.ensures, eq-eqb _ _ c.if-u16_at-s.true, c.u16_at-then-u16_at-s.ensures)

pub returns-else-u16_at-s : goal.returns-else-u16_at-s
unfolding sealed
returns-else-u16_at-s c = rw (← c.u16_at.ensures, ← c.sums_of-s.ensures, ne_eqb _ _ c.if-u16_at-s.false)
