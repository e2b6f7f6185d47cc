-- `record::is_controller` meets its contract. Two bounds. Assumes nothing.
use borrow.Author.Tests.{le-leb, lt-leb}
use Rattle.numbers.specs.Numbers.{is_controller}
use Rattle.record.proofs.is_controller.Goals as goal

pub returns-then-who-ge1 : goal.returns-then-who-ge1
unfolding is_controller
returns-then-who-ge1 c = rw (le-leb _ _ c.if-who-ge1.true)

pub returns-else-who-ge1 : goal.returns-else-who-ge1
unfolding is_controller
returns-else-who-ge1 c = rw (lt-leb _ _ c.if-who-ge1.false)
