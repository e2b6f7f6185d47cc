-- `writing::no_place` meets its contract. Assumes nothing.
use mathlib.Core.Path.{sym}
use borrow.Author.Tests.{not-true, not-false}
use Rattle.writing.proofs.no_place.Goals as goal

pub returns-then-not-valued : goal.returns-then-not-valued
returns-then-not-valued c = sym (rw (not-true c.args.valued c.if-not-valued.true-raw))

pub returns : goal.returns
returns c = sym (rw (not-false c.args.valued c.if-not-valued.false-raw))
