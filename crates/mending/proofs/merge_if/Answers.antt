-- `mending::merge_if` meets its contract. Assumes nothing.
use mathlib.Core.Path.{refl}
use borrow.Author.Tests.{eq-eqb, ne_eqb}
use Rattle.mending.proofs.merge_if.Goals as goal

pub merge_point-requires : goal.merge_point-requires
merge_point-requires c = (c.requires.0, c.requires.1, c.requires.2, c.requires.3, c.requires.4, c.requires.5, c.requires.6, c.requires.7 (eq-eqb _ _ c.if-mark-which.true), c.requires.8 (eq-eqb _ _ c.if-mark-which.true))

pub returns-then-mark-which : goal.returns-then-mark-which
returns-then-mark-which c = rw (eq-eqb _ _ c.if-mark-which.true) c.merge_point.ensures

pub returns-else-mark-which : goal.returns-else-mark-which
returns-else-mark-which c = rw (ne_eqb _ _ c.if-mark-which.false) (refl, c.requires.1)
