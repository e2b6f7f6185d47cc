-- `merging::survives` meets its contract: either question decides (Carrying). Assumes nothing.
use Rattle.merging.proofs.Carrying.{stays_both, stays_alone}
use Rattle.merging.proofs.survives.Goals as goal

pub returns-then-has_version : goal.returns-then-has_version
returns-then-has_version c = let a = c.args in
    stays_both a.m.now a.there.now a.d c.has_version.ensures c.if-has_version.true

pub returns : goal.returns
returns c = let a = c.args in
    stays_alone a.m.now a.there.now a.d c.has_version.ensures c.if-has_version.false c.given_covers.ensures
