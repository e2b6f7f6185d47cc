-- `merging::goes_alone` meets its contract. The answer hangs on the higher context and on those that arrive (Merged). Assumes nothing.
use mathlib.Core.Path.{◌∙◌}
use Rattle.block.proofs.Passing.{passed, failed, last_test, said_no, said_yes}
use Rattle.numbers.specs.Words.{map}
use Rattle.numbers.specs.Numbers.{counter}
use Rattle.layout.specs.Clocks.{decode_clock}
use Rattle.merging.specs.Merging.{theirs}
use Rattle.merging.proofs.Merged.{goes_alone_tests}
use Rattle.merging.proofs.goes_alone.Goals as goal

pub returns-then-not-settled_by : goal.returns-then-not-settled_by
returns-then-not-settled_by c = let a = c.args in
    failed (goes_alone_tests (map counter a.here.now) (theirs a.m.now a.there.now) (decode_clock a.rows.now)) (said_no c.settled_by.ensures c.if-not-settled_by.true-raw)

pub returns : goal.returns
returns c = let a = c.args in
    c.arrivals_deleted.ensures ∙ last_test (passed (goes_alone_tests (map counter a.here.now) (theirs a.m.now a.there.now) (decode_clock a.rows.now)) (said_yes c.settled_by.ensures c.if-not-settled_by.false-raw))
