-- `merging::goes_with` meets its contract. The answer hangs on the higher context, on those that arrive and on those that stay (Merged). Assumes nothing.
use mathlib.Core.Path.{◌∙◌}
use Rattle.block.proofs.Passing.{passed, failed, last_test, said_no, said_yes}
use Rattle.meaning.specs.Object.{survivors}
use Rattle.layout.specs.Clocks.{decode_clock}
use Rattle.merging.specs.Merging.{ours, theirs}
use Rattle.merging.proofs.Merged.{goes_tests}
use Rattle.merging.proofs.goes_with.Goals as goal

pub returns-then-not-settled_by : goal.returns-then-not-settled_by
returns-then-not-settled_by c = let a = c.args in
    let p = c.requires in
    failed (goes_tests (ours a.b.now a.here.now) (theirs a.m.now a.there.now) p.7 p.9 p.11 (decode_clock a.rows.now)) (said_no c.settled_by.ensures c.if-not-settled_by.true-raw)

pub returns-then-not-arrivals_deleted : goal.returns-then-not-arrivals_deleted
returns-then-not-arrivals_deleted c = let a = c.args in
    let p = c.requires in
    failed (passed (goes_tests (ours a.b.now a.here.now) (theirs a.m.now a.there.now) p.7 p.9 p.11 (decode_clock a.rows.now)) (said_yes c.settled_by.ensures c.if-not-settled_by.false-raw)) (said_no c.arrivals_deleted.ensures c.if-not-arrivals_deleted.true-raw)

pub returns : goal.returns
returns c = let a = c.args in
    let p = c.requires in
    unfold survivors in (c.survivors_deleted.ensures ∙ last_test (passed (passed (goes_tests (ours a.b.now a.here.now) (theirs a.m.now a.there.now) p.7 p.9 p.11 (decode_clock a.rows.now)) (said_yes c.settled_by.ensures c.if-not-settled_by.false-raw)) (said_yes c.arrivals_deleted.ensures c.if-not-arrivals_deleted.false-raw)))
