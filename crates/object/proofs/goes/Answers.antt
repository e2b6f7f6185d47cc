-- `object::goes` meets its contract. The answer hangs on the stripped context and on the versions (Going). Assumes nothing.
use mathlib.Core.Path.{refl, ◌∙◌}
use Rattle.block.proofs.Passing.{passed, failed, last_test, said_no, said_yes}
use Rattle.layout.specs.Clocks.{decode_clock}
use Rattle.object.proofs.Going.{goes_tests}
use native.Mathlib.Omega.{arith}
use Rattle.object.proofs.goes.Goals as goal

pub returns-then-not-strips_to_none : goal.returns-then-not-strips_to_none
returns-then-not-strips_to_none c = let a = c.args in
    failed (goes_tests a.b.now (decode_clock a.rows.now) (omega arith) refl) (said_no c.strips_to_none.ensures c.if-not-strips_to_none.true-raw)

pub returns : goal.returns
returns c = let a = c.args in
    c.all_deleted.ensures
    ∙ last_test (passed (goes_tests a.b.now (decode_clock a.rows.now) (omega arith) c.version_count.ensures) (said_yes c.strips_to_none.ensures c.if-not-strips_to_none.false-raw))
