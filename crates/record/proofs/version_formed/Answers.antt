-- `record::version_formed` meets its contract. The answer hangs on three tests (Formed). Assumes nothing.
use native.Mathlib.Omega.{arith}
use Rattle.block.proofs.Numbers.{bytes_of}
use Rattle.numbers.proofs.Controllers.{crew_is}
use Rattle.block.proofs.Passing.{passed, failed, last_test, said_no, said_yes}
use Rattle.record.proofs.Formed.{version_tests}
use Rattle.record.proofs.version_formed.Goals as goal

pub returns-then-not-is_controller : goal.returns-then-not-is_controller
returns-then-not-is_controller c = let a = c.args in
    let b = a.b.now in
    let s = version_tests b a.i a.table.now a.job (bytes_of b c.type_inv.b) (omega arith) (omega arith) c.version_dot-d.ensures in
    failed s (said_no c.is_controller.ensures c.if-not-is_controller.true-raw)

pub holds-requires : goal.holds-requires
holds-requires c = (omega arith, crew_is _ (said_yes c.is_controller.ensures c.if-not-is_controller.false-raw))

pub returns-then-not-holds : goal.returns-then-not-holds
returns-then-not-holds c = let a = c.args in
    let b = a.b.now in
    let s = version_tests b a.i a.table.now a.job (bytes_of b c.type_inv.b) (omega arith) (omega arith) c.version_dot-d.ensures in
    failed (passed s (said_yes c.is_controller.ensures c.if-not-is_controller.false-raw)) (said_no c.holds.ensures c.if-not-holds.true-raw)

pub returns : goal.returns
returns c = let a = c.args in
    let b = a.b.now in
    let s = version_tests b a.i a.table.now a.job (bytes_of b c.type_inv.b) (omega arith) (omega arith) c.version_dot-d.ensures in
    last_test (passed (passed s (said_yes c.is_controller.ensures c.if-not-is_controller.false-raw)) (said_yes c.holds.ensures c.if-not-holds.false-raw))
