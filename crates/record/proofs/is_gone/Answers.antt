-- `record::is_gone` meets its contract. The answer hangs on the context and on the versions. Assumes nothing.
use mathlib.Core.Path.{refl, ◌∙◌}
use native.Mathlib.Omega.{arith}
use Rattle.block.proofs.Passing.{passed, failed, last_test, said_no, said_yes}
use Rattle.record.proofs.Questions.{gone_tests}
use Rattle.record.proofs.is_gone.Goals as goal

pub returns-then-not-is_zero : goal.returns-then-not-is_zero
returns-then-not-is_zero c = failed (gone_tests c.args.b.now (omega arith) (omega arith) refl) (said_no c.is_zero.ensures c.if-not-is_zero.true-raw)

pub returns : goal.returns
returns c = c.all_deleted.ensures ∙ last_test (passed (gone_tests c.args.b.now (omega arith) (omega arith) c.version_count.ensures) (said_yes c.is_zero.ensures c.if-not-is_zero.false-raw))
