-- `record::point_formed` meets its contract. The answer hangs on four tests (Formed). Assumes nothing.
use mathlib.Core.Path.{refl, ◌∙◌}
use native.Mathlib.Omega.{arith}
use Rattle.block.proofs.Numbers.{bytes_of}
use Rattle.block.proofs.Passing.{passed, failed, last_test, said_no, said_yes}
use Rattle.record.proofs.Formed.{point_tests}
use Rattle.record.proofs.point_formed.Goals as goal

pub returns-then-not-key_formed : goal.returns-then-not-key_formed
returns-then-not-key_formed c = let a = c.args in
    let b = a.b.now in
    let s = point_tests b a.table.now (bytes_of b c.type_inv.b) (omega arith) (omega arith) refl refl in
    failed s (said_no c.key_formed.ensures c.if-not-key_formed.true-raw)

pub returns-then-not-each_formed : goal.returns-then-not-each_formed
returns-then-not-each_formed c = let a = c.args in
    let b = a.b.now in
    let s1 = passed (point_tests b a.table.now (bytes_of b c.type_inv.b) (omega arith) (omega arith) c.version_count-count.ensures c.u8_at-job.ensures) (said_yes c.key_formed.ensures c.if-not-key_formed.false-raw) in
    failed s1 (said_no c.each_formed.ensures c.if-not-each_formed.true-raw)

pub returns-then-not-versions_ascend : goal.returns-then-not-versions_ascend
returns-then-not-versions_ascend c = let a = c.args in
    let b = a.b.now in
    let s1 = passed (point_tests b a.table.now (bytes_of b c.type_inv.b) (omega arith) (omega arith) c.version_count-count.ensures c.u8_at-job.ensures) (said_yes c.key_formed.ensures c.if-not-key_formed.false-raw) in
    let s2 = passed s1 (said_yes c.each_formed.ensures c.if-not-each_formed.false-raw) in
    failed s2 (said_no c.versions_ascend.ensures c.if-not-versions_ascend.true-raw)

pub returns : goal.returns
returns c = let a = c.args in
    let b = a.b.now in
    let s1 = passed (point_tests b a.table.now (bytes_of b c.type_inv.b) (omega arith) (omega arith) c.version_count-count.ensures c.u8_at-job.ensures) (said_yes c.key_formed.ensures c.if-not-key_formed.false-raw) in
    let s2 = passed s1 (said_yes c.each_formed.ensures c.if-not-each_formed.false-raw) in
    let s3 = passed s2 (said_yes c.versions_ascend.ensures c.if-not-versions_ascend.false-raw) in
    c.entries_formed.ensures ∙ last_test s3
