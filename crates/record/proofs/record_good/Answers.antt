-- `record::record_good` meets its contract. The answer hangs on six tests (Questions). Assumes nothing.
use mathlib.Core.Path.{ap, ◌∙◌}
use mathlib.Core.Bool.{not}
use native.Mathlib.Omega.{arith}
use Rattle.meaning.specs.CrewTable.{holds}
use Rattle.layout.specs.Clocks.{decode_clock}
use Rattle.layout.specs.PointBlock.{form_1, decode_point}
use Rattle.block.proofs.Passing.{passed, failed, last_test, said_no, said_yes}
use Rattle.record.proofs.Questions.{formed_crewed, at_base, above_base, good_tests}
use Rattle.record.proofs.record_good.Goals as goal

pub returns-then-not-point_formed : goal.returns-then-not-point_formed
returns-then-not-point_formed c = let a = c.args in
    failed (good_tests a.b.now a.own a.table.now (decode_clock a.rows.now)) (said_no c.point_formed.ensures c.if-not-point_formed.true-raw)

pub returns-then-not-holds : goal.returns-then-not-holds
returns-then-not-holds c = let a = c.args in
    let s1 = passed (good_tests a.b.now a.own a.table.now (decode_clock a.rows.now)) (said_yes c.point_formed.ensures c.if-not-point_formed.false-raw) in
    failed s1 (said_no (c.holds.ensures ∙ ap (holds a.table.now a.own) c.u8_at-job.ensures) c.if-not-holds.true-raw)

pub covered_filled-requires : goal.covered_filled-requires
covered_filled-requires c = let a = c.args in
    let crew = formed_crewed a.table.now (decode_point form_1 a.b.now).key (decode_point form_1 a.b.now).object (said_yes c.point_formed.ensures c.if-not-point_formed.false-raw) in
    (omega arith, omega arith, omega arith, omega arith, crew)

pub returns-then-not-covered_filled : goal.returns-then-not-covered_filled
returns-then-not-covered_filled c = let a = c.args in
    let s1 = passed (good_tests a.b.now a.own a.table.now (decode_clock a.rows.now)) (said_yes c.point_formed.ensures c.if-not-point_formed.false-raw) in
    let s2 = passed s1 (said_yes (c.holds.ensures ∙ ap (holds a.table.now a.own) c.u8_at-job.ensures) c.if-not-holds.false-raw) in
    failed s2 (said_no c.covered_filled.ensures c.if-not-covered_filled.true-raw)

pub all_known-requires : goal.all_known-requires
all_known-requires c = let a = c.args in
    let crew = formed_crewed a.table.now (decode_point form_1 a.b.now).key (decode_point form_1 a.b.now).object (said_yes c.point_formed.ensures c.if-not-point_formed.false-raw) in
    (omega arith, omega arith, omega arith, crew)

pub returns-then-not-all_known : goal.returns-then-not-all_known
returns-then-not-all_known c = let a = c.args in
    let s1 = passed (good_tests a.b.now a.own a.table.now (decode_clock a.rows.now)) (said_yes c.point_formed.ensures c.if-not-point_formed.false-raw) in
    let s2 = passed s1 (said_yes (c.holds.ensures ∙ ap (holds a.table.now a.own) c.u8_at-job.ensures) c.if-not-holds.false-raw) in
    let s3 = passed s2 (said_yes c.covered_filled.ensures c.if-not-covered_filled.false-raw) in
    failed s3 (said_no c.all_known.ensures c.if-not-all_known.true-raw)

pub returns-then-r-e : goal.returns-then-r-e
returns-then-r-e c = let a = c.args in
    let s1 = passed (good_tests a.b.now a.own a.table.now (decode_clock a.rows.now)) (said_yes c.point_formed.ensures c.if-not-point_formed.false-raw) in
    let s2 = passed s1 (said_yes (c.holds.ensures ∙ ap (holds a.table.now a.own) c.u8_at-job.ensures) c.if-not-holds.false-raw) in
    let s3 = passed s2 (said_yes c.covered_filled.ensures c.if-not-covered_filled.false-raw) in
    let s4 = passed s3 (said_yes c.all_known.ensures c.if-not-all_known.false-raw) in
    failed s4 (above_base c.context_entry-e.ensures c.row_at-r.ensures c.if-r-e.true)

pub returns : goal.returns
returns c = let a = c.args in
    let s1 = passed (good_tests a.b.now a.own a.table.now (decode_clock a.rows.now)) (said_yes c.point_formed.ensures c.if-not-point_formed.false-raw) in
    let s2 = passed s1 (said_yes (c.holds.ensures ∙ ap (holds a.table.now a.own) c.u8_at-job.ensures) c.if-not-holds.false-raw) in
    let s3 = passed s2 (said_yes c.covered_filled.ensures c.if-not-covered_filled.false-raw) in
    let s4 = passed s3 (said_yes c.all_known.ensures c.if-not-all_known.false-raw) in
    let s5 = passed s4 (at_base c.context_entry-e.ensures c.row_at-r.ensures c.if-r-e.false) in
    ap not c.is_gone.ensures ∙ last_test s5
