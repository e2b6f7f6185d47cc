-- `dots::entry_good` meets its contract. Each answer is one of the tests that Entry names. Assumes nothing.
use mathlib.Core.Path.{sym, ◌∙◌}
use native.Mathlib.Omega.{arith}
use borrow.Author.Tests.{not-true, not-false}
use Rattle.layout.specs.Clocks.{decode_clock}
use Rattle.dots.specs.Lists.{is_own}
use Rattle.dots.proofs.Entry.{bad, bad_range, bad_job, bad_point, bad_who, bad_count, last_asked}
use borrow.Author.Rules.{rules}
use Rattle.dots.proofs.entry_good.Goals as goal

pub returns-then-job-gt7 : goal.returns-then-job-gt7
returns-then-job-gt7 c = let a = c.args in
    bad_job (is_own a.list) a.own a.table.now (decode_clock a.rows.now) (record { dot = a.d; key = a.k }) c.if-job-gt7.true

pub returns-then-k-lt1 : goal.returns-then-k-lt1
returns-then-k-lt1 c = let a = c.args in
    bad_point (is_own a.list) a.own a.table.now (decode_clock a.rows.now) (record { dot = a.d; key = a.k }) c.if-k-lt1.true

pub returns-then-who-lt1 : goal.returns-then-who-lt1
returns-then-who-lt1 c = let a = c.args in
    bad_who (is_own a.list) a.own a.table.now (decode_clock a.rows.now) (record { dot = a.d; key = a.k }) (λ k. omega (arith, k.0))

pub returns-then-who-gt8 : goal.returns-then-who-gt8
returns-then-who-gt8 c = let a = c.args in
    bad_who (is_own a.list) a.own a.table.now (decode_clock a.rows.now) (record { dot = a.d; key = a.k }) (λ k. omega (arith, k.1))

pub returns-then-d-lt1 : goal.returns-then-d-lt1
returns-then-d-lt1 c = let a = c.args in
    bad_count (is_own a.list) a.own a.table.now (decode_clock a.rows.now) (record { dot = a.d; key = a.k }) c.if-d-lt1.true

pub returns-then-not-holds : goal.returns-then-not-holds
returns-then-not-holds c = let a = c.args in
    bad_range (is_own a.list) a.own a.table.now (decode_clock a.rows.now)
    (record { dot = a.d; key = a.k }) 2 (sym c.holds.ensures ∙ not-true _ c.if-not-holds.true-raw)

pub returns-then-not-in_its_list : goal.returns-then-not-in_its_list
returns-then-not-in_its_list c = let a = c.args in
    bad (is_own a.list) a.own a.table.now (decode_clock a.rows.now)
    (record { dot = a.d; key = a.k }) 1 (sym c.in_its_list.ensures ∙ not-true _ c.if-not-in_its_list.true-raw)

pub returns-then-not-holds-2 : goal.returns-then-not-holds-2
returns-then-not-holds-2 c = let a = c.args in
    bad (is_own a.list) a.own a.table.now (decode_clock a.rows.now)
    (record { dot = a.d; key = a.k }) 2 (sym c.holds-2.ensures ∙ not-true _ c.if-not-holds-2.true-raw)

pub returns : goal.returns
returns c = let a = c.args in
    c.in_clock.ensures
    ∙ last_asked (is_own a.list) a.own a.table.now (decode_clock a.rows.now)
    (record { dot = a.d; key = a.k }) c.if-job-gt7.false
    (search rules) (search rules) (search rules) (sym c.holds.ensures ∙ not-false _ c.if-not-holds.false-raw)
    (sym c.in_its_list.ensures ∙ not-false _ c.if-not-in_its_list.false-raw)
    (sym c.holds-2.ensures ∙ not-false _ c.if-not-holds-2.false-raw)
