-- `record::covered_at` meets its contract. The entry covers the dot, or the base of a holder's row does. Assumes nothing.
use mathlib.Core.Path.{sym, subst}
use native.Mathlib.Omega.{arith}
use Rattle.numbers.specs.declared.Dot.{Dot}
use Rattle.numbers.specs.Numbers.{Crew}
use Rattle.block.specs.Fields.{field}
use Rattle.layout.specs.Clocks.{decode_clock}
use Rattle.layout.specs.PointBlock.{form_1, decode_point}
use Rattle.block.proofs.Passing.{said_no, said_yes}
use Rattle.record.proofs.Questions.{fill_covers, fill_misses, fill_base}
use Rattle.record.proofs.covered_at.Goals as goal

pub context_entry-e-requires : goal.context_entry-e-requires
context_entry-e-requires c = let crew = subst (λ (x : Dot). Crew x.who) (sym c.version_dot-d.ensures) c.requires.4 in (omega arith, crew)

pub returns-then-c-e : goal.returns-then-c-e
returns-then-c-e c = let crew = subst (λ (x : Dot). Crew x.who) (sym c.version_dot-d.ensures) c.requires.4 in
    let a = c.args in
    let b = a.b.now in
    fill_covers (decode_point form_1 b).object.context c.version_dot-d.ensures c.context_entry-e.ensures a.table.now (field b 4 1) (decode_clock a.rows.now) crew c.if-c-e.true

pub holds-requires : goal.holds-requires
holds-requires c = let crew = subst (λ (x : Dot). Crew x.who) (sym c.version_dot-d.ensures) c.requires.4 in (omega arith, crew)

pub returns-then-not-holds : goal.returns-then-not-holds
returns-then-not-holds c = let crew = subst (λ (x : Dot). Crew x.who) (sym c.version_dot-d.ensures) c.requires.4 in
    let a = c.args in
    let b = a.b.now in
    fill_misses (decode_point form_1 b).object.context c.version_dot-d.ensures c.context_entry-e.ensures a.table.now (field b 4 1) (decode_clock a.rows.now) crew c.u8_at-job.ensures (omega arith)
    (said_no c.holds.ensures c.if-not-holds.true-raw)

pub row_at-r-requires : goal.row_at-r-requires
row_at-r-requires c = let crew = subst (λ (x : Dot). Crew x.who) (sym c.version_dot-d.ensures) c.requires.4 in (omega arith, crew)

pub returns : goal.returns
returns c = let crew = subst (λ (x : Dot). Crew x.who) (sym c.version_dot-d.ensures) c.requires.4 in
    let a = c.args in
    let b = a.b.now in
    fill_base (decode_point form_1 b).object.context c.version_dot-d.ensures c.context_entry-e.ensures a.table.now (field b 4 1) (decode_clock a.rows.now) crew c.u8_at-job.ensures (omega arith)
    (said_yes c.holds.ensures c.if-not-holds.false-raw) c.row_at-r.ensures
