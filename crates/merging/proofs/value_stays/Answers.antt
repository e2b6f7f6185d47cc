-- `merging::value_stays` meets its contract: its length says that it is deleted, or its dot decides (Judging). Assumes nothing.
use mathlib.Core.Path.{sym, subst}
use Rattle.numbers.specs.declared.Dot.{Dot}
use Rattle.numbers.specs.Numbers.{Crew}
use Rattle.record.proofs.Reading.{version_at}
use Rattle.merging.proofs.Carrying.{lasts, lasts_is}
use Rattle.merging.proofs.Judging.{no_value, by_other}
use Rattle.merging.proofs.value_stays.Goals as goal

pub returns-then-said_length : goal.returns-then-said_length
returns-then-said_length c = let a = c.args in
    no_value (lasts a.m.now a.there.now) a.b.now a.i c.said_length.result c.said_length.ensures c.if-said_length.true

pub survives-requires : goal.survives-requires
survives-requires c = let p = c.requires in
    (subst (λ (x : Dot). Crew x.who) (sym c.version_dot.ensures) p.2, p.3, p.4, p.5)

pub returns : goal.returns
returns c = let a = c.args in
    let b = a.b.now in
    let m = a.m.now in
    let there = a.there.now in
    by_other (lasts m there) b a.i c.said_length.result c.said_length.ensures c.if-said_length.false (sym (lasts_is m there (version_at b a.i) c.version_dot.ensures c.survives.ensures))
