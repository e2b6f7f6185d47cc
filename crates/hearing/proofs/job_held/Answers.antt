-- `hearing::job_held` meets its contract. By us, and then by the sender (Points). Assumes nothing.
use borrow.Author.Rules.{rules}
use mathlib.Core.Path.{sym, subst}
use Rattle.numbers.specs.Numbers.{Crew}
use Rattle.store.proofs.Lent.{own_is_crew}
use Rattle.replying.proofs.Judging.{own_lent}
use Rattle.hearing.proofs.Points.{not_held_here, held_there}
use Rattle.hearing.proofs.job_held.Goals as goal

pub holds-requires : goal.holds-requires
holds-requires c = let image = c.args.image.now in
    (search rules, subst Crew (sym (own_lent image c.requires.0 c.own_of-own.result c.own_of-own.ensures)) (own_is_crew image c.requires.1))

pub returns-then-not-holds : goal.returns-then-not-holds
returns-then-not-holds c = let a = c.args in
    not_held_here a.image.now c.requires.0 c.own_of-own.result c.own_of-own.ensures a.sender a.b.now c.u8_at-job.result c.u8_at-job.ensures c.holds.result c.holds.ensures c.if-not-holds.true-raw

pub returns : goal.returns
returns c = let a = c.args in
    held_there a.image.now c.requires.0 c.own_of-own.result c.own_of-own.ensures a.sender a.b.now c.u8_at-job.result c.u8_at-job.ensures c.holds.result c.holds.ensures c.if-not-holds.false-raw c.holds-2.result c.holds-2.ensures
