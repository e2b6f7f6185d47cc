-- `checking::job_held` meets its contract. By us, and then by the sender (Judging). Assumes nothing.
use borrow.Author.Rules.{rules}
use mathlib.Core.Path.{sym, subst}
use Rattle.numbers.specs.Numbers.{Crew}
use Rattle.store.proofs.Lent.{own_is_crew}
use Rattle.checking.proofs.Judging.{own_lent, not_held_here, held_there}
use Rattle.checking.proofs.job_held.Goals as goal

pub holds-requires : goal.holds-requires
holds-requires c = let a = c.args in
    let r = c.requires in
    let image = a.image.now in
    (search rules, subst Crew (sym (own_lent image r.0 a.message.now c.own_of-own.result c.own_of-own.ensures)) (own_is_crew image r.1))

pub returns-then-not-holds : goal.returns-then-not-holds
returns-then-not-holds c = let a = c.args in
    not_held_here a.image.now c.requires.0 a.message.now c.own_of-own.result c.own_of-own.ensures c.u8_at-job.result c.u8_at-job.ensures c.holds.result c.holds.ensures c.if-not-holds.true-raw

pub holds-requires-2 : goal.holds-requires-2
holds-requires-2 c = (search rules, subst Crew (sym c.sender_of.ensures) c.requires.3)

pub returns : goal.returns
returns c = let a = c.args in
    held_there a.image.now c.requires.0 a.message.now c.own_of-own.result c.own_of-own.ensures c.u8_at-job.result c.u8_at-job.ensures c.holds.result c.holds.ensures c.if-not-holds.false-raw c.sender_of.result c.sender_of.ensures c.holds-2.result c.holds-2.ensures
