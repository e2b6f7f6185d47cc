-- `checking::history_lost` meets its contract. By the parts that were lent (Judging). Assumes nothing.
use borrow.Author.Rules.{rules}
use mathlib.Core.Path.{sym, subst}
use Rattle.numbers.specs.Numbers.{Crew}
use Rattle.store.proofs.Lent.{own_is_crew}
use Rattle.checking.proofs.Judging.{own_lent, lost_is}
use Rattle.checking.proofs.history_lost.Goals as goal

pub row_at-ours-requires : goal.row_at-ours-requires
row_at-ours-requires c = let a = c.args in
    let r = c.requires in
    let image = a.image.now in
    (search rules, subst Crew (sym (own_lent image r.0 a.message.now c.own_of-own.result c.own_of-own.ensures)) (own_is_crew image r.1))

pub ahead_of_us-requires : goal.ahead_of_us-requires
ahead_of_us-requires c = let a = c.args in
    let r = c.requires in
    let image = a.image.now in
    (r.2, r.3, subst Crew (sym (own_lent image r.0 a.message.now c.own_of-own.result c.own_of-own.ensures)) (own_is_crew image r.1))

pub returns : goal.returns
returns c = let a = c.args in
    lost_is a.image.now c.requires.0 a.message.now c.own_of-own.result c.own_of-own.ensures c.row_at-ours.result c.row_at-ours.ensures c.ahead_of_us.result c.ahead_of_us.ensures
