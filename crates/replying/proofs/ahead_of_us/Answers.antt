-- `replying::ahead_of_us` meets its contract. By the parts that were lent (Judging). Assumes nothing.
use borrow.Author.Rules.{rules}
use mathlib.Core.Path.{sym, subst}
use Rattle.numbers.specs.Numbers.{Crew}
use Rattle.store.proofs.Lent.{own_is_crew}
use Rattle.replying.proofs.Judging.{own_lent, ahead_lent}
use Rattle.replying.proofs.ahead_of_us.Goals as goal

pub row_at-ours-requires : goal.row_at-ours-requires
row_at-ours-requires c = (search rules, (subst Crew (sym (own_lent c.args.image.now c.requires.0 c.own_of-own.result c.own_of-own.ensures)) (own_is_crew c.args.image.now c.requires.1)))

pub row_at-requires : goal.row_at-requires
row_at-requires c = (search rules, (subst Crew (sym (own_lent c.args.image.now c.requires.0 c.own_of-own.result c.own_of-own.ensures)) (own_is_crew c.args.image.now c.requires.1)))

pub returns : goal.returns
returns c = ahead_lent c.args.image.now c.requires.0 c.own_of-own.result c.own_of-own.ensures c.args.rows.now c.row_at-ours.result c.row_at.result c.row_ahead.result c.row_at-ours.ensures c.row_at.ensures c.row_ahead.ensures
