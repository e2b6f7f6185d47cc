-- `exchange::other_peer` meets its contract. By the parts that were lent (Asking). Assumes nothing.
use mathlib.Core.Path.{sym, ◌∙◌, subst}
use borrow.Author.Rules.{rules}
use Rattle.numbers.specs.Numbers.{Crew}
use Rattle.store.proofs.Lent.{own_part, own_is_crew}
use Rattle.exchange.proofs.Asking.{not_ourselves, by_table}
use Rattle.exchange.proofs.other_peer.Goals as goal

pub returns-then-eq : goal.returns-then-eq
returns-then-eq c = not_ourselves c.args.image.now c.requires.0 c.own_of-own.result c.args.m c.own_of-own.ensures (search rules)

pub peers-requires : goal.peers-requires
peers-requires c = (search rules, subst Crew (sym (c.own_of-own.ensures ∙ own_part c.args.image.now c.requires.0)) (own_is_crew c.args.image.now c.requires.1), c.requires.2)

pub returns : goal.returns
returns c = by_table c.args.image.now c.requires.0 c.own_of-own.result c.args.m c.own_of-own.ensures (search rules) c.peers.result c.peers.ensures
