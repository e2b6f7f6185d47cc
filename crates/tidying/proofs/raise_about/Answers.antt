-- `tidying::raise_about` meets its contract. Our mark, and the sender's where n is a peer (Raising). Assumes nothing.
use borrow.Author.Rules.{rules}
use mathlib.Core.Path.{sym, subst, ◌∙◌}
use borrow.Author.Tests.{not-true, not-false}
use Rattle.numbers.specs.Numbers.{Crew}
use Rattle.layout.specs.Clocks.{decode_clock}
use Rattle.store.proofs.Lent.{own_part}
use Rattle.tidying.proofs.Raising.{own_raised, both_raised}
use Rattle.tidying.proofs.raise_about.Goals as goal

pub raise_mark-requires : goal.raise_mark-requires
raise_mark-requires c = (c.requires.0, c.requires.1, (subst Crew (sym (c.own_of-own.ensures ∙ own_part c.args.image.now c.requires.0)) c.requires.5), c.requires.3)

pub peers-requires : goal.peers-requires
peers-requires c = (search rules, (subst Crew (sym (c.own_of-own.ensures ∙ own_part c.args.image.now c.requires.0)) c.requires.5), c.requires.3)

pub returns-then-not-peers : goal.returns-then-not-peers
returns-then-not-peers c = own_raised c.args.image.now c.requires.0 c.args.sender c.args.n (decode_clock c.args.rows.now) c.own_of-own.result c.own_of-own.ensures c.row_at-ours.result c.row_at-ours.ensures c.raise_mark.new.image (search rules) c.raise_mark.ensures c.peers.result c.peers.ensures (not-true _ c.if-not-peers.true-raw)

pub returns : goal.returns
returns c = both_raised c.args.image.now c.requires.0 c.args.sender c.args.n (decode_clock c.args.rows.now) c.own_of-own.result c.own_of-own.ensures c.row_at-ours.result c.row_at-ours.ensures c.raise_mark.new.image (search rules) c.raise_mark.ensures c.peers.result c.peers.ensures (not-false _ c.if-not-peers.false-raw) c.requires.6 c.row_at-theirs.result c.row_at-theirs.ensures _ c.raise_mark-2.ensures
