-- `noting::arrives_new` meets its contract (Looking). Assumes nothing.
use Rattle.std.proofs.Common.{rules, ◌≡◌, ltb}
use mathlib.Core.Path.{◌∙◌}
use Rattle.noting.proofs.Looking.{known_already, not_known}
use Rattle.noting.proofs.arrives_new.Goals as goal

pub returns-then-in_clock : goal.returns-then-in_clock
returns-then-in_clock c = known_already c.args.image.now c.requires.0 c.args.k c.args.d c.in_clock.result c.in_clock.ensures c.if-in_clock.true

pub local_entry-here-requires : goal.local_entry-here-requires
local_entry-here-requires c = (c.requires.0, c.requires.1, c.requires.2, c.requires.3, c.requires.4)

pub returns : goal.returns
returns c = let e : c.lt.result ≡ ltb c.local_entry-here.result.0 c.args.d.count.0 = search rules in e ∙ not_known c.args.image.now c.requires.0 c.args.k c.args.d c.in_clock.result c.in_clock.ensures c.if-in_clock.false c.local_entry-here.result c.local_entry-here.ensures
