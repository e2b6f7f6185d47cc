-- `checking::ahead_of_us` meets its contract. By a dot, or by the own entry (Ahead). Assumes nothing.
use Rattle.layout.specs.PointBlock.{form_1, decode_point}
use Rattle.checking.proofs.Ahead.{by_a_dot, by_the_entry}
use Rattle.checking.proofs.ahead_of_us.Goals as goal

pub returns-then-version_above : goal.returns-then-version_above
returns-then-version_above c = let a = c.args in
    by_a_dot a.own a.base (decode_point form_1 a.b.now).object c.version_above.result c.version_above.ensures c.if-version_above.true

pub returns : goal.returns
returns c = let a = c.args in
    by_the_entry a.own a.base (decode_point form_1 a.b.now).object c.version_above.result c.version_above.ensures c.if-version_above.false c.context_entry-e.result c.context_entry-e.ensures
