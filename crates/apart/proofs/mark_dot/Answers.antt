-- `apart::mark_dot` meets its contract. Assumes nothing.
use mathlib.Core.Path.{sym, ◌∙◌}
use Rattle.numbers.proofs.Tests.{and_passed, and_first}
use Rattle.apart.specs.Marks.{first_mark, second_mark}
use Rattle.apart.proofs.Marking.{one_then_other}
use Rattle.apart.proofs.mark_dot.Goals as goal

pub returns-then-first : goal.returns-then-first
unfolding first_mark second_mark
returns-then-first c = let both = one_then_other c.args.marks.now c.args.d c.mark-first.ensures c.mark-second.ensures in
    (sym (and_passed c.mark-first.result c.mark-second.result c.if-first.true) ∙ both.0, both.1)

pub returns-else-first : goal.returns-else-first
unfolding first_mark second_mark
returns-else-first c = let both = one_then_other c.args.marks.now c.args.d c.mark-first.ensures c.mark-second.ensures in
    (c.if-first.false ∙ sym (and_first c.mark-first.result c.mark-second.result c.if-first.false) ∙ both.0, both.1)
