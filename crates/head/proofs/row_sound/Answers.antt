-- `head::row_sound` meets its contract. The three answers are those of RowSound. Assumes nothing.
use Rattle.head.proofs.RowSound.{good_far, good_by_shift, bad_first}
use borrow.Author.Rules.{rules}
use Rattle.head.proofs.row_sound.Goals as goal

pub returns-then-bits-ne0 : goal.returns-then-bits-ne0
returns-then-bits-ne0 c = bad_first c.args.r (search rules) (search rules) c.if-bits-ne0.true

pub returns-then-left-ge64 : goal.returns-then-left-ge64
returns-then-left-ge64 c = good_far c.args.r (search rules) (search rules) c.if-bits-ne0.false c.if-left-ge64.true

pub returns : goal.returns
returns c = good_by_shift c.args.r (search rules) (search rules) c.if-bits-ne0.false
