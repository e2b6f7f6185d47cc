-- `head::head_good` meets its contract. The lent parts are those of the head (Laid). Assumes nothing.
use mathlib.Core.Path.{sym, ap, ◌∙◌}
use Rattle.numbers.specs.declared.Controller.{Controller}
use Rattle.block.specs.Fields.{cut}
use Rattle.head.specs.HeadGood.{head_good}
use Rattle.head.specs.HeadParts.{head_of_parts}
use Rattle.head.proofs.Laid.{parts_of_head}
use borrow.Author.Rules.{rules}
use Rattle.head.proofs.head_good.Goals as goal

pub returns : goal.returns
returns c = let b = c.args.b.now in
    c.parts_good.ensures
    ∙ ap (λ (n : Controller). head_good (head_of_parts n (cut b 8 8) (cut b 16 96) (cut b 112 256))) c.own_of.ensures
    ∙ ap head_good (sym (parts_of_head b (search rules)))
