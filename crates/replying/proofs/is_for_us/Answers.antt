-- `replying::is_for_us` meets its contract. By the parts that were lent (Judging). Assumes nothing.
use mathlib.Core.Path.{ap₂, ◌∙◌}
use Rattle.std.proofs.Common.{rules, ◌≡◌}
use Rattle.numbers.specs.declared.Controller.{Controller}
use Rattle.numbers.specs.Numbers.{same_controller}
use Rattle.replying.proofs.Judging.{own_lent}
use Rattle.replying.proofs.is_for_us.Goals as goal

pub returns : goal.returns
returns c = let e : ◌≡◌ c.eq.result (same_controller c.addressee_of.result c.own_of-own.result) = search rules in e ∙ ap₂ (λ (n m : Controller). same_controller n m) c.addressee_of.ensures (own_lent c.args.image.now c.requires.0 c.own_of-own.result c.own_of-own.ensures)
