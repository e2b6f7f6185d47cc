-- `writing::next_dot` meets its contract. The own number and one more than the own base. Assumes nothing.
use Prim.Native.Nat.{ℕ, ◌+◌}
use mathlib.Core.Path.{ap₂, ◌∙◌}
use native.Mathlib.Omega.{arith}
use Rattle.numbers.specs.declared.Controller.{Controller}
use Rattle.numbers.specs.Numbers.{counter}
use Rattle.meaning.specs.OwnSteps.{next_dot}
use Rattle.store.proofs.Lent.{own_part}
use Rattle.writing.proofs.next_dot.Goals as goal

pub overflow_add-result : goal.overflow_add-result
overflow_add-result c = omega (arith, c.own_base.ensures, c.requires.2)

pub returns : goal.returns
returns c = unfold next_dot in ap₂ (λ (n : Controller) (b : ℕ). record { who = n; count = counter (b + 1) }) (c.own_of.ensures ∙ own_part c.args.image.now c.requires.0) c.own_base.ensures
