-- `arriving::enter_version` meets its contract. Assumes nothing.
use Rattle.std.specs.Prelude.{if◌then◌else◌}
use mathlib.Core.Path.{ap, sym, ◌∙◌}
use mathlib.Core.Bool.{Bool}
use Rattle.arriving.specs.Tried.{tried}
use Rattle.arriving.proofs.enter_version.Goals as goal

pub returns-then-is_new_of : goal.returns-then-is_new_of
returns-then-is_new_of c = c.try_counter.ensures ∙ sym (ap (λ (b : Bool). if b then tried c.args.t c.args.d.count else c.args.t) (sym c.is_new_of.ensures ∙ c.if-is_new_of.true))

pub returns : goal.returns
returns c = sym (ap (λ (b : Bool). if b then tried c.args.t c.args.d.count else c.args.t) (sym c.is_new_of.ensures ∙ c.if-is_new_of.false))
