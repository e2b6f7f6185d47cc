-- `greeting::ask_formed` meets its contract. Test by test (Formed). Assumes nothing.
use mathlib.Core.Path.{ap, ap₂, sym, ◌∙◌}
use borrow.Author.Tests.{not-true, not-false}
use Rattle.numbers.specs.declared.Controller.{Controller}
use Rattle.numbers.specs.Numbers.{is_controller}
use Rattle.numbers.proofs.Lists.{passed, ◌and_also◌}
use Rattle.numbers.proofs.Controllers.{crew_is}
use Rattle.meaning.specs.Message.{clock_formed}
use Rattle.meaning.specs.Clock.{Clock}
use Rattle.greeting.proofs.Formed.{ill_ask, by_clock, clock_of}
use borrow.Author.Rules.{rules}
use Rattle.greeting.proofs.ask_formed.Goals as goal

pub returns-then-not-is_controller : goal.returns-then-not-is_controller
returns-then-not-is_controller c = ill_ask c.args.table.now c.args.b.now 0 ((sym (c.is_controller.ensures ∙ ap is_controller c.sender_of-sender.ensures)) ∙ not-true _ c.if-not-is_controller.true-raw)

pub returns-then-not-is_controller-2 : goal.returns-then-not-is_controller-2
returns-then-not-is_controller-2 c = ill_ask c.args.table.now c.args.b.now 1 ((sym (c.is_controller-2.ensures ∙ ap is_controller c.addressee_of.ensures)) ∙ not-true _ c.if-not-is_controller-2.true-raw)

pub clock_formed-requires : goal.clock_formed-requires
clock_formed-requires c = (search rules, crew_is c.sender_of-sender.result (sym c.is_controller.ensures ∙ not-false _ c.if-not-is_controller.false-raw), search rules)

pub returns : goal.returns
returns c = c.clock_formed.ensures ∙ ap₂ (λ (n : Controller) (k : Clock). clock_formed c.args.table.now n k) c.sender_of-sender.ensures (clock_of c.args.table.now c.args.b.now) ∙ by_clock c.args.table.now c.args.b.now (((sym (c.is_controller.ensures ∙ ap is_controller c.sender_of-sender.ensures)) ∙ not-false _ c.if-not-is_controller.false-raw) and_also ((sym (c.is_controller-2.ensures ∙ ap is_controller c.addressee_of.ensures)) ∙ not-false _ c.if-not-is_controller-2.false-raw) and_also passed)
