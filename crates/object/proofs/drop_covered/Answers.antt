-- `object::drop_covered` meets its contract. Assumes nothing.
use Rattle.std.proofs.Common.{rules, tests}
use mathlib.Core.Path.{◌≡◌, ◌∙◌}
use Rattle.numbers.specs.Words.{map}
use Rattle.numbers.specs.Numbers.{counter}
use Rattle.meaning.specs.Context.{covers}
use Rattle.layout.specs.PointBlock.{form_1, decode_point}
use Rattle.object.specs.Dropping.{version_in}
use Rattle.object.proofs.Asking.{crewed_asked, not_not}
use Rattle.object.proofs.Counting.{stays}
use Rattle.object.proofs.drop_covered.Goals as goal

pub drop_where-requires-clause-asked : goal.drop_where-requires-clause-asked
drop_where-requires-clause-asked c = λ x i size small l there. let crew = crewed_asked (decode_point form_1 c.args.b.now).object.versions c.requires.3 x.now i l there in search rules

pub returns : goal.returns
returns c =
    c.drop_where.ensures (stays c.args.context.now)
    (λ x i r size small k. let says : r ≡ covers (map counter c.args.context.now) (version_in x.now i).dot = search (rules, tests) in says ∙ not_not _)
