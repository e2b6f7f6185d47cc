-- `record::covered_as_is` meets its contract. Assumes nothing.
use Rattle.std.proofs.Common.{rules, tests}
use Prim.Native.Nat.{◌<◌}
use native.Mathlib.Omega.{arith}
use mathlib.Core.Path.{◌∙◌}
use Rattle.std.proofs.lemmas.Iterator.{serves_from_Range}
use Rattle.meaning.specs.Context.{covers}
use Rattle.layout.specs.PointBlock.{form_1, decode_point}
use Rattle.record.proofs.Chains.{chain_all}
use Rattle.record.proofs.Questions.{crewed_at, all_covered}
use Rattle.record.proofs.Reading.{version_at}
use Rattle.record.proofs.covered_as_is.Goals as goal

pub all-requires-clause-callable : goal.all-requires-clause-callable
all-requires-clause-callable c =
    serves_from_Range (λ x q k. search (rules, tests))
    (λ x l h. let small : x < 8 = omega (arith, c.version_count.ensures) in let crew = crewed_at c.args.b.now (omega arith) c.version_count.ensures c.requires.2 x h in search rules)

pub returns : goal.returns
unfolding covers
returns c =
    chain_all c.version_count.result (λ i. covers (decode_point form_1 c.args.b.now).object.context (version_at c.args.b.now i).dot) c.all.ensures.ran (cc) (λ x b q k. search (rules, tests))
    ∙ all_covered c.args.b.now (decode_point form_1 c.args.b.now).object.context (omega arith) c.version_count.ensures
