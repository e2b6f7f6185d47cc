-- `record::covered_filled` meets its contract. Assumes nothing.
use Rattle.std.proofs.Common.{rules, tests}
use Prim.Native.Nat.{◌<◌}
use native.Mathlib.Omega.{arith}
use Rattle.std.proofs.lemmas.Iterator.{serves_from_Range}
use mathlib.Core.Path.{◌∙◌}
use Rattle.meaning.specs.Context.{covers}
use Rattle.layout.specs.PointBlock.{decode_point}
use Rattle.record.proofs.Chains.{chain_all}
use Rattle.record.proofs.Questions.{crewed_at, filled, all_covered}
use Rattle.record.proofs.Reading.{version_at}
use Rattle.record.proofs.covered_filled.Goals as goal

pub all-requires-clause-callable : goal.all-requires-clause-callable
all-requires-clause-callable c =
    serves_from_Range (λ x q k. search (rules, tests))
    (λ x l h. let small : x < 8 = omega (arith, c.version_count.ensures) in let crew = crewed_at c.args.b.now (omega arith) c.version_count.ensures c.requires.4 x h in search rules)

pub returns : goal.returns
unfolding decode_point
returns c =
    chain_all c.version_count.result (λ i. covers (filled c.args.b.now c.args.table.now c.args.rows.now) (version_at c.args.b.now i).dot) c.all.ensures.ran (cc) (λ x b q k. search (rules, tests))
    ∙ all_covered c.args.b.now (filled c.args.b.now c.args.table.now c.args.rows.now) (omega arith) c.version_count.ensures
