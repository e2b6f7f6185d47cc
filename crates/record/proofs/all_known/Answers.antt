-- `record::all_known` meets its contract. Assumes nothing.
use Rattle.std.proofs.Common.{rules, tests}
use Prim.Native.Nat.{◌<◌}
use native.Mathlib.Omega.{arith}
use mathlib.Core.Path.{◌∙◌}
use Rattle.std.proofs.lemmas.Iterator.{serves_from_Range}
use Rattle.meaning.specs.Clock.{in_clock}
use Rattle.layout.specs.Clocks.{decode_clock}
use Rattle.record.proofs.Chains.{chain_all}
use Rattle.record.proofs.Formed.{all_versions}
use Rattle.record.proofs.Questions.{crewed_at}
use Rattle.record.proofs.Reading.{version_at}
use Rattle.record.proofs.all_known.Goals as goal

pub all-requires-clause-callable : goal.all-requires-clause-callable
all-requires-clause-callable c =
    serves_from_Range (λ x q k. search (rules, tests))
    (λ x l h. let small : x < 8 = omega (arith, c.version_count.ensures) in let crew = crewed_at c.args.b.now (omega arith) c.version_count.ensures c.requires.3 x h in search rules)

pub returns : goal.returns
returns c =
    chain_all c.version_count.result (λ i. in_clock (decode_clock c.args.rows.now) (version_at c.args.b.now i).dot) c.all.ensures.ran (cc) (λ x b q k. search (rules, tests))
    ∙ all_versions c.args.b.now (λ v. in_clock (decode_clock c.args.rows.now) v.dot) (omega arith) c.version_count.ensures
