-- `record::versions_ascend` meets its contract. Assumes nothing.
use Rattle.std.proofs.Common.{rules, tests}
use Prim.Native.Nat.{◌+◌, ◌-◌}
use mathlib.Core.Path.{refl}
use native.Mathlib.Numerals.{unary_clauses}
use Rattle.meaning.specs.Object.{version_before}
use Rattle.record.proofs.Chains.{chain_all_from}
use Rattle.record.proofs.Reading.{version_at}
use Rattle.record.proofs.versions_ascend.Goals as goal

pub returns : goal.returns
returns c =
    chain_all_from 1 c.args.count (c.args.count - 1) (λ i. version_before (version_at c.args.b.now (i - 1)) (version_at c.args.b.now i))
    (λ i. version_before (version_at c.args.b.now i) (version_at c.args.b.now (i + 1))) c.all.ensures.ran (cc) refl (λ x b q k. search (rules, tests))
    (λ i l. simp unary_clauses)
