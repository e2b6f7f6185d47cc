-- `checking::version_above` meets its contract. Assumes nothing.
use Rattle.std.proofs.Common.{rules, tests}
use mathlib.Core.Path.{refl, ◌∙◌}
use native.Mathlib.Omega.{arith}
use Rattle.record.proofs.Chains.{chain_any}
use Rattle.record.proofs.Formed.{some_versions}
use Rattle.record.proofs.Reading.{version_at}
use Rattle.checking.specs.Points.{dot_above}
use Rattle.checking.proofs.version_above.Goals as goal

pub returns : goal.returns
returns c =
    chain_any c.version_count.result (λ i. dot_above c.args.own c.args.base (version_at c.args.b.now i).dot) (λ v. dot_above c.args.own c.args.base v.dot) (version_at c.args.b.now)
    c.any.ensures.ran (cc) (λ x b q k. search (rules, tests)) (λ i l. refl)
    ∙ some_versions c.args.b.now (λ v. dot_above c.args.own c.args.base v.dot) (omega arith) c.version_count.ensures
