-- `checking::new_otherwise` meets its contract. Assumes nothing.
use Rattle.std.proofs.Common.{rules, tests}
use mathlib.Core.Path.{refl, ◌∙◌}
use Rattle.layout.specs.Image.{decode}
use Rattle.record.proofs.Chains.{chain_any}
use Rattle.record.proofs.Formed.{some_versions}
use Rattle.record.proofs.Reading.{version_at}
use Rattle.checking.specs.Points.{stored_somewhere}
use Rattle.checking.proofs.new_otherwise.Goals as goal

pub returns : goal.returns
returns c =
    chain_any c.version_count-many.result (λ j. stored_somewhere (decode c.args.image.now).points (version_at c.args.b.now j).dot)
    (λ v. stored_somewhere (decode c.args.image.now).points v.dot) (version_at c.args.b.now) c.any.ensures.ran (cc) (λ x b q k. search (rules, tests)) (λ i l. refl)
    ∙ some_versions c.args.b.now (λ v. stored_somewhere (decode c.args.image.now).points v.dot) c.requires.4 c.version_count-many.ensures
