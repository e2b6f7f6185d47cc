-- `checking::known_otherwise` meets its contract. Assumes nothing.
use Rattle.std.proofs.Common.{rules, tests}
use mathlib.Core.Path.{refl, ◌∙◌}
use Rattle.block.proofs.Numbers.{bytes_of}
use Rattle.layout.specs.PointBlock.{form_1, decode_point}
use Rattle.layout.specs.Image.{decode}
use Rattle.merging.proofs.Slots.{few_slots}
use Rattle.record.proofs.Chains.{chain_any}
use Rattle.record.proofs.Formed.{some_versions}
use Rattle.record.proofs.Reading.{version_at}
use Rattle.checking.specs.Points.{clashes_beside}
use Rattle.checking.proofs.known_otherwise.Goals as goal

pub returns : goal.returns
returns c =
    chain_any c.version_count.result (λ j. clashes_beside (decode c.args.image.now).points (decode_point form_1 c.args.p.now).object.versions (version_at c.args.b.now j))
    (clashes_beside (decode c.args.image.now).points (decode_point form_1 c.args.p.now).object.versions) (version_at c.args.b.now) c.any.ensures.ran (cc)
    (λ x b q k. search (rules, tests)) (λ i l. refl)
    ∙ some_versions c.args.b.now (clashes_beside (decode c.args.image.now).points (decode_point form_1 c.args.p.now).object.versions)
    (few_slots c.args.b.now (bytes_of c.args.b.now c.type_inv.b) c.requires.3 c.requires.4) c.version_count.ensures
