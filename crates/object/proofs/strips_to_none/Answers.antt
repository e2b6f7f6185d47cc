-- `object::strips_to_none` meets its contract. Assumes nothing.
use Rattle.std.proofs.Common.{rules, tests}
use mathlib.Core.Path.{refl, ◌∙◌}
use lib.Dec.{leb}
use Rattle.numbers.specs.Numbers.{controller}
use Rattle.meaning.specs.Clock.{row}
use Rattle.meaning.specs.Context.{entry}
use Rattle.layout.specs.PointBlock.{form_1, decode_point}
use Rattle.layout.specs.Clocks.{decode_clock}
use Rattle.record.proofs.Chains.{chain_all_from}
use Rattle.object.proofs.Going.{low, strips_empty}
use Rattle.object.proofs.strips_to_none.Goals as goal

pub returns : goal.returns
returns c =
    chain_all_from 1 9 8 (λ n. leb (entry (decode_point form_1 c.args.b.now).object.context (controller n)).0 (row (decode_clock c.args.rows.now) (controller n)).base)
    (low (decode_point form_1 c.args.b.now).object.context (decode_clock c.args.rows.now)) c.all.ensures.ran (cc) refl (λ x b q k. search (rules, tests)) (λ i l. refl)
    ∙ strips_empty (decode_point form_1 c.args.b.now).object.context (decode_clock c.args.rows.now)
