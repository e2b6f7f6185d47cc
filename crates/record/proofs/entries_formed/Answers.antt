-- `record::entries_formed` meets its contract. Assumes nothing.
use Rattle.std.proofs.Common.{rules, tests}
use mathlib.Core.Path.{refl}
use mathlib.Core.Bool.{◌||◌}
use lib.Dec.{eqb}
use Rattle.numbers.specs.Numbers.{controller}
use Rattle.meaning.specs.CrewTable.{holds}
use Rattle.meaning.specs.Context.{entry}
use Rattle.layout.specs.PointBlock.{form_1, decode_point}
use Rattle.record.proofs.Chains.{chain_all_from}
use Rattle.record.proofs.Formed.{named}
use Rattle.record.proofs.entries_formed.Goals as goal

pub returns : goal.returns
returns c =
    chain_all_from 1 9 8 (λ n. holds c.args.table.now (controller n) c.args.job || eqb (entry (decode_point form_1 c.args.b.now).object.context (controller n)).0 0)
    (named c.args.b.now c.args.table.now c.args.job) c.all.ensures.ran (cc) refl (λ x b q k. search (rules, tests)) (λ i l. refl)
