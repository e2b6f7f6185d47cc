-- `object::ahead` meets its contract. Assumes nothing.
use Rattle.std.proofs.Common.{rules, tests}
use Prim.Native.Nat.{◌+◌}
use Rattle.numbers.specs.Numbers.{controller}
use Rattle.layout.specs.PointBlock.{decode_context}
use Rattle.layout.specs.Clocks.{decode_clock}
use Rattle.record.proofs.Chains.{chain_any}
use Rattle.object.proofs.Given.{above, above_at, above_there}
use Rattle.object.proofs.ahead.Goals as goal

pub returns : goal.returns
returns c =
    chain_any 8 (above_at c.args.table.now c.args.job (decode_clock c.args.rows.now) c.args.stored.now c.args.context.now)
    (above c.args.table.now c.args.job (decode_clock c.args.rows.now) (decode_context c.args.stored.now) c.args.context.now) (λ i. controller (i + 1)) c.any.ensures.ran (cc)
    (λ x b q k. search (rules, tests)) (above_there c.args.table.now c.args.job (decode_clock c.args.rows.now) c.args.stored.now c.args.context.now)
