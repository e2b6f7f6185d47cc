-- `record::all_deleted` meets its contract. Assumes nothing.
use Rattle.std.proofs.Common.{rules, tests}
use Prim.Native.Nat.{◌+◌, ◌*◌}
use lib.Dec.{eqb}
use Rattle.block.specs.Fields.{field}
use Rattle.record.proofs.Chains.{chain_all}
use Rattle.record.proofs.all_deleted.Goals as goal

pub returns : goal.returns
returns c = chain_all c.args.count (λ i. eqb (field c.args.b.now (41 + 32 * i) 1) 255) c.all.ensures.ran (cc) (λ x b q k. search (rules, tests))
