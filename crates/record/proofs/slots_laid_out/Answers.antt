-- `record::slots_laid_out` meets its contract. Assumes nothing.
use Rattle.std.proofs.Common.{rules, tests}
use Prim.Native.Nat.{◌+◌, ◌*◌}
use Rattle.block.specs.Fields.{cut}
use Rattle.record.proofs.Chains.{chain_all}
use Rattle.record.proofs.LaidOut.{slot_same}
use Rattle.record.proofs.slots_laid_out.Goals as goal

pub returns : goal.returns
returns c = chain_all c.args.count (λ i. slot_same (cut c.args.b.now (40 + 32 * i) 32)) c.all.ensures.ran (cc) (λ x b q k. search (rules, tests))
