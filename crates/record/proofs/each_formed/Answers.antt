-- `record::each_formed` meets its contract. Assumes nothing.
use Rattle.std.proofs.Common.{rules, tests}
use Rattle.meaning.specs.Message.{version_formed}
use Rattle.record.proofs.Chains.{chain_all}
use Rattle.record.proofs.Reading.{version_at}
use Rattle.record.proofs.each_formed.Goals as goal

pub returns : goal.returns
returns c = chain_all c.args.count (λ i. version_formed c.args.table.now c.args.job (version_at c.args.b.now i)) c.all.ensures.ran (cc) (λ x b q k. search (rules, tests))
