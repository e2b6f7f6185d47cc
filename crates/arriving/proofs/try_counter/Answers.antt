-- `arriving::try_counter` meets its contract. Assumes nothing.
use Rattle.arriving.proofs.Trying.{says}
use Rattle.arriving.proofs.try_counter.Goals as goal
use Rattle.std.specs.Prelude.{Some, None}

pub returns-in-Some : goal.returns-in-Some
returns-in-Some c = says c.args.t c.args.c _ (Some c.in-Some.r) c.add.ensures c.in-Some.is

pub returns-in-None : goal.returns-in-None
returns-in-None c = says c.args.t c.args.c _ None c.add.ensures c.in-None.is
