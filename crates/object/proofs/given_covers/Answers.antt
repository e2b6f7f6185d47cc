-- `object::given_covers` meets its contract (Entries). Assumes nothing.
use Rattle.object.proofs.Entries.{given_covers_is}
use Rattle.object.proofs.given_covers.Goals as goal

pub returns : goal.returns
returns c = given_covers_is c.args.context.now c.args.d
