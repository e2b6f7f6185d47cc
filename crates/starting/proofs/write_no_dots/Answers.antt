use mathlib.Core.Path.{refl}
use Rattle.starting.proofs.Fresh.{no_dots}
use native.Mathlib.Omega.{arith}
use Rattle.starting.proofs.write_no_dots.Goals as goal

pub returns : goal.returns
returns c = no_dots c.args.b.now _ _ _ _ _ c.args.position (omega arith) c.clear.ensures refl c.put_kind.ensures c.put_u16.ensures c.seal_block.ensures
