use mathlib.Core.Path.{refl}
use native.Mathlib.Omega.{arith}
use Rattle.block.proofs.Numbers.{bytes_of}
use Rattle.starting.proofs.Fresh.{fresh_head}
use Rattle.starting.proofs.write_fresh_head.Goals as goal

pub returns : goal.returns
returns c = fresh_head c.args.b.now _ _ _ _ _ _ c.args.table.now c.args.number (omega arith) (omega arith)
    (bytes_of c.args.table.now c.type_inv.table) c.clear.ensures refl c.put_kind.ensures c.put_u8.ensures
    c.copy_in.ensures c.seal_block.ensures
