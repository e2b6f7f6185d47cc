-- `greeting::write_greeting` meets its contract. Store by store (Stores). Assumes nothing.
use mathlib.Core.Path.{refl}
use Rattle.block.specs.Kind.{kind_number}
use Rattle.block.proofs.Numbers.{bytes_of}
use Rattle.greeting.proofs.Stores.{greeting_is}
use Rattle.greeting.proofs.write_greeting.Goals as goal

pub returns : goal.returns
returns c = greeting_is (kind_number c.args.kind) c.args.points c.args.sender c.args.addressee c.args.rows.now c.args.b.now _ _ _ _ _ _ _ _ c.requires.0 c.requires.1 (bytes_of c.args.rows.now c.type_inv.rows) c.clear.ensures refl c.put_kind.ensures c.put_u8.ensures c.put_u8-2.ensures c.put_u16.ensures c.copy_in.ensures c.seal_block.ensures
