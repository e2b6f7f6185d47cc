-- `record::write_empty` meets its contract. Its stores, one by one (Stores). Assumes nothing.
use mathlib.Core.Path.{refl}
use Rattle.block.specs.Kind.{kind_number}
use Rattle.record_edits.proofs.Stores.{empty_made}
use Rattle.record_edits.proofs.write_empty.Goals as goal

pub returns : goal.returns
returns c = let a = c.args in empty_made a.b.now _ _ _ _ _ _ _ _ (kind_number a.kind) a.position a.sender a.k c.requires c.clear.ensures refl c.put_kind.ensures c.put_u16.ensures c.put_u8.ensures c.put_u16-2.ensures c.put_u8-2.ensures c.seal_block.ensures
