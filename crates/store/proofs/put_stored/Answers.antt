-- `store::put_stored` meets its contract. Written, then stripped or gone (Resulting). Assumes nothing.
use Prim.Native.Nat.{◌-◌}
use mathlib.Core.Path.{◌∙◌}
use native.Mathlib.Omega.{arith}
use Rattle.layout.specs.Clocks.{decode_clock}
use Rattle.layout.specs.PointBlock.{form_1, decode_stored}
use Rattle.store.proofs.Resulting.{count_kept, stored_put}
use Rattle.store.proofs.put_stored.Goals as goal

pub strip_at-requires : goal.strip_at-requires
strip_at-requires c = (omega (arith, c.requires.0), c.write_record.ensures.1, c.requires.2 ∙ count_kept c.args.image.now _ c.args.i (decode_stored form_1 c.args.b.now) (omega (arith, c.requires.2, c.requires.3)) c.write_record.ensures, c.requires.3, c.requires.6)

pub returns : goal.returns
returns c = stored_put c.args.image.now _ c.args.i (decode_stored form_1 c.args.b.now) (omega (arith, c.requires.2, c.requires.3)) c.write_record.ensures (decode_clock c.args.rows.now) _ (c.strip_at.ensures.1, c.strip_at.ensures.2)
