-- `joining::merge_stored` meets its contract. Assumes nothing.
use borrow.Author.Rules.{rules}
use Rattle.layout.specs.Clocks.{decode_clock}
use Rattle.store.proofs.Resulting.{count_kept, stored_put}
use native.Mathlib.Omega.{arith}
use Rattle.joining.proofs.merge_stored.Goals as goal

pub strip_at-requires : goal.strip_at-requires
strip_at-requires c = (search rules, c.merge_at.ensures.1, omega (arith, c.requires.2, count_kept c.args.image.now _ c.args.i _ (omega (arith, c.requires.2, c.requires.3)) c.merge_at.ensures), c.requires.3, c.requires.9)

pub returns : goal.returns
returns c = stored_put c.args.image.now _ c.args.i _ (omega (arith, c.requires.2, c.requires.3)) c.merge_at.ensures (decode_clock c.args.rows.now) _ (c.strip_at.ensures.1, c.strip_at.ensures.2)
