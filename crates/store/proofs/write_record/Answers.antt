-- `store::write_record` meets its contract. The block copied and renumbered (Recorded). Assumes nothing.
use Prim.Native.Nat.{◌-◌}
use mathlib.Core.Path.{ap, refl, sym, ◌∙◌, subst}
use native.Mathlib.Omega.{arith}
use lib.ListN.{length}
use Rattle.block.specs.Block.{Laid}
use Rattle.block.proofs.Numbers.{bytes_of}
use Rattle.record_edits.specs.Written.{lay_point, point_block}
use Rattle.image_edits.proofs.Blocks.{image_decoded}
use Rattle.store.proofs.Recorded.{copied_part, record_written}
use Rattle.store.proofs.write_record.Goals as goal

pub overflow_add-at : goal.overflow_add-at
overflow_add-at c = omega (arith, c.requires.0, c.requires.2, (image_decoded c.args.image.now (bytes_of c.args.image.now c.type_inv.image) c.requires.0).few)

pub overflow_mul-at : goal.overflow_mul-at
overflow_mul-at c = omega (arith, c.requires.0, c.requires.2, (image_decoded c.args.image.now (bytes_of c.args.image.now c.type_inv.image) c.requires.0).few)

pub copy_in-requires : goal.copy_in-requires
copy_in-requires c = omega (arith, c.requires.0, c.requires.2, c.requires.3, (image_decoded c.args.image.now (bytes_of c.args.image.now c.slice_known-1.given) c.requires.0).few)

pub overflow_add-at-2 : goal.overflow_add-at-2
overflow_add-at-2 c = omega (arith, c.requires.0, c.requires.2, (image_decoded c.args.image.now (bytes_of c.args.image.now c.slice_known-1.given) c.requires.0).few)

pub slice_bounds-renumber-end : goal.slice_bounds-renumber-end
slice_bounds-renumber-end c = omega (arith, c.requires.0, c.requires.2, (image_decoded c.args.image.now (bytes_of c.args.image.now c.slice_known-1.given) c.requires.0).few)

pub overflow_add-i : goal.overflow_add-i
overflow_add-i c = omega (arith, c.requires.0, c.requires.2, (image_decoded c.args.image.now (bytes_of c.args.image.now c.slice_known-1.given) c.requires.0).few)

pub overflow_cast-i : goal.overflow_cast-i
overflow_cast-i c = omega (arith, c.requires.0, c.requires.2, (image_decoded c.args.image.now (bytes_of c.args.image.now c.slice_known-1.given) c.requires.0).few)

pub renumber-requires : goal.renumber-requires
renumber-requires c = (ap length (copied_part c.args.image.now (bytes_of c.args.image.now c.slice_known-1.given) c.requires.0 c.args.i c.requires.2 c.args.b.now (bytes_of c.args.b.now c.type_inv.b) c.requires.3 _ c.copy_in.ensures) ∙ c.requires.3, subst (Laid lay_point point_block) (sym (copied_part c.args.image.now (bytes_of c.args.image.now c.slice_known-1.given) c.requires.0 c.args.i c.requires.2 c.args.b.now (bytes_of c.args.b.now c.type_inv.b) c.requires.3 _ c.copy_in.ensures)) c.requires.4)

pub returns : goal.returns
returns c = record_written c.args.image.now (bytes_of c.args.image.now c.slice_known-1.given) c.requires.0 c.args.i c.requires.2 c.args.b.now (bytes_of c.args.b.now c.type_inv.b) c.requires.3 _ c.copy_in.ensures c.requires.1 _ _ c.renumber.ensures refl
