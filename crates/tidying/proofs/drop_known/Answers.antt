-- `tidying::drop_known` meets its contract. The invariant: the entries from the i-th on are tested (Dropping). Assumes nothing.
use borrow.Author.Rules.{rules}
use Prim.Native.Nat.{ℕ}
use mathlib.Core.Path.{refl, ap, ◌∙◌}
use lib.ListN.{length}
use Rattle.block.proofs.Numbers.{bytes_of}
use Rattle.layout.specs.Image.{decode}
use Rattle.dots.specs.Lists.{list_block}
use Rattle.image_edits.specs.Edits.{list_of}
use Rattle.tidying.proofs.Known.{list_count}
use Rattle.tidying.proofs.Dropping.{none_dropped, drop_inside, drop_crew, one_dropped, all_dropped}
use native.Mathlib.Omega.{arith}
use Rattle.tidying.proofs.drop_known.Goals as goal

pub loop-i-init : goal.loop-i-init
loop-i-init c = none_dropped (decode c.args.image.now) (list_block c.args.list) c.entry_count-count.result c.args.image.now c.requires.0 c.requires.1 refl (c.entry_count-count.ensures ∙ list_count c.args.image.now (bytes_of c.args.image.now (search rules)) c.requires.0 c.requires.1 c.block-at.result c.block-at.ensures.1 c.block-at.ensures.2 ∙ ap (λ (k : ℕ). length (list_of (decode c.args.image.now) k)) c.block-at.ensures.0)

pub drop_entry-requires : goal.drop_entry-requires
drop_entry-requires c = (c.loop-i.invariant.size, c.loop-i.invariant.canonical, drop_inside (decode c.args.image.now) (list_block c.args.list) c.loop-i.i c.loop-i.image c.loop-i.invariant (omega arith), drop_crew (decode c.args.image.now) (list_block c.args.list) c.loop-i.i c.loop-i.image c.loop-i.invariant (omega arith) c.requires.2)

pub loop-i-preserved : goal.loop-i-preserved
loop-i-preserved c = one_dropped (decode c.args.image.now) (list_block c.args.list) c.loop-i.i c.loop-i.image c.loop-i.invariant (omega arith) c.drop_entry.new.image (search rules) c.drop_entry.ensures

pub returns : goal.returns
returns c = all_dropped (decode c.args.image.now) (list_block c.args.list) c.loop-i.i c.loop-i.image c.loop-i.invariant (omega arith)
