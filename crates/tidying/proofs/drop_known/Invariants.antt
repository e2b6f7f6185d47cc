-- `tidying::drop_known` meets its contract. The invariant: the entries from the i-th on are tested (Dropping). Assumes nothing.
use Rattle.layout.specs.Image.{decode}
use Rattle.dots.specs.Lists.{list_block}
use Rattle.tidying.proofs.Dropping.{Dropped}
use Rattle.tidying.proofs.drop_known.Given as goal

abbrev pub invariant-loop-i : goal.invariant-loop-i
invariant-loop-i l = Dropped (decode l.initial.image) (list_block l.list) l.i l.image
