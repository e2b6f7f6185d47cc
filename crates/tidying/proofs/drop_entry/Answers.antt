-- `tidying::drop_entry` meets its contract. All know the dot, or not all do (Dropping). Assumes nothing.
use mathlib.Core.Path.{sym, ◌∙◌}
use borrow.Author.Tests.{not-true, not-false}
use Rattle.layout.specs.Image.{decode}
use Rattle.dots.specs.Lists.{list_block}
use Rattle.tidying.proofs.Dropping.{entry_stays, entry_goes}
use Rattle.tidying.proofs.drop_entry.Goals as goal

pub returns-then-not-entry_known : goal.returns-then-not-entry_known
returns-then-not-entry_known c = (entry_stays (decode c.args.image.now) (list_block c.args.list) c.args.i (sym c.entry_known.ensures ∙ not-true _ c.if-not-entry_known.true-raw), c.requires.1)

pub returns : goal.returns
returns c = (c.remove_dot.ensures.0 ∙ entry_goes (decode c.args.image.now) (list_block c.args.list) c.args.i (sym c.entry_known.ensures ∙ not-false _ c.if-not-entry_known.false-raw), c.remove_dot.ensures.1)
