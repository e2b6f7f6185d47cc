-- `mending::merge_point` meets its contract. Assumes nothing.
use borrow.Author.Rules.{rules}
use Rattle.store.proofs.Lent.{counted}
use Rattle.mending.proofs.merge_point.Goals as goal

pub merge_with-requires : goal.merge_with-requires
merge_with-requires c = (c.requires.0, c.requires.1, counted c.args.image.now _ c.stored_count-count.ensures, c.requires.2, c.requires.3, c.requires.4, c.requires.5, c.requires.6, search rules, search rules, c.requires.7, c.requires.8)
