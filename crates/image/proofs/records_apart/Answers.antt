-- `image::records_apart` meets its contract: the stored points are those of the run of blocks behind the lists (Loops). Assumes nothing.
use borrow.Author.Rules.{rules}
use mathlib.Core.Path.{◌∙◌}
use Rattle.image.proofs.Loops.{few_behind, all_behind}
use Rattle.image.proofs.records_apart.Goals as goal

pub points_apart-requires : goal.points_apart-requires
points_apart-requires c = (search rules, few_behind c.args.image.now c.args.count c.requires.2)

pub returns : goal.returns
returns c = c.points_apart.ensures ∙ all_behind c.args.image.now c.args.count
