-- `tidying::tidy` meets its contract. The watermark, and then one list after the other (Tidied). Assumes nothing.
use borrow.Author.Rules.{rules}
use mathlib.Core.Path.{ap, ◌∙◌}
use Rattle.layout.specs.Clocks.{decode_clock}
use Rattle.layout.specs.Image.{decode}
use Rattle.replying.specs.Nearest.{all_crew}
use Rattle.tidying.specs.Tidied.{said_by}
use Rattle.tidying.proofs.Tidied.{own_list, foreign_list, all_tidied}
use Rattle.tidying.proofs.tidy.Goals as goal

pub drop_known-requires : goal.drop_known-requires
drop_known-requires c = (search rules, c.raise_marks.ensures.1, ap all_crew (own_list (decode c.args.image.now) (said_by c.args.sender (decode_clock c.args.rows.now)) c.raise_marks.new.image c.raise_marks.ensures) ∙ c.requires.6)

pub drop_known-requires-2 : goal.drop_known-requires-2
drop_known-requires-2 c = (search rules, c.drop_known.ensures.1, ap all_crew (foreign_list (decode c.args.image.now) (said_by c.args.sender (decode_clock c.args.rows.now)) c.raise_marks.new.image c.raise_marks.ensures c.drop_known.new.image c.drop_known.ensures) ∙ c.requires.7)

pub returns : goal.returns
returns c = all_tidied (decode c.args.image.now) (said_by c.args.sender (decode_clock c.args.rows.now)) c.raise_marks.new.image c.raise_marks.ensures c.drop_known.new.image c.drop_known.ensures c.drop_known-2.new.image c.drop_known-2.ensures
