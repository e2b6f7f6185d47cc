-- `noting::list_dot` meets its contract. The dot is not found, and comes to its place (Placing, and dots's Placing). Assumes nothing.
use borrow.Author.Rules.{rules}
use mathlib.Core.Path.{ap, sym, ◌∙◌}
use Rattle.numbers.specs.Words.{ascends?}
use Rattle.block.proofs.Numbers.{bytes_of}
use Rattle.meaning.specs.State.{listed_before}
use Rattle.layout.specs.Image.{decode}
use Rattle.dots.proofs.Placing.{place_listed}
use Rattle.image_edits.specs.Edits.{with_list}
use Rattle.noting.proofs.Placing.{not_found, found_in}
use Rattle.noting.proofs.Rounds.{foreign_list, foreign_few}
use Rattle.noting.proofs.list_dot.Goals as goal
use Rattle.std.specs.Prelude.{Ok, Err}

pub find_dot-requires : goal.find_dot-requires
find_dot-requires c = (search rules, foreign_few c.args.image.now (bytes_of c.args.image.now c.slice_known-1.given) c.requires.0 c.requires.1, ap (ascends? listed_before) (foreign_list c.args.image.now (bytes_of c.args.image.now c.slice_known-1.given) c.requires.0 c.requires.1) ∙ c.requires.2)

pub insert_dot-requires : goal.insert_dot-requires
insert_dot-requires c = (c.requires.0, c.requires.1, (found_in _ (decode c.args.image.now).foreign_dots c.args.d (foreign_list c.args.image.now (bytes_of c.args.image.now c.slice_known-1.given) c.requires.0 c.requires.1) c.find_dot.result c.find_dot.ensures (Err c.in-Err.i) c.in-Err.is).0, c.requires.3)

pub returns-in-Ok : goal.returns-in-Ok
returns-in-Ok c = not_found c.args.d (decode c.args.image.now).foreign_dots c.in-Ok.field-0 c.requires.4 (found_in _ (decode c.args.image.now).foreign_dots c.args.d (foreign_list c.args.image.now (bytes_of c.args.image.now c.slice_known-1.given) c.requires.0 c.requires.1) c.find_dot.result c.find_dot.ensures (Ok c.in-Ok.field-0) c.in-Ok.is)

pub returns-in-Err : goal.returns-in-Err
returns-in-Err c = (c.insert_dot.ensures.0 ∙ ap (with_list (decode c.args.image.now) 2) (sym (place_listed (record { dot = c.args.d; key = c.args.k }) (decode c.args.image.now).foreign_dots c.in-Err.i (found_in _ (decode c.args.image.now).foreign_dots c.args.d (foreign_list c.args.image.now (bytes_of c.args.image.now c.slice_known-1.given) c.requires.0 c.requires.1) c.find_dot.result c.find_dot.ensures (Err c.in-Err.i) c.in-Err.is))), c.insert_dot.ensures.1)
