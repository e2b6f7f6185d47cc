-- `replying::next_key` meets its contract. One list after the other (Lacking). Assumes nothing.
use borrow.Author.Rules.{rules}
use mathlib.Core.Path.{ap, sym, ◌∙◌, subst}
use Rattle.numbers.specs.Numbers.{Crew}
use Rattle.block.proofs.Numbers.{bytes_of}
use Rattle.layout.specs.Image.{decode}
use Rattle.store.proofs.Lent.{good_now, good_canonical}
use Rattle.replying.specs.Nearest.{all_crew}
use Rattle.store.proofs.ListsLent.{list_few, own_list, foreign_list}
use Rattle.replying.proofs.Lacking.{own_crewed, foreign_crewed, next_lent}
use native.Mathlib.Omega.{arith}
use Rattle.replying.proofs.next_key.Goals as goal

pub smallest_after-best-requires : goal.smallest_after-best-requires
smallest_after-best-requires c = (search rules, list_few c.args.image.now (bytes_of c.args.image.now c.type_inv.image) c.requires.0 (good_canonical c.args.image.now c.requires.1) 1 (omega arith) (omega arith), ap all_crew (own_list c.args.image.now) ∙ own_crewed (decode c.args.image.now) (good_now c.args.image.now c.requires.1), search rules, subst Crew (sym c.sender_of-asker.ensures) c.requires.3, search rules)

pub smallest_after-requires : goal.smallest_after-requires
smallest_after-requires c = (search rules, list_few c.args.image.now (bytes_of c.args.image.now c.type_inv.image) c.requires.0 (good_canonical c.args.image.now c.requires.1) 2 (omega arith) (omega arith), ap all_crew (foreign_list c.args.image.now) ∙ foreign_crewed (decode c.args.image.now) (good_now c.args.image.now c.requires.1), search rules, subst Crew (sym c.sender_of-asker.ensures) c.requires.3, search rules)

pub returns : goal.returns
returns c = next_lent c.args.image.now c.requires.0 c.requires.1 c.args.message.now c.sender_of-asker.result c.sender_of-asker.ensures c.args.last c.smallest_after-best.result c.smallest_after.result c.smallest_after-best.ensures c.smallest_after.ensures
