-- `taking::take_in_checked` meets its contract (Ready). Assumes nothing.
use borrow.Author.Rules.{rules}
use mathlib.Core.Path.{ap, sym, ◌∙◌}
use borrow.Author.Tests.{not-false}
use Rattle.numbers.proofs.Tests.{not-true}
use Rattle.block.proofs.Numbers.{bytes_of}
use Rattle.row.specs.Row.{fits}
use Rattle.meaning.specs.Clock.{Clock, every_row}
use Rattle.layout.specs.Image.{decode}
use Rattle.layout.specs.Calls.{After}
use Rattle.store.proofs.Lent.{good_now, counted, rows_copied}
use Rattle.arriving.specs.Sent.{points_in, with_arrivals}
use Rattle.checking.proofs.Judging.{laid_message}
use Rattle.checking.proofs.Accepted.{judged_facts}
use Rattle.weighing.proofs.Judging.{few_sent}
use Rattle.taking.proofs.OfOne.{one_few}
use Rattle.taking.proofs.Ready.{row_too_far, all_sound}
use Rattle.taking.proofs.take_in_checked.Goals as goal

pub enter_rows-requires : goal.enter_rows-requires
enter_rows-requires c = (c.requires.0, c.requires.1, (counted c.args.image.now _ c.stored_count-count.ensures), one_few c.args.m.now c.requires.2 (few_sent c.args.m.now (bytes_of c.args.m.now c.type_inv.m) c.requires.2 (laid_message c.args.m.now (bytes_of c.args.m.now c.type_inv.m) c.requires.2 (judged_facts c.args.m.now (decode c.args.image.now) c.requires.3).laid_out)), (rows_copied c.args.image.now _ _ c.copy_in.ensures c.requires.0 (search rules)).0, all_sound (decode c.args.image.now) (good_now c.args.image.now c.requires.1) _ (rows_copied c.args.image.now _ _ c.copy_in.ensures c.requires.0 (search rules)).1)

pub returns-then-not-enter_rows : goal.returns-then-not-enter_rows
returns-then-not-enter_rows c = let e = row_too_far (decode c.args.image.now) (good_now c.args.image.now c.requires.1) c.args.m.now (bytes_of c.args.m.now c.type_inv.m) c.requires.2 c.requires.3 c.args.image.now (ap (λ (k : Clock). every_row fits (with_arrivals (decode c.args.image.now) k (points_in c.args.m.now))) (sym (rows_copied c.args.image.now _ _ c.copy_in.ensures c.requires.0 (search rules)).1) ∙ sym c.enter_rows.ensures.0 ∙ not-true _ c.if-not-enter_rows.true-raw) in (sym (ap (λ (a : After). a.verdict) e), sym (ap (λ (a : After). a.image) e))

pub take_in_entered-requires : goal.take_in_entered-requires
take_in_entered-requires c = let fits_all = not-false _ c.if-not-enter_rows.false-raw in let made = c.enter_rows.ensures.1 fits_all ∙ ap (λ (k : Clock). with_arrivals (decode c.args.image.now) k (points_in c.args.m.now)) (rows_copied c.args.image.now _ _ c.copy_in.ensures c.requires.0 (search rules)).1 in (c.requires.0, c.requires.1, (counted c.args.image.now _ c.stored_count-count.ensures), c.requires.2, c.requires.3, c.enter_rows.ensures.2, made, ap (every_row fits) (c.enter_rows.ensures.1 fits_all) ∙ sym c.enter_rows.ensures.0 ∙ fits_all)
