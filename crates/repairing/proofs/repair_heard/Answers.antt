-- `repairing::repair_heard` meets its contract (OfReply, Steps). Assumes nothing.
use borrow.Author.Rules.{rules}
use mathlib.Core.Path.{refl, ap, sym, subst, ◌∙◌}
use borrow.Author.Tests.{not-true, not-false}
use Rattle.numbers.specs.Numbers.{Crew}
use Rattle.row.specs.Row.{fits}
use Rattle.meaning.specs.Clock.{every_row}
use Rattle.layout.specs.Image.{decode}
use Rattle.layout.specs.Calls.{After}
use Rattle.store.proofs.Lent.{good_now, counted}
use Rattle.hearing.specs.Heard.{reply_in}
use Rattle.repairing.specs.Repaired.{clock_after}
use Rattle.repairing.proofs.OfReply.{sender_crew, sender_sound, rows_are}
use Rattle.repairing.proofs.Steps.{row_too_far}
use Rattle.repairing.proofs.repair_heard.Goals as goal

pub new_rows-requires : goal.new_rows-requires
new_rows-requires c = (c.requires.0, c.requires.1, (counted c.args.image.now _ c.stored_count-count.ensures), subst Crew (sym c.sender_of-sender.ensures) (sender_crew (decode c.args.image.now) (good_now c.args.image.now c.requires.1) (reply_in c.args.head.now c.args.points.now) c.requires.2.4), c.requires.2.1, search rules, sender_sound (decode c.args.image.now) (good_now c.args.image.now c.requires.1) c.args.head.now c.args.points.now c.requires.2.4 c.sender_of-sender.result c.sender_of-sender.ensures, search rules)

pub returns-then-not-new_rows : goal.returns-then-not-new_rows
returns-then-not-new_rows c = let e = row_too_far (decode c.args.image.now) (reply_in c.args.head.now c.args.points.now) (clock_after (decode c.args.image.now) (reply_in c.args.head.now c.args.points.now)) refl c.args.image.now (ap (every_row fits) (sym (rows_are (decode c.args.image.now) (good_now c.args.image.now c.requires.1) c.args.head.now c.args.points.now c.requires.2.4 c.sender_of-sender.result c.sender_of-sender.ensures)) ∙ sym c.new_rows.ensures.0 ∙ not-true _ c.if-not-new_rows.true-raw) in (sym (ap (λ (a : After). a.verdict) e), sym (ap (λ (a : After). a.image) e))

pub repair_entered-requires : goal.repair_entered-requires
repair_entered-requires c = (c.requires.0, c.requires.1, (counted c.args.image.now _ c.stored_count-count.ensures), c.requires.2, c.new_rows.ensures.2, c.new_rows.ensures.1 (not-false _ c.if-not-new_rows.false-raw) ∙ (rows_are (decode c.args.image.now) (good_now c.args.image.now c.requires.1) c.args.head.now c.args.points.now c.requires.2.4 c.sender_of-sender.result c.sender_of-sender.ensures), ap (every_row fits) (c.new_rows.ensures.1 (not-false _ c.if-not-new_rows.false-raw)) ∙ sym c.new_rows.ensures.0 ∙ (not-false _ c.if-not-new_rows.false-raw))
