-- `uniting::new_rows` meets its contract: the rows that go in are the image's with the sender's, each sound (United). Assumes nothing.
use mathlib.Core.Path.{◌≡◌, ap, sym, ◌∙◌, subst}
use mathlib.Core.Bool.{true}
use Rattle.row.specs.Row.{fits, sound}
use Rattle.meaning.specs.Clock.{Clock, row, every_row, with_row}
use Rattle.layout.specs.Clocks.{decode_clock}
use Rattle.layout.specs.Image.{decode}
use Rattle.store.proofs.Lent.{good_now, rows_copied}
use Rattle.arriving.specs.Sent.{points_in, with_arrivals}
use Rattle.uniting.proofs.United.{united_sound}
use Rattle.uniting.proofs.new_rows.Goals as goal

pub unite_sender-requires : goal.unite_sender-requires
unite_sender-requires c = let a = c.args in
    let r = c.requires in
    let copied = rows_copied a.image.now _ _ c.copy_in.ensures r.0 r.7 in
    (copied.0, r.5, r.3, subst (λ (k : Clock). sound (row k a.sender) ≡ true) (sym copied.1) ((good_now a.image.now r.1).row_sound a.sender r.3).1, r.6)

pub enter_rows-requires : goal.enter_rows-requires
enter_rows-requires c = let a = c.args in
    let r = c.requires in
    (r.0, r.1, r.2, r.4, c.unite_sender.ensures.1, united_sound (decode a.image.now) (good_now a.image.now r.1) a.sender (row (decode_clock a.clock.now) a.sender) r.6 _ (c.unite_sender.ensures.0 ∙ ap (λ (k : Clock). with_row k a.sender (row (decode_clock a.clock.now) a.sender)) (rows_copied a.image.now _ _ c.copy_in.ensures r.0 r.7).1))

pub returns : goal.returns
returns c = let a = c.args in
    let r = c.requires in
    let united = c.unite_sender.ensures.0 ∙ ap (λ (k : Clock). with_row k a.sender (row (decode_clock a.clock.now) a.sender)) (rows_copied a.image.now _ _ c.copy_in.ensures r.0 r.7).1 in
    (c.enter_rows.ensures.0 ∙ ap (λ (k : Clock). every_row fits (with_arrivals (decode a.image.now) k (points_in a.points.now))) united, λ t. c.enter_rows.ensures.1 t ∙ ap (λ (k : Clock). with_arrivals (decode a.image.now) k (points_in a.points.now)) united, c.enter_rows.ensures.2)
