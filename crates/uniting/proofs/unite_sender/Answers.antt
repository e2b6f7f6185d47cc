-- `uniting::unite_sender` meets its contract. One row is put anew (United). Assumes nothing.
use mathlib.Core.Path.{◌≡◌, sym, ◌∙◌, subst, ap₂}
use mathlib.Core.Bool.{true}
use Rattle.row.specs.declared.Row.{Row}
use Rattle.row.specs.Row.{sound, unite}
use Rattle.meaning.specs.Clock.{row}
use Rattle.layout.specs.Clocks.{decode_clock}
use Rattle.arriving.proofs.Rows.{decoded_eight}
use Rattle.uniting.proofs.United.{united_put}
use Rattle.uniting.proofs.unite_sender.Goals as goal

pub unite-requires : goal.unite-requires
unite-requires c = (subst (λ (x : Row). sound x ≡ true) (sym c.row_at-ours.ensures) c.requires.3, subst (λ (x : Row). sound x ≡ true) (sym c.row_at-theirs.ensures) c.requires.4)

pub returns : goal.returns
returns c = (c.put_row.ensures.0 ∙ united_put (decode_clock c.args.rows.now) (decoded_eight c.args.rows.now) c.args.sender c.requires.2 (row (decode_clock c.args.clock.now) c.args.sender) _ (c.unite.ensures ∙ ap₂ unite c.row_at-ours.ensures c.row_at-theirs.ensures), c.put_row.ensures.1)
