-- `arriving::enter_row_at` meets its contract (Rows). Assumes nothing.
use mathlib.Core.Path.{◌≡◌, refl, ap, sym, subst, ◌∙◌}
use mathlib.Core.Bool.{true}
use Prim.Native.Nat.{◌-◌}
use Rattle.numbers.proofs.Tests.{never}
use Rattle.row.specs.declared.Row.{Row}
use Rattle.row.specs.Row.{sound}
use Rattle.block.specs.Fields.{put_at}
use Rattle.meaning.specs.Clock.{row}
use Rattle.layout.specs.Clocks.{decode_clock}
use Rattle.layout.specs.Image.{decode}
use Rattle.arriving.specs.Sent.{points_in, arriving_with}
use Rattle.arriving.proofs.Rows.{row_fits, row_now, row_far}
use Rattle.arriving.proofs.enter_row_at.Goals as goal

pub enter_row-requires : goal.enter_row-requires
enter_row-requires c = (c.requires.0, c.requires.1, c.requires.2, c.requires.3, c.requires.4, subst (λ (x : Row). sound x ≡ true) (sym c.row_at.ensures) c.requires.6)

pub returns-in-Some : goal.returns-in-Some
returns-in-Some c = (row_fits _ (row (decode_clock c.args.rows.now) c.args.n) (arriving_with (decode c.args.image.now) c.args.n (points_in c.args.points.now)) _ c.row_at.ensures c.enter_row.ensures c.in-Some.r c.in-Some.is, λ t. c.put_row.ensures.0 ∙ ap (put_at (decode_clock c.args.rows.now) (c.args.n.0 - 1)) (row_now _ (row (decode_clock c.args.rows.now) c.args.n) (arriving_with (decode c.args.image.now) c.args.n (points_in c.args.points.now)) _ c.row_at.ensures c.enter_row.ensures c.in-Some.r c.in-Some.is), c.put_row.ensures.1)

pub returns-in-None : goal.returns-in-None
returns-in-None c = let far = row_far _ (row (decode_clock c.args.rows.now) c.args.n) (arriving_with (decode c.args.image.now) c.args.n (points_in c.args.points.now)) _ c.row_at.ensures c.enter_row.ensures c.in-None.is in (far, λ t. absurd (never t refl), c.requires.5)
