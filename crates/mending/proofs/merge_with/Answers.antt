-- `mending::merge_with` meets its contract (OfPoint). Assumes nothing.
use Prim.Native.Nat.{◌≤◌}
use mathlib.Core.Path.{ap, sym, ◌∙◌, subst}
use lib.ListN.{length}
use Rattle.meaning.specs.State.{Stored}
use Rattle.meaning.specs.Settle.{most_points, put}
use Rattle.layout.specs.Clocks.{decode_clock}
use Rattle.layout.specs.Image.{decode}
use Rattle.image_edits.specs.Edits.{with_points}
use Rattle.mending.proofs.OfPoint.{result_mended}
use Rattle.mending.proofs.merge_with.Goals as goal

pub put_merged-requires : goal.put_merged-requires
put_merged-requires c = let e = c.both_contexts.ensures in (
  c.requires.0,
  c.requires.1,
  c.requires.2,
  c.requires.3,
  c.requires.4,
  c.requires.5,
  e.0,
  e.2,
  c.requires.7,
  e.1,
  c.requires.10 c.both_contexts.new.here c.both_contexts.new.there e.0 e.1 e.2 e.3,
  subst (λ (r : Stored). length (put (decode_clock c.args.rows.now) (decode c.args.image.now).points r) ≤ most_points) (sym (result_mended (decode c.args.image.now) (decode_clock c.args.clock.now) c.args.b.now c.both_contexts.new.there c.both_contexts.ensures.3)) c.requires.11,
)

pub returns : goal.returns
returns c = (c.put_merged.ensures.0 ∙ ap (λ (r : Stored). with_points (decode c.args.image.now) (put (decode_clock c.args.rows.now) (decode c.args.image.now).points r)) (result_mended (decode c.args.image.now) (decode_clock c.args.clock.now) c.args.b.now c.both_contexts.new.there c.both_contexts.ensures.3), c.put_merged.ensures.1)
