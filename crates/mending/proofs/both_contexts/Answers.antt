-- `mending::both_contexts` meets its contract (OfPoint). Assumes nothing.
use mathlib.Core.Path.{ap, ◌∙◌}
use Rattle.numbers.specs.declared.Key.{Key}
use Rattle.meaning.specs.State.{local}
use Rattle.layout.specs.Clocks.{decode_clock}
use Rattle.layout.specs.Image.{decode}
use Rattle.mending.proofs.OfPoint.{there_filled}
use Rattle.mending.proofs.both_contexts.Goals as goal

pub returns : goal.returns
returns c = (c.local_context.ensures.1, c.local_context.ensures.0 ∙ ap (λ (z : Key). (local (decode c.args.image.now) z).context) c.key_of-k.ensures, c.filled_context.ensures.1, there_filled c.args.image.now c.requires.0 c.args.b.now c.key_of-k.result c.key_of-k.ensures (decode_clock c.args.clock.now) _ c.filled_context.ensures.0)
