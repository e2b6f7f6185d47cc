-- `opening::named` meets its contract. Assumes nothing.
use mathlib.Core.Path.{refl}
use Rattle.opening.proofs.named.Goals as goal

pub returns : goal.returns
returns c = refl
