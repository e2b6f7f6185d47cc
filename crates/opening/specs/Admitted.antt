-- The rows of the table that a call on an image begins with: 1 and 2, and 5 of a point. Assumes nothing.
use Rattle.std.specs.Prelude.{Bool, true, not, List, ℕ}
use Rattle.numbers.specs.declared.Key.{Key}
use Rattle.refusal.specs.declared.Refusal.TheVariants.{OutOfRange}
use Rattle.refusal.specs.Refusal.{Answer, accepted, refuse◌when◌else◌}
use Rattle.meaning.specs.OwnSteps.{ours}
use Rattle.layout.specs.Calls.{on_image}

-- rows 1 and 2 alone. The lengths of the other buffers are right, or not
abbrev pub opened : List ℕ → Bool → Answer Bool
opened image lengths_right = on_image lengths_right image λ s. accepted true

-- and row 5
unfoldable pub admitted : List ℕ → Bool → Key → Answer Bool
admitted image lengths_right k =
    on_image lengths_right image λ s.
    refuse OutOfRange when not (ours s k) else
    accepted true
