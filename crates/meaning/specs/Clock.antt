-- The clock: "a row per controller". Assumes nothing.
use Rattle.std.specs.Prelude.{ℕ, ◌-◌, Bool, List, get_or, if◌then◌else◌}
use Rattle.numbers.specs.declared.Controller.{Controller}
use Rattle.numbers.specs.declared.Dot.{Dot}
use Rattle.numbers.specs.Words.{all?}
use Rattle.numbers.specs.Numbers.{same_controller, each, controllers}
use Rattle.row.specs.declared.Row.{Row}
use Rattle.row.specs.Row.{none_seen, has, add, unite}

abbrev pub Clock : Type 0
Clock = List Row

abbrev pub row : Clock → Controller → Row
row k n = get_or k (n.0 - 1) none_seen

-- each of the eight rows passes
unfoldable pub every_row : (Row → Bool) → Clock → Bool
every_row f k = all? (λ n. f (row k n)) controllers

-- the dot is in the clock
unfoldable pub in_clock : Clock → Dot → Bool
in_clock k d = has (row k d.who) d.count

-- the dot enters the clock
unfoldable pub enter : Clock → Dot → Clock
enter k d = each (λ n. if same_controller n d.who then add (row k n) d.count else row k n)

-- another's row about controller m is united with ours
unfoldable pub with_row : Clock → Controller → Row → Clock
with_row k m r = each (λ n. if same_controller n m then unite (row k n) r else row k n)
