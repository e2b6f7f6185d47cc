-- "A dot is a controller number and a counter." Assumes nothing.
use Rattle.std.specs.Prelude.{ℕ, Bool}
use Rattle.numbers.specs.declared.Dot.{Dot}
use Rattle.numbers.specs.Words.{same_pair, pair_before}
use Rattle.numbers.specs.Numbers.{controller, counter}

abbrev pub dot : ℕ → ℕ → Dot
dot n c = record { who = controller n; count = counter c }

abbrev pub same_dot : Dot → Dot → Bool
same_dot d e = same_pair d.who.0 d.count.0 e.who.0 e.count.0

-- "ascending by controller and counter"
abbrev pub dot_before : Dot → Dot → Bool
dot_before d e = pair_before d.who.0 d.count.0 e.who.0 e.count.0
