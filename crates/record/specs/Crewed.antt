-- Versions whose dots name controllers that there can be. Assumes nothing.
use Rattle.std.specs.Prelude.{Bool, List}
use Rattle.numbers.specs.Words.{all?}
use Rattle.numbers.specs.Numbers.{is_controller}
use Rattle.meaning.specs.Object.{Version}

unfoldable pub crewed : List Version → Bool
crewed vs = all? (λ v. is_controller v.dot.who) vs
