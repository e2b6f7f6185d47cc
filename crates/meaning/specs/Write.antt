-- A write that was made, a deletion among them, and which other it covers. Assumes nothing.
use Rattle.std.specs.Prelude.{Bool, ◌&&◌}
use Rattle.numbers.specs.declared.Dot.{Dot}
use Rattle.numbers.specs.declared.Key.{Key}
use Rattle.numbers.specs.Key.{same_key}
use Rattle.meaning.specs.Context.{Context, covers}
use Rattle.meaning.specs.Object.{Contents}

-- its dot, its point, what it says, and the context that was given with it
pub record Write : Type 0 where
  pub dot : Dot
  pub key : Key
  pub contents : Contents
  pub given : Context

-- "One write covers another of the same point when the context given with it covers the other's dot."
unfoldable pub covers_write : Write → Write → Bool
covers_write w other = same_key w.key other.key && covers w.given other.dot
