-- A step as data: the operation and its inputs, and the state after it. Assumes nothing.
use Rattle.std.specs.Prelude.{ℕ, List}
use Rattle.numbers.specs.declared.Controller.{Controller}
use Rattle.numbers.specs.declared.Key.{Key}
use Rattle.refusal.specs.Refusal.{Answer, accepted, ◌>>=◌}
use Rattle.meaning.specs.Context.{Context}
use Rattle.meaning.specs.State.{State}
use Rattle.meaning.specs.Message.{Outgoing, Ask, Reply}
use Rattle.meaning.specs.OwnSteps.{read, write, delete, strip_pass}
use Rattle.meaning.specs.Exchange.{take_in, ask, reply, repair}

-- the eight steps on a state that there is; the ninth, start, makes one
pub data Step : Type 0 where
  reads : Key → Step
  writes : Key → List ℕ → Context → Step
  deletes : Key → Context → Step
  takes_in : Outgoing → Step
  asks : Controller → Step
  replies : Ask → Step
  repairs : Reply → Step
  strips : Step

-- the state after a step, or why it is refused
unfoldable pub step : State → Step → Answer State
step s (reads k) = read s k >>= λ o. accepted s
step s (writes k v c) = write s k v c >>= λ d. accepted d.state
step s (deletes k c) = delete s k c >>= λ d. accepted d.state
step s (takes_in m) = take_in s m
step s (asks to) = ask s to >>= λ a. accepted s
step s (replies a) = reply s a >>= λ r. accepted s
step s (repairs r) = repair s r
step s strips = accepted (strip_pass s).state
