-- A run of a crew: any sequence of the nine calls on its controllers. Assumes nothing.
use Rattle.std.specs.Prelude.{ℕ, ◌<◌, ◌≡◌, true, false, List, []}
use Rattle.numbers.specs.declared.Controller.{Controller}
use Rattle.numbers.specs.declared.Key.{Key}
use Rattle.refusal.specs.Refusal.{accepted}
use Rattle.meaning.specs.CrewTable.{CrewTable}
use Rattle.meaning.specs.Context.{Context}
use Rattle.meaning.specs.Object.{value, deleted}
use Rattle.meaning.specs.State.{State}
use Rattle.meaning.specs.Message.{Outgoing, Ask, Reply}
use Rattle.meaning.specs.OwnSteps.{start, read, Done, write, delete, strip_pass}
use Rattle.meaning.specs.Exchange.{take_in, ask, Replied, reply, repair}
use Rattle.crew.specs.Moment.{◌∈◌, Sent, Moment, beginning, starting, seeing, made, writing, asking, replying, brings, reply_brings}

-- "a value is bytes"
abbrev pub Bytes : List ℕ → Type 0
Bytes v = (b : ℕ) → b ∈ v → b < 256

-- one of the nine calls on a controller, and the moment after it
pub data Next (t : CrewTable) (M : Moment) : Moment → Type 0 where
  -- each number is started once, with the crew's table
  starts : (n : Controller) (s : State) → M.started n ≡ false → start n t ≡ accepted s → Next t M (starting M n s)
  -- any call that is refused: "No lent byte changes"
  refuses : Next t M M
  reads : (n : Controller) → M.started n ≡ true → (k : Key) (o : Outgoing) → read (M.state n) k ≡ accepted o → Next t M M
  writes : (n : Controller) → M.started n ≡ true → (k : Key) (v : List ℕ) (c : Context) (d : Done) → Bytes v → write (M.state n) k v c ≡ accepted d
      → Next t M (writing M n (made (M.state n) k (value v) c) d)
  deletes : (n : Controller) → M.started n ≡ true → (k : Key) (c : Context) (d : Done) → delete (M.state n) k c ≡ accepted d
      → Next t M (writing M n (made (M.state n) k deleted c) d)
  -- each message taken in is one that some call of the run wrote
  takes_in : (n : Controller) → M.started n ≡ true → (m : Sent Outgoing) → m ∈ M.outgoings → (s : State) → take_in (M.state n) m.message ≡ accepted s
      → Next t M (seeing M n s (brings m))
  asks : (n : Controller) → M.started n ≡ true → (to : Controller) (a : Ask) → ask (M.state n) to ≡ accepted a → Next t M (asking M a)
  replies : (n : Controller) → M.started n ≡ true → (a : Ask) → a ∈ M.asks → (r : Replied) → reply (M.state n) a ≡ accepted r
      → Next t M (replying M n r.message)
  repairs : (n : Controller) → M.started n ≡ true → (r : Sent Reply) → r ∈ M.replies → (s : State) → repair (M.state n) r.message ≡ accepted s
      → Next t M (seeing M n s (reply_brings r))
  strips : (n : Controller) → M.started n ≡ true → Next t M (seeing M n (strip_pass (M.state n)).state [])

infixl 5 ◌then◌
-- any number of calls, one after the other: from the moment M a run has come to a later one
pub data Later (t : CrewTable) (M : Moment) : Moment → Type 0 where
  now : Later t M M
  ◌then◌ : {N P : Moment} → Later t M N → Next t N P → Later t M P

-- the moments of the runs of a crew with the table t
abbrev pub Reached : CrewTable → Moment → Type 0
Reached t M = Later t (beginning t) M
