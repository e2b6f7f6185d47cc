-- A crew at one moment: every controller's state, what each has seen, and every message ever written. Assumes nothing.
-- Of the calls only the names stand here: what each does is document 01's, in crate meaning. Images and bytes do not come in.
use Rattle.std.specs.Prelude.{Bool, true, false, if◌then◌else◌}
use mathlib.Core.List.{List, [], ◌∷◌, ◌++◌, Memᴰ}
use Rattle.numbers.specs.declared.Controller.{Controller}
use Rattle.numbers.specs.declared.Key.{Key}
use Rattle.numbers.specs.Words.{keep, some?}
use Rattle.numbers.specs.Numbers.{same_controller}
use Rattle.numbers.specs.Key.{same_key}
use Rattle.meaning.specs.CrewTable.{CrewTable}
use Rattle.meaning.specs.Context.{Context}
use Rattle.meaning.specs.Object.{Contents}
use Rattle.meaning.specs.State.{State}
use Rattle.meaning.specs.Message.{Outgoing, Ask, Reply}
use Rattle.meaning.specs.Write.{Write}
use Rattle.meaning.specs.OwnSteps.{fresh, next_dot, Done}

-- a is one of the list l
infix 50 ◌∈◌
abbrev pub ◌∈◌ : {A : Type 0} → A → List A → Type 0
a ∈ l = Memᴰ a l

-- a message that a call of the run wrote, and the writes that its sender had seen when the message was written
pub record Sent (M : Type 0) : Type 0 where
  pub message : M
  pub seen : List Write

pub record Moment : Type 0 where
  -- the controllers that have been started, and their states. No call is made on one that has not; fresh stands for its state
  pub started : Controller → Bool
  pub state : Controller → State
  -- "seen": a controller has seen a write if it made it, or accepted a message carrying that point whose sender had seen it when the message
  -- was written. Each call below says what it adds
  pub seen : Controller → List Write
  -- the writes made, deletions among them
  pub writes : List Write
  -- every message that some call of the run wrote. None is ever taken out, and any of them may be taken in at any time: so a message may be
  -- lost, repeated, late and out of order. None gets in otherwise: so none is altered
  pub outgoings : List (Sent Outgoing)
  pub asks : List Ask
  pub replies : List (Sent Reply)

-- before the first call
unfoldable pub beginning : CrewTable → Moment
beginning t =
    record {
      started = λ n. false;
      state = λ n. fresh n t;
      seen = λ n. [];
      writes = [];
      outgoings = [];
      asks = [];
      replies = [];
    }

-- x for controller n, and for the others as it was
unfoldable pub for : {A : Type 0} → Controller → A → (Controller → A) → Controller → A
for n x f m = if same_controller m n then x else f m

-- controller n has been started: fresh, it has seen nothing
unfoldable pub starting : Moment → Controller → State → Moment
starting M n s =
    record {
      started = for n true M.started;
      state = for n s M.state;
      seen = for n [] M.seen;
      writes = M.writes;
      outgoings = M.outgoings;
      asks = M.asks;
      replies = M.replies;
    }

-- controller n has come to the state s, and has now seen these writes too
unfoldable pub seeing : Moment → Controller → State → List Write → Moment
seeing M n s ws =
    record {
      started = M.started;
      state = for n s M.state;
      seen = for n (ws ++ M.seen n) M.seen;
      writes = M.writes;
      outgoings = M.outgoings;
      asks = M.asks;
      replies = M.replies;
    }

-- the write that controller n makes: its dot is "the own number with own base + 1"
unfoldable pub made : State → Key → Contents → Context → Write
made s k b c = record { dot = next_dot s; key = k; contents = b; given = c }

-- controller n has made a write, and has seen it; its message has gone out
unfoldable pub writing : Moment → Controller → Write → Done → Moment
writing M n w d =
    record {
      started = M.started;
      state = for n d.state M.state;
      seen = for n (w ∷ M.seen n) M.seen;
      writes = w ∷ M.writes;
      outgoings = record { message = d.message; seen = w ∷ M.seen n } ∷ M.outgoings;
      asks = M.asks;
      replies = M.replies;
    }

-- an ask has gone out
unfoldable pub asking : Moment → Ask → Moment
asking M a =
    record {
      started = M.started;
      state = M.state;
      seen = M.seen;
      writes = M.writes;
      outgoings = M.outgoings;
      asks = a ∷ M.asks;
      replies = M.replies;
    }

-- a reply of controller n has gone out
unfoldable pub replying : Moment → Controller → Reply → Moment
replying M n r =
    record {
      started = M.started;
      state = M.state;
      seen = M.seen;
      writes = M.writes;
      outgoings = M.outgoings;
      asks = M.asks;
      replies = record { message = r; seen = M.seen n } ∷ M.replies;
    }

-- "carrying that point": an outgoing message carries its point. What it brings is what its sender had seen of that point when it was written
unfoldable pub brings : Sent Outgoing → List Write
brings m = keep (λ w. same_key w.key m.message.key) m.seen

-- and a reply carries each of its points, and no other
unfoldable pub carries : Reply → Key → Bool
carries r k = some? (λ p. same_key k p.key) r.points

unfoldable pub reply_brings : Sent Reply → List Write
reply_brings r = keep (λ w. carries r.message w.key) r.seen
