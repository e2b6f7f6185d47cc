-- Which refusals a step can give: those on states none that is for bytes, and refusal 4 only where a message is ill-formed. Assumes nothing.
use Prim.Native.Nat.{ℕ, ◌<◌}
use mathlib.Core.Path.{◌≡◌, refl}
use mathlib.Core.Bool.{Bool, true, false, not}
use mathlib.Core.List.{List, [], ◌∷◌}
use native.Mathlib.Omega.{arith}
use Rattle.numbers.specs.declared.Controller.{Controller}
use Rattle.numbers.specs.declared.Key.{Key}
use Rattle.numbers.specs.Words.{map}
use Rattle.numbers.specs.Key.{key}
use Rattle.refusal.specs.declared.Refusal.{Refusal}
use Rattle.refusal.specs.declared.Refusal.TheVariants.{IllFormed, OutOfRange, NotPeer, ValueTooLong, ContextAhead, HistoryLost, DotClash, RowTooFar, TooManyVersions, TooManyPoints, OwnListFull, CountersUsedUp}
use Rattle.refusal.specs.Refusal.{number, Answer, refused, accepted, refuse◌when◌else◌, ◌>>=◌}
use Rattle.meaning.specs.CrewTable.{CrewTable}
use Rattle.meaning.specs.Clock.{Clock, row, with_row}
use Rattle.meaning.specs.Context.{Context}
use Rattle.meaning.specs.Object.{Contents, value, deleted}
use Rattle.meaning.specs.State.{Stored, State}
use Rattle.meaning.specs.Message.{Outgoing, Ask, Reply, outgoing_formed, ask_formed, reply_formed}
use Rattle.meaning.specs.Settle.{settle}
use Rattle.meaning.specs.OwnSteps.{start, read, written, put_down, write, delete}
use Rattle.meaning.specs.Exchange.{take_in, ask, reply, mended, repair}

-- an answer whose refusal, if it is one, has a number of which Q holds
abbrev pub Says : (ℕ → Type 0) → {A : Type 0} → Answer A → Type 0
Says Q (refused r) = Q (number r)
Says Q (accepted x) = Unit {0}

module _ (Q : ℕ → Type 0) where
  -- a row of the table
  pub says_row : {A : Type 0} (r : Refusal) (t : Bool) (a : Answer A) → Q (number r) → Says Q a → Says Q (refuse r when t else a)
  unfolding refuse◌when◌else◌
  says_row r true a q rest = q
  says_row r false a q rest = rest

  -- a row whose test may be known not to apply
  pub says_not : {A : Type 0} (r : Refusal) (t : Bool) (a : Answer A) → (t ≡ false → Q (number r)) → Says Q a → Says Q (refuse r when not t else a)
  unfolding refuse◌when◌else◌
  says_not r true a q rest = rest
  says_not r false a q rest = q refl

  pub says_then : {A B : Type 0} (a : Answer A) (f : A → Answer B) → Says Q a → ((x : A) → Says Q (f x)) → Says Q (a >>= f)
  says_then (refused r) f q rest = q
  says_then (accepted x) f q rest = rest x

-- ---- the steps on states

module _ (Q : ℕ → Type 0) (above : (k : ℕ) → 4 < k → Q k) where
  -- a row below the fourth
  higher : {A : Type 0} (r : Refusal) (t : Bool) (a : Answer A) → 4 < number r → Says Q a → Says Q (refuse r when t else a)
  higher r t a h rest = says_row Q r t a (above (number r) h) rest

  says_settle : (s : State) (k : Clock) (rs : List Stored) → Says Q (settle s k rs)
  unfolding settle
  says_settle s k rs = higher RowTooFar _ _ (omega arith) (higher TooManyVersions _ _ (omega arith) (higher TooManyPoints _ _ (omega arith) tt))

  says_put_down : (s : State) (k : Key) (b : Contents) (c : Context) → Says Q (put_down s k b c)
  unfolding put_down
  says_put_down s k b c =
      higher ContextAhead _ _ (omega arith)
      (says_then Q (settle s s.clock (record { key = k; object = written s k b c } ∷ [])) _ (says_settle s s.clock _)
      (λ x. higher OwnListFull _ _ (omega arith) (higher CountersUsedUp _ _ (omega arith) tt)))

  pub says_start : (n : Controller) (t : CrewTable) → Says Q (start n t)
  unfolding start
  says_start n t = higher OutOfRange _ _ (omega arith) tt

  pub says_read : (s : State) (k : Key) → Says Q (read s k)
  unfolding read
  says_read s k = higher OutOfRange _ _ (omega arith) tt

  pub says_write : (s : State) (k : Key) (v : List ℕ) (c : Context) → Says Q (write s k v c)
  unfolding write
  says_write s k v c = higher OutOfRange _ _ (omega arith) (higher ValueTooLong _ _ (omega arith) (says_put_down s k (value v) c))

  pub says_delete : (s : State) (k : Key) (c : Context) → Says Q (delete s k c)
  unfolding delete
  says_delete s k c = higher OutOfRange _ _ (omega arith) (says_put_down s k deleted c)

  pub says_take_in : (s : State) (m : Outgoing) → (outgoing_formed s.table m ≡ false → Q 4) → Says Q (take_in s m)
  unfolding take_in
  says_take_in s m q =
      says_not Q IllFormed (outgoing_formed s.table m) _ q
      (higher OutOfRange _ _ (omega arith)
      (higher NotPeer _ _ (omega arith)
      (higher HistoryLost _ _ (omega arith)
      (higher DotClash _ _ (omega arith) (says_settle s s.clock _)))))

  pub says_ask : (s : State) (to : Controller) → Says Q (ask s to)
  unfolding ask
  says_ask s to = higher OutOfRange _ _ (omega arith) (higher NotPeer _ _ (omega arith) tt)

  pub says_reply : (s : State) (a : Ask) → (ask_formed s.table a ≡ false → Q 4) → Says Q (reply s a)
  unfolding reply
  says_reply s a q = says_not Q IllFormed (ask_formed s.table a) _ q (higher NotPeer _ _ (omega arith) (higher HistoryLost _ _ (omega arith) tt))

  pub says_repair : (s : State) (r : Reply) → (reply_formed s.table r ≡ false → Q 4) → Says Q (repair s r)
  unfolding repair
  says_repair s r q =
      says_not Q IllFormed (reply_formed s.table r) _ q
      (higher OutOfRange _ _ (omega arith)
      (higher NotPeer _ _ (omega arith)
      (higher HistoryLost _ _ (omega arith)
      (higher DotClash _ _ (omega arith)
      (says_then Q (settle s (with_row s.clock r.sender (row r.clock r.sender)) (map (mended s r) r.points)) _ (says_settle s _ _) (λ x. tt))))))
