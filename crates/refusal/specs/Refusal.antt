-- "When it says no: checks run in this order; the first that applies is returned." Assumes nothing.
use Rattle.std.specs.Prelude.{ℕ, Bool, true, false, Result, Ok, Err, ⊤}
use Rattle.refusal.specs.declared.Refusal.{Refusal}
use Rattle.refusal.specs.declared.Refusal.TheVariants.{WrongLength, ImageNotGood, WrongCheck, IllFormed, OutOfRange, NotPeer, ValueTooLong, ContextAhead, HistoryLost, DotClash, RowTooFar, TooManyVersions, TooManyPoints, OwnListFull, CountersUsedUp}

-- the numbers of the table
abbrev pub number : Refusal → ℕ
number WrongLength = 1
number ImageNotGood = 2
number WrongCheck = 3
number IllFormed = 4
number OutOfRange = 5
number NotPeer = 6
number ValueTooLong = 7
number ContextAhead = 8
number HistoryLost = 9
number DotClash = 10
number RowTooFar = 11
number TooManyVersions = 12
number TooManyPoints = 13
number OwnListFull = 14
number CountersUsedUp = 15

-- what a call answers: that it is accepted, or why it is refused
abbrev pub Verdict : Type 0
Verdict = Result ⊤ Refusal

-- "An accepted call returns 0"
abbrev pub answer_number : Verdict → ℕ
answer_number (Ok _) = 0
answer_number (Err r) = number r

-- a step is refused, or it is accepted and gives its result
pub data Answer (A : Type 0) : Type 0 where
  refused : Refusal → Answer A
  accepted : A → Answer A

module _ {A : Type 0} where
  -- a row of the table: the refusal where its test applies, and the rows after it where not
  infix 1 refuse◌when◌else◌
  unfoldable pub refuse◌when◌else◌ : Refusal → Bool → Answer A → Answer A
  refuse r when true else a = refused r
  refuse r when false else a = a

module _ {A B : Type 0} where
  -- one step after another: the first refusal is the answer
  infixl 1 ◌>>=◌
  abbrev pub ◌>>=◌ : Answer A → (A → Answer B) → Answer B
  refused r >>= f = refused r
  accepted a >>= f = f a

-- what is answered, without the result
abbrev pub verdict_of : {A : Type 0} → Answer A → Verdict
verdict_of (refused r) = Err r
verdict_of (accepted a) = Ok tt
