-- Demand 3: what a reading shows; and what follows from it. Assumes nothing.
-- Each statement here is a theorem. Its proof has its name, in small letters: proofs/Shown (shown_exactly, due_is_exact), proofs/Again
-- (never_shown_again), proofs/Stripping, proofs/Repeated and proofs/RepeatedRepair (.. _shows_the_same), proofs/Alarms (no_false_alarm),
-- proofs/Story (story). proofs/Examples has runs that are computed, the story among them.
use Rattle.std.specs.Prelude.{◌≡◌, Bool, true, false, ◌&&◌, not, List, [], ◌⊎◌}
use Rattle.numbers.specs.declared.Controller.{Controller}
use Rattle.numbers.specs.declared.Key.{Key}
use Rattle.numbers.specs.Words.{keep, some?, map, place_all, ascends?}
use Rattle.numbers.specs.Key.{same_key}
use Rattle.refusal.specs.declared.Refusal.{Refusal}
use Rattle.refusal.specs.Refusal.{number, Answer, refused, accepted}
use Rattle.meaning.specs.CrewTable.{CrewTable, is_table, holds}
use Rattle.meaning.specs.Clock.{in_clock}
use Rattle.meaning.specs.Object.{has_value, Version, version_before, has_dot}
use Rattle.meaning.specs.State.{State}
use Rattle.meaning.specs.Message.{Outgoing, Ask, Reply}
use Rattle.meaning.specs.Write.{Write, covers_write}
use Rattle.meaning.specs.OwnSteps.{ours, read, strip_pass}
use Rattle.meaning.specs.Exchange.{take_in, reply, repair}
use Rattle.meaning.specs.Good.{good_state}
use Rattle.crew.specs.Moment.{◌∈◌, Sent, Moment, seeing, brings, reply_brings}
use Rattle.crew.specs.Run.{Later, Reached}

-- a write as a reading shows it: its dot and what it says
unfoldable pub version_of : Write → Version
version_of w = record { dot = w.dot; contents = w.contents }

-- some of these writes covers w. "One write covers another of the same point when the context given with it covers the other's dot."
unfoldable pub covered_in : List Write → Write → Bool
covered_in ws w = some? (λ u. covers_write u w) ws

-- it is of the point k, has a value, and none of these writes covers it
unfoldable pub stands : List Write → Key → Write → Bool
stands ws k w = same_key w.key k && has_value w.contents && not (covered_in ws w)

-- of the writes seen, those of the point k with a value that no seen write covers: the same dots and values, each once, ascending
unfoldable pub due : Key → List Write → List Version
due k seen = place_all version_before (map version_of (keep (stands seen k) seen)) []

-- ---- demand 3

-- the theorem: at every moment of every run, each controller that is asked for a point of its jobs shows exactly what is due
unfoldable pub ShownExactly : Type 0
ShownExactly =
    (t : CrewTable) → is_table t ≡ true → (M : Moment) → Reached t M
    → (n : Controller) → M.started n ≡ true → (k : Key) → ours (M.state n) k ≡ true
    → (o : Outgoing) × (read (M.state n) k ≡ accepted o) × (o.object.versions ≡ due k (M.seen n))

-- what is due, said without making a list: vs are the versions of exactly those writes, each once, ascending
pub record Exactly (seen : List Write) (k : Key) (vs : List Version) : Type 0 where
  pub each_stands : (v : Version) → v ∈ vs → (w : Write) × w ∈ seen × (stands seen k w ≡ true) × (version_of w ≡ v)
  pub none_missing : (w : Write) → w ∈ seen → stands seen k w ≡ true → version_of w ∈ vs
  pub ascending : ascends? version_before vs ≡ true

-- at every moment of every run the list says just that
unfoldable pub DueIsExact : Type 0
DueIsExact = (t : CrewTable) → is_table t ≡ true → (M : Moment) → Reached t M → (n : Controller) (k : Key) → Exactly (M.seen n) k (due k (M.seen n))

-- ---- what follows from it

-- what was once seen deleted, or written over, is never shown again: where a controller has seen a write u that covers w, it does not show
-- w at that moment or at any later one, whatever comes in between, also late copies of w
unfoldable pub NeverShownAgain : Type 0
NeverShownAgain =
    (t : CrewTable) → is_table t ≡ true → (M N : Moment) → Reached t M → Later t M N
    → (n : Controller) → N.started n ≡ true → (w u : Write) → w ∈ N.writes → u ∈ M.seen n → covers_write u w ≡ true
    → (k : Key) (o : Outgoing) → read (N.state n) k ≡ accepted o → has_dot o.object.versions w.dot ≡ false

-- stripping changes no reading, of any good state
unfoldable pub StrippingShowsTheSame : Type 0
StrippingShowsTheSame = (s : State) → good_state s ≡ true → (k : Key) → read (strip_pass s).state k ≡ read s k

-- a message taken in again, at any later time, changes no reading
unfoldable pub AgainShowsTheSame : Type 0
AgainShowsTheSame =
    (t : CrewTable) → is_table t ≡ true → (M N : Moment) → Reached t M → (n : Controller) → M.started n ≡ true
    → (m : Sent Outgoing) → m ∈ M.outgoings → (s : State) → take_in (M.state n) m.message ≡ accepted s → Later t (seeing M n s (brings m)) N
    → (x : State) → take_in (N.state n) m.message ≡ accepted x → (k : Key) → read x k ≡ read (N.state n) k

-- and neither does a reply repaired from again
unfoldable pub RepairAgainShowsTheSame : Type 0
RepairAgainShowsTheSame =
    (t : CrewTable) → is_table t ≡ true → (M N : Moment) → Reached t M → (n : Controller) → M.started n ≡ true
    → (r : Sent Reply) → r ∈ M.replies → (s : State) → repair (M.state n) r.message ≡ accepted s → Later t (seeing M n s (reply_brings r)) N
    → (x : State) → repair (N.state n) r.message ≡ accepted x → (k : Key) → read x k ≡ read (N.state n) k

-- an answer is not refusal 9, "our history is lost", and not refusal 10, a clash
abbrev pub NoAlarm : {A : Type 0} → Answer A → Type 0
NoAlarm a = (q : Refusal) → a ≡ refused q → (number q ≡ 9 → ⊥) × (number q ≡ 10 → ⊥)

-- no message of the crew is ever refused with 9 or 10
unfoldable pub NoFalseAlarm : Type 0
NoFalseAlarm =
    (t : CrewTable) → is_table t ≡ true → (M : Moment) → Reached t M → (n : Controller) → M.started n ≡ true
    → ((m : Sent Outgoing) → m ∈ M.outgoings → NoAlarm (take_in (M.state n) m.message))
    × ((a : Ask) → a ∈ M.asks → NoAlarm (reply (M.state n) a))
    × ((r : Sent Reply) → r ∈ M.replies → NoAlarm (repair (M.state n) r.message))

-- the foreman's story. A base w is written and carried to the truck's handheld n. Elsewhere it is deleted, or moved, by a write u. The truck comes
-- back and repairs from a reply that u's maker wrote after u. Whatever else the run does before, between and afterwards, the asking and
-- repairing the other way and late copies of any message in any order among it: from then on neither the truck, nor u's maker, nor anybody
-- who has seen u ever shows the base again
unfoldable pub Story : Type 0
Story =
    (t : CrewTable) → is_table t ≡ true → (M : Moment) → Reached t M
    → (w u : Write) → w ∈ M.writes → u ∈ M.writes → covers_write u w ≡ true
    → (r : Sent Reply) → r ∈ M.replies → r.message.sender ≡ u.dot.who → in_clock r.message.clock u.dot ≡ true
    → (n : Controller) → M.started n ≡ true → holds t n u.key.job ≡ true → (s : State) → repair (M.state n) r.message ≡ accepted s
    → (N : Moment) → Later t (seeing M n s (reply_brings r)) N
    → (m : Controller) → (m ≡ n) ⊎ ((m ≡ u.dot.who) ⊎ u ∈ N.seen m)
    → (k : Key) (o : Outgoing) → read (N.state m) k ≡ accepted o → has_dot o.object.versions w.dot ≡ false
