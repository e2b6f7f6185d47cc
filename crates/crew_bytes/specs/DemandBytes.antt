-- Demand 3 on bytes: what `read` writes into its buffer, at every moment of every run. Assumes nothing.
-- Each statement here is a theorem. Its proof has its name, in small letters: proofs/ShownBytes (shown_exactly_bytes, due_is_exact_bytes,
-- never_shown_again_bytes), proofs/OwnImages (own_images_good), proofs/AlarmsBytes (no_false_alarm_bytes). proofs/Followed has that every run of
-- bytes follows a run of states, and proofs/Realised that every run of states whose given contexts have eight entries is one of bytes.
use Rattle.std.specs.Prelude.{ℕ, ◌<◌, ◌≤◌, ◌≡◌, true, false, List, length, Ok, Err}
use Rattle.numbers.specs.declared.Controller.{Controller}
use Rattle.numbers.specs.declared.Key.{Key}
use Rattle.numbers.specs.Key.{key, is_key}
use Rattle.refusal.specs.declared.Refusal.{Refusal}
use Rattle.refusal.specs.Refusal.{number, answer_number}
use Rattle.meaning.specs.CrewTable.{CrewTable, is_table, holds}
use Rattle.meaning.specs.Object.{has_dot}
use Rattle.meaning.specs.Message.{Outgoing}
use Rattle.meaning.specs.Write.{Write, covers_write}
use Rattle.layout.specs.Image.{good_image}
use Rattle.layout.specs.Messages.{encode_reading, decode_outgoing}
use Rattle.layout.specs.Calls.{After, reply_room, read_call, take_in_call, reply_call, repair_call}
use Rattle.crew.specs.Moment.{◌∈◌, Sent}
use Rattle.crew.specs.Demand.{due, Exactly}
use Rattle.crew_bytes.specs.Bytes.{ByteMoment, CallOn, LaterByte, ReachedByte}

-- the theorem: at every moment of every run, each controller that is asked for a point of its jobs answers 0 and writes a reading whose
-- versions are exactly what is due; and that is what the bytes, read back, say
unfoldable pub ShownExactlyBytes : Type 0
ShownExactlyBytes =
    (t : CrewTable) → is_table t ≡ true → (B : ByteMoment) → ReachedByte t B → (n : Controller) → B.started n ≡ true
    → (job point : ℕ) → is_key (key job point) ≡ true → holds t n job ≡ true → (out : List ℕ) → length out ≡ 512
    → (o : Outgoing)
    × ((read_call (B.image n) job point out).verdict ≡ Ok tt)
    × ((read_call (B.image n) job point out).out ≡ encode_reading o)
    × (decode_outgoing (read_call (B.image n) job point out).out ≡ o)
    × (o.object.versions ≡ due (key job point) (B.seen n))

-- what is due, said without making a list: exactly the seen writes of the point with a value that no seen write covers
unfoldable pub DueIsExactBytes : Type 0
DueIsExactBytes =
    (t : CrewTable) → is_table t ≡ true → (B : ByteMoment) → ReachedByte t B → (n : Controller) (k : Key) → Exactly (B.seen n) k (due k (B.seen n))

-- what was once seen deleted, or written over, is never shown again: where a controller has seen a write u that covers w, nothing that `read`
-- writes at that moment or at any later one has w's dot
unfoldable pub NeverShownAgainBytes : Type 0
NeverShownAgainBytes =
    (t : CrewTable) → is_table t ≡ true → (B C : ByteMoment) → ReachedByte t B → LaterByte t B C
    → (n : Controller) → C.started n ≡ true → (w u : Write) → w ∈ C.writes → u ∈ B.seen n → covers_write u w ≡ true
    → (job point : ℕ) (out : List ℕ) → (read_call (C.image n) job point out).verdict ≡ Ok tt
    → has_dot (decode_outgoing (read_call (C.image n) job point out).out).object.versions w.dot ≡ false

-- "no own image [is refused] with 2": every image of a run is good, and no call on it is refused with 2, whatever else is given and lent to it
unfoldable pub OwnImagesGood : Type 0
OwnImagesGood =
    (t : CrewTable) → is_table t ≡ true → (B : ByteMoment) → ReachedByte t B → (n : Controller) → B.started n ≡ true
    → (good_image (B.image n) ≡ true) × ((a : After) → CallOn (B.image n) a → answer_number a.verdict ≡ 2 → ⊥)

-- refused, if at all, with a number above 4 that is not 9 and not 10: so not for its bytes, nor for a history lost, nor for a clash
abbrev pub NoAlarmBytes : After → Type 0
NoAlarmBytes a = (q : Refusal) → a.verdict ≡ Err q → (4 < number q) × (number q ≡ 9 → ⊥) × (number q ≡ 10 → ⊥)

-- no message that a call of the run wrote is refused otherwise by any controller, at any time
unfoldable pub NoFalseAlarmBytes : Type 0
NoFalseAlarmBytes =
    (t : CrewTable) → is_table t ≡ true → (B : ByteMoment) → ReachedByte t B → (n : Controller) → B.started n ≡ true
    → ((m : Sent (List ℕ)) → m ∈ B.outgoings → NoAlarmBytes (take_in_call (B.image n) m.message))
    × ((b : List ℕ) → b ∈ B.asks → (out : List ℕ) → reply_room ≤ length out → NoAlarmBytes (reply_call (B.image n) b out))
    × ((r : Sent (List ℕ)) → r ∈ B.replies → NoAlarmBytes (repair_call (B.image n) r.message))
