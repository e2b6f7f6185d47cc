-- A take in: what its result is judged by, and what it leaves. Assumes nothing.
use Rattle.std.specs.Prelude.{ℕ, not, List, [], length, ltb}
use Rattle.refusal.specs.declared.Refusal.TheVariants.{RowTooFar, TooManyVersions, TooManyPoints}
use Rattle.refusal.specs.Refusal.{Answer, accepted, refuse◌when◌else◌, ◌>>=◌}
use Rattle.row.specs.Row.{fits}
use Rattle.meaning.specs.Clock.{Clock, every_row}
use Rattle.meaning.specs.Object.{merge}
use Rattle.meaning.specs.State.{Stored, State, local}
use Rattle.meaning.specs.Message.{most_versions}
use Rattle.meaning.specs.Settle.{most_points, put}
use Rattle.meaning.specs.Exchange.{take_in}
use Rattle.layout.specs.Image.{encode, decode}
use Rattle.layout.specs.Messages.{decode_outgoing, laid_out_outgoing}
use Rattle.layout.specs.Calls.{Left, with_message}

-- the rows 11 to 13 of the table, "judged on the step's result", and a where none applies: what `settle` asks
unfoldable pub result_judged : {A : Type 0} → State → Clock → Stored → A → Answer A
result_judged s clock r a =
    refuse RowTooFar when not (every_row fits clock) else
    refuse TooManyVersions when ltb most_versions (length r.object.versions) else
    refuse TooManyPoints when ltb most_points (length (put clock s.points r)) else
    accepted a

-- what an accepted take in leaves
abbrev pub left_by : Answer State → Answer Left
left_by a = a >>= λ after. accepted (record { image = encode after; out = []; count = 0 })

-- the result of a take in: the message's object as it stands
abbrev pub taken : State → List ℕ → Stored
taken s m = record { key = (decode_outgoing m).key; object = merge (local s (decode_outgoing m).key) (decode_outgoing m).object }

-- what a take in does once the image is good
abbrev pub heard : List ℕ → List ℕ → Answer Left
heard image message = with_message message (laid_out_outgoing message) (left_by (take_in (decode image) (decode_outgoing message)))
