-- What a message of one point is judged by before it is taken in: rows 3 to 6, 9 and 10 of the table. Assumes nothing.
use Rattle.std.specs.Prelude.{ℕ, not, List}
use Rattle.numbers.specs.Words.{some?}
use Rattle.refusal.specs.declared.Refusal.TheVariants.{IllFormed, OutOfRange, NotPeer, HistoryLost, DotClash}
use Rattle.refusal.specs.Refusal.{Answer, accepted, refuse◌when◌else◌}
use Rattle.meaning.specs.State.{State}
use Rattle.meaning.specs.Message.{Outgoing, outgoing_formed}
use Rattle.meaning.specs.Exchange.{both_hold, other_peer, ahead_of_us, clashes}
use Rattle.layout.specs.Messages.{decode_outgoing, laid_out_outgoing}
use Rattle.layout.specs.Calls.{with_message}

-- the first of rows 5 to 10 that applies to a well-formed message, and a where none does
unfoldable pub outgoing_judged : {A : Type 0} → State → Outgoing → A → Answer A
outgoing_judged s m a =
    refuse OutOfRange when not (both_hold s m.sender m.key) else
    refuse NotPeer when not (other_peer s m.sender) else
    refuse HistoryLost when ahead_of_us s m.object else
    refuse DotClash when some? (clashes s m.key) m.object.versions else
    accepted a

-- the first refusal that applies to the message in these bytes, and a where none does
unfoldable pub message_judged : {A : Type 0} → List ℕ → State → A → Answer A
message_judged message s a =
    with_message message (laid_out_outgoing message)
    (refuse IllFormed when not (outgoing_formed s.table (decode_outgoing message)) else
    outgoing_judged s (decode_outgoing message) a)
