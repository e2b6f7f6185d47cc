-- What a reply is judged by before it is taken in: rows 3 to 6, 9 and 10 of the table. Assumes nothing.
use Rattle.std.specs.Prelude.{ℕ, ◌/◌, ◌<◌, ◌&&◌, ◌||◌, not, List, length}
use Rattle.numbers.specs.Words.{some?, all?}
use Rattle.numbers.specs.Numbers.{same_controller}
use Rattle.refusal.specs.declared.Refusal.TheVariants.{IllFormed, OutOfRange, NotPeer, HistoryLost, DotClash}
use Rattle.refusal.specs.Refusal.{Answer, accepted, refuse◌when◌else◌}
use Rattle.block.specs.Block.{block_at, Laid}
use Rattle.meaning.specs.State.{State}
use Rattle.meaning.specs.Message.{Reply, reply_formed}
use Rattle.meaning.specs.Exchange.{both_hold, other_peer, ahead_of_us, row_ahead_of_us, clashes}
use Rattle.layout.specs.Messages.{decode_ask, decode_reply, laid_out_reply}
use Rattle.layout.specs.Calls.{with_message}
use Rattle.record_edits.specs.Written.{lay_point, point_block}
use Rattle.arriving.specs.Sent.{points_in}

-- each block of a run is laid out as a point's, as those of a reply that is laid out are
abbrev pub AllLaid : List ℕ → Type 0
AllLaid run = (i : ℕ) → i < length run / 512 → Laid lay_point point_block (block_at run i)

-- the reply in a head and a run of point blocks
abbrev pub reply_in : List ℕ → List ℕ → Reply
reply_in head run = record { sender = (decode_ask head).sender; addressee = (decode_ask head).addressee; clock = (decode_ask head).clock; points = points_in run }

-- the first of rows 5 to 10 that applies to a well-formed reply, and a where none does
unfoldable pub peers_judged : {A : Type 0} → State → Reply → A → Answer A
peers_judged s r a =
    refuse OutOfRange when not (all? (λ p. both_hold s r.sender p.key) r.points) else
    refuse NotPeer when not (other_peer s r.sender && same_controller r.addressee s.own) else
    refuse HistoryLost when some? (λ p. ahead_of_us s p.object) r.points || row_ahead_of_us s r.clock else
    refuse DotClash when some? (λ p. some? (clashes s p.key) p.object.versions) r.points else
    accepted a

-- the first refusal that applies to the reply in these bytes, and a where none does
unfoldable pub reply_judged : {A : Type 0} → List ℕ → State → A → Answer A
reply_judged message s a =
    with_message message (laid_out_reply message)
    (refuse IllFormed when not (reply_formed s.table (decode_reply message)) else peers_judged s (decode_reply message) a)
