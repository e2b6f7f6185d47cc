-- What an ask is judged by before it is replied to: rows 3, 4, 6 and 9 of the table. Assumes nothing.
use Rattle.std.specs.Prelude.{ℕ, ◌&&◌, not, List}
use Rattle.numbers.specs.Numbers.{same_controller}
use Rattle.refusal.specs.declared.Refusal.TheVariants.{IllFormed, NotPeer, HistoryLost}
use Rattle.refusal.specs.Refusal.{Answer, accepted, refuse◌when◌else◌}
use Rattle.meaning.specs.State.{State}
use Rattle.meaning.specs.Message.{ask_formed}
use Rattle.meaning.specs.Exchange.{other_peer, row_ahead_of_us}
use Rattle.layout.specs.Messages.{decode_ask, laid_out_ask}
use Rattle.layout.specs.Calls.{with_message}

-- the first refusal that applies to the ask in these bytes, and a where none does
unfoldable pub ask_judged : {A : Type 0} → List ℕ → State → A → Answer A
ask_judged message s a =
    with_message message (laid_out_ask message)
    (refuse IllFormed when not (ask_formed s.table (decode_ask message)) else
    refuse NotPeer when not (other_peer s (decode_ask message).sender && same_controller (decode_ask message).addressee s.own) else
    refuse HistoryLost when row_ahead_of_us s (decode_ask message).clock else
    accepted a)
