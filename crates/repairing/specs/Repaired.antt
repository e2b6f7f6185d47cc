-- A repair of a good image: the clock that the results enter, the results, and what it leaves. Assumes nothing.
use Rattle.std.specs.Prelude.{ℕ, ◌/◌, ◌≤◌, ◌≡◌, true, List, length, Ok}
use Rattle.numbers.specs.Words.{map}
use Rattle.refusal.specs.Refusal.{Answer, accepted, ◌>>=◌, verdict_of}
use Rattle.meaning.specs.Clock.{Clock, row, with_row}
use Rattle.meaning.specs.State.{Stored, State}
use Rattle.meaning.specs.Message.{Reply, reply_formed}
use Rattle.meaning.specs.Settle.{settle, entered}
use Rattle.meaning.specs.Exchange.{mended, tidied, repair}
use Rattle.layout.specs.Image.{decode}
use Rattle.layout.specs.Messages.{decode_reply, laid_out_reply}
use Rattle.layout.specs.Calls.{Left, with_message}
use Rattle.arriving.specs.Sent.{Few}
use Rattle.hearing.specs.Heard.{AllLaid, reply_in, peers_judged}
use Rattle.taking.specs.Taken.{left_by}

-- "The sender's row about itself is united with ours."
abbrev pub united : State → Reply → Clock
united s q = with_row s.clock q.sender (row q.clock q.sender)

-- "the reply's objects are filled with the sender's clock and merged with the local ones"
abbrev pub outcome : State → Reply → List Stored
outcome s q = map (mended s q) q.points

-- the clock afterwards: "then all version dots of the results enter the clock, in a repair the sender's row is united too"
abbrev pub clock_after : State → Reply → Clock
clock_after s q = entered (united s q) (outcome s q)

-- a reply to which none of the refusals 4 to 10 applies
abbrev pub Heard : State → Reply → Type 0
Heard s q = (reply_formed s.table q ≡ true) × (verdict_of (peers_judged s q true) ≡ Ok tt)

-- and so lent: its head, and its points' blocks, at most 120
abbrev pub Lent : State → List ℕ → List ℕ → Type 0
Lent s head run = (length head ≡ 512) × Few run × AllLaid run × (length run / 512 ≤ 120) × Heard s (reply_in head run)

-- what is made of it: rows 11 to 13, the results stored, the watermark raised, and the removal
abbrev pub made_of : State → Reply → Answer State
made_of s q = settle s (united s q) (outcome s q) >>= λ after. accepted (tidied after q)

-- what a repair does once the image is good
abbrev pub repaired : List ℕ → List ℕ → Answer Left
repaired image message = with_message message (laid_out_reply message) (left_by (repair (decode image) (decode_reply message)))
