-- Take in, ask, reply, repair: what a controller does with another's message. Assumes nothing.
-- Refusals 1 to 3 are judged on bytes; the tests here begin with 4.
use Rattle.std.specs.Prelude.{ℕ, max, Bool, ◌&&◌, ◌||◌, not, List, [], ◌∷◌, length, leb, ltb, if◌then◌else◌}
use Rattle.numbers.specs.declared.Controller.{Controller}
use Rattle.numbers.specs.declared.Key.{Key}
use Rattle.numbers.specs.Words.{keep, some?, all?, place_all, map}
use Rattle.numbers.specs.Numbers.{is_controller, same_controller, each, controllers}
use Rattle.numbers.specs.Dot.{same_dot}
use Rattle.numbers.specs.Key.{same_key, key_before}
use Rattle.refusal.specs.declared.Refusal.TheVariants.{IllFormed, OutOfRange, NotPeer, HistoryLost, DotClash}
use Rattle.refusal.specs.Refusal.{Answer, accepted, refuse◌when◌else◌, ◌>>=◌}
use Rattle.row.specs.declared.Row.{Row}
use Rattle.row.specs.Row.{has, highest}
use Rattle.meaning.specs.CrewTable.{CrewTable, holds}
use Rattle.meaning.specs.Clock.{Clock, row, with_row}
use Rattle.meaning.specs.Context.{entry}
use Rattle.meaning.specs.Object.{same_contents, Version, Object, fill, merge}
use Rattle.meaning.specs.State.{Stored, Listed, Watermark, mark, State, peers, own_base, listed, look_up, local}
use Rattle.meaning.specs.Message.{Outgoing, Ask, Reply, outgoing_formed, ask_formed, reply_formed}
use Rattle.meaning.specs.Settle.{settle}

-- 5: "a job (argument's or message's) not held here or not by the sender"
unfoldable pub both_hold : State → Controller → Key → Bool
both_hold s sender k = holds s.table s.own k.job && holds s.table sender k.job

-- 6: "sender or asked party not another peer"
unfoldable pub other_peer : State → Controller → Bool
other_peer s m = not (same_controller m s.own) && peers s s.own m

-- 9: "message names, in a dot, context or clock row, an own counter above our base: our history is lost"
unfoldable pub ahead_of_us : State → Object → Bool
ahead_of_us s o =
    some? (λ v. same_controller v.dot.who s.own && ltb (own_base s) v.dot.count.0) o.versions
    || ltb (own_base s) (entry o.context s.own).0

unfoldable pub row_ahead_of_us : State → Clock → Bool
row_ahead_of_us s k = ltb (own_base s) (highest (row k s.own))

-- 10: "a version's dot in the message is stored here with other contents, or stored or listed here for another point"
unfoldable pub clashes : State → Key → Version → Bool
clashes s k v =
    some? (λ p. some? (λ w. same_dot v.dot w.dot && not (same_key k p.key && same_contents v.contents w.contents))
    p.object.versions) s.points
    || some? (λ l. same_dot v.dot l.dot && not (same_key k l.key)) (listed s)

-- "Take in: fill the local object, merge with the message's."
unfoldable pub take_in : State → Outgoing → Answer State
take_in s m =
    refuse IllFormed when not (outgoing_formed s.table m) else
    refuse OutOfRange when not (both_hold s m.sender m.key) else
    refuse NotPeer when not (other_peer s m.sender) else
    refuse HistoryLost when ahead_of_us s m.object else
    refuse DotClash when some? (clashes s m.key) m.object.versions else
    settle s s.clock (record { key = m.key; object = merge (local s m.key) m.object } ∷ [])

-- "Ask: a message with the own clock, to a peer."
unfoldable pub ask : State → Controller → Answer Ask
ask s to =
    refuse OutOfRange when not (is_controller to) else
    refuse NotPeer when not (other_peer s to) else
    accepted (record { sender = s.own; addressee = to; clock = s.clock })

-- "Reply: for each n that is a peer of both, each dot in our row n that the asker's row lacks is looked up in the lists. A dot that is
-- not listed is passed over. Each point found whose job the asker holds is sent once": the listed dots that the asker lacks
unfoldable pub lacking : State → Ask → List Listed
lacking s a =
    keep (λ l. peers s s.own l.dot.who
    && peers s a.sender l.dot.who
    && has (row s.clock l.dot.who) l.dot.count
    && not (has (row a.clock l.dot.who) l.dot.count)
    && holds s.table a.sender l.key.job)
    (listed s)

-- "as stored. A point with no stored record is sent with no version and an empty context."
unfoldable pub as_stored : State → Key → Stored
as_stored s k = record { key = k; object = look_up k s.points }

-- a reply, and the number of points sent. "Replying changes nothing in the image."
pub record Replied : Type 0 where
  pub message : Reply
  pub count : ℕ

unfoldable pub reply : State → Ask → Answer Replied
reply s a =
    let ps = map (as_stored s) (place_all key_before (map (λ l. l.key) (lacking s a)) []) in
    refuse IllFormed when not (ask_formed s.table a) else
    refuse NotPeer when not (other_peer s a.sender && same_controller a.addressee s.own) else
    refuse HistoryLost when row_ahead_of_us s a.clock else
    accepted
    (record {
      message = record { sender = s.own; addressee = a.sender; clock = s.clock; points = ps };
      count = length ps;
    })

-- "The watermark for the sender (rows of our peers) and our own (all rows) is raised."
unfoldable pub raised : State → Reply → Watermark
raised s r =
    each (λ m. each (λ n.
    if same_controller m r.sender && peers s s.own n then max (mark s.watermark m n) (row r.clock n).base
    else (if same_controller m s.own then max (mark s.watermark m n) (row s.clock n).base
    else mark s.watermark m n)))

-- "Then a listed dot (n,c) goes when the watermark of every peer m of n has n at c or more."
unfoldable pub known_to_all : State → Watermark → Listed → Bool
known_to_all s w l = all? (λ m. not (peers s l.dot.who m) || leb l.dot.count.0 (mark w m l.dot.who)) controllers

-- the state after a repair has stored its results: the watermark raised, and then the removal
unfoldable pub tidied : State → Reply → State
tidied s r =
    let w = raised s r in
    record {
      own = s.own;
      table = s.table;
      clock = s.clock;
      watermark = w;
      own_dots = keep (λ l. not (known_to_all s w l)) s.own_dots;
      foreign_dots = keep (λ l. not (known_to_all s w l)) s.foreign_dots;
      points = s.points;
    }

-- "Repair: the reply's objects are filled with the sender's clock and merged with the local ones. The sender's row about itself is
-- united with ours."
unfoldable pub mended : State → Reply → Stored → Stored
mended s r p =
    record { key = p.key; object = merge (local s p.key) (fill s.table p.key.job r.clock p.object) }

unfoldable pub repair : State → Reply → Answer State
repair s r =
    refuse IllFormed when not (reply_formed s.table r) else
    refuse OutOfRange when not (all? (λ p. both_hold s r.sender p.key) r.points) else
    refuse NotPeer when not (other_peer s r.sender && same_controller r.addressee s.own) else
    refuse HistoryLost when some? (λ p. ahead_of_us s p.object) r.points || row_ahead_of_us s r.clock else
    refuse DotClash when some? (λ p. some? (clashes s p.key) p.object.versions) r.points else
    (settle s (with_row s.clock r.sender (row r.clock r.sender)) (map (mended s r) r.points) >>= λ after.
    accepted (tidied after r))
