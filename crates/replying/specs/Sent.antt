-- What is sent to an asker. Assumes nothing.
use Rattle.std.specs.Prelude.{List, []}
use Rattle.numbers.specs.declared.Key.{Key}
use Rattle.numbers.specs.Words.{place_all, map}
use Rattle.numbers.specs.Key.{key_before}
use Rattle.meaning.specs.State.{Stored, State}
use Rattle.meaning.specs.Message.{Ask, Reply}
use Rattle.meaning.specs.Exchange.{lacking, as_stored}

-- "ascending by job and point, none twice"
unfoldable pub sent_keys : State → Ask → List Key
sent_keys s a = place_all key_before (map (λ l. l.key) (lacking s a)) []

abbrev pub sent_points : State → Ask → List Stored
sent_points s a = map (as_stored s) (sent_keys s a)

abbrev pub reply_of : State → Ask → Reply
reply_of s a = record { sender = s.own; addressee = a.sender; clock = s.clock; points = sent_points s a }
