-- What the end of a repair makes of the watermark and of the lists, one mark and one dot at a time. Assumes nothing.
use Rattle.std.specs.Prelude.{ℕ, max, Bool, ◌&&◌, ◌||◌, not, List, [], get_or, leb, if◌then◌else◌}
use Rattle.numbers.specs.declared.Controller.{Controller}
use Rattle.numbers.specs.declared.Dot.{Dot}
use Rattle.numbers.specs.Words.{all?}
use Rattle.numbers.specs.Numbers.{same_controller, each, controllers}
use Rattle.block.specs.Fields.{remove_at}
use Rattle.meaning.specs.CrewTable.{CrewTable}
use Rattle.meaning.specs.Clock.{Clock, row}
use Rattle.meaning.specs.State.{Listed, Watermark, mark, State, peers}
use Rattle.meaning.specs.Message.{Reply}
use Rattle.meaning.specs.Exchange.{known_to_all}
use Rattle.head.specs.HeadParts.{peers_by}
use Rattle.dots.specs.Entries.{no_entry}

-- a reply of which the end of a repair uses the sender and the clock alone
abbrev pub said_by : Controller → Clock → Reply
said_by n k = record { sender = n; addressee = n; clock = k; points = [] }

-- another watermark
abbrev pub with_marks : State → Watermark → State
with_marks s w =
    record { own = s.own; table = s.table; clock = s.clock; watermark = w; own_dots = s.own_dots; foreign_dots = s.foreign_dots; points = s.points }

-- the mark of m for n raised to a base where it is lower
unfoldable pub raised_to : Watermark → Controller → Controller → ℕ → Watermark
raised_to w m n base =
    each (λ a. each (λ b. if same_controller a m && same_controller b n then max (mark w a b) base else mark w a b))

-- what `raised` makes of one mark
abbrev pub raised_mark : State → Reply → Controller → Controller → ℕ
raised_mark s r m n =
    if same_controller m r.sender && peers s s.own n then max (mark s.watermark m n) (row r.clock n).base
    else (if same_controller m s.own then max (mark s.watermark m n) (row s.clock n).base
    else mark s.watermark m n)

-- the marks for n raised, and no others
unfoldable pub raised_about : State → Reply → Controller → Watermark
raised_about s r n = each (λ a. each (λ b. if same_controller b n then raised_mark s r a b else mark s.watermark a b))

-- m knows the dot, or is no peer of its controller
abbrev pub known_to : CrewTable → Watermark → Dot → Controller → Bool
known_to t w d m = not (peers_by t d.who m) || leb d.count.0 (mark w m d.who)

-- every peer knows the dot
unfoldable pub dot_known : CrewTable → Watermark → Dot → Bool
dot_known t w d = all? (known_to t w d) controllers

-- a listed dot that all know, by the watermark as it stands
abbrev pub known_now : State → Listed → Bool
known_now s l = known_to_all s s.watermark l

-- a list without its i-th, where all know that
abbrev pub without_known : State → List Listed → ℕ → List Listed
without_known s ls i = if known_now s (get_or ls i no_entry) then remove_at ls i else ls
