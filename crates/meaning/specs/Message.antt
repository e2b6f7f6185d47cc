-- The messages, and refusal 4: when a message is ill-formed. Assumes nothing.
-- What refusal 4 says of bytes (kind, format, position, padding, number of points against length) is said where the layout is;
-- here stands what it says of the numbers in them. "Holder" and "in no job" go by our own table.
use Rattle.std.specs.Prelude.{ℕ, Bool, true, false, ◌&&◌, ◌||◌, not, List, [], ◌∷◌, length, leb, ltb, eqb}
use Rattle.numbers.specs.declared.Controller.{Controller}
use Rattle.numbers.specs.declared.Key.{Key}
use Rattle.numbers.specs.Words.{every, all?, ascends?}
use Rattle.numbers.specs.Numbers.{last_counter, is_controller, is_counter, controllers}
use Rattle.numbers.specs.Dot.{same_dot}
use Rattle.numbers.specs.Key.{is_key, same_key}
use Rattle.row.specs.declared.Row.{Row}
use Rattle.row.specs.Row.{fits, sound}
use Rattle.meaning.specs.CrewTable.{CrewTable, holds, in_some_job}
use Rattle.meaning.specs.Clock.{Clock, row, every_row}
use Rattle.meaning.specs.Context.{Context, entry, covers, fill_context}
use Rattle.meaning.specs.Object.{Contents, value, deleted, Version, version_before, Object}
use Rattle.meaning.specs.State.{Stored, stored_before, Listed, dots_of}

-- an outgoing message (kind 4) and a reading (kind 7): a point's object, and who wrote it
pub record Outgoing : Type 0 where
  pub sender : Controller
  pub key : Key
  pub object : Object

-- an ask (kind 5): the sender's clock, to a peer
pub record Ask : Type 0 where
  pub sender : Controller
  pub addressee : Controller
  pub clock : Clock

-- a reply (kind 6 and its points): the sender's clock, and points as the sender has stored them
pub record Reply : Type 0 where
  pub sender : Controller
  pub addressee : Controller
  pub clock : Clock
  pub points : List Stored

-- ---- what is well-formed in a point, stored or sent

-- "values 0..24 bytes"
abbrev pub longest_value : ℕ
longest_value = 24

-- "at most 8 versions of a point"
abbrev pub most_versions : ℕ
most_versions = 8

unfoldable pub contents_formed : Contents → Bool
contents_formed (value v) = leb (length v) longest_value && all? (λ b. ltb b 256) v
contents_formed deleted = true

-- the dot names a holder of the job
unfoldable pub version_formed : CrewTable → ℕ → Version → Bool
version_formed t job v =
    every
    (is_controller v.dot.who
    ∷ holds t v.dot.who job
    ∷ is_counter v.dot.count
    ∷ contents_formed v.contents
    ∷ [])

-- "versions ascending by dot"
unfoldable pub versions_formed : CrewTable → ℕ → List Version → Bool
versions_formed t job vs = all? (version_formed t job) vs && ascends? version_before vs

-- eight counters, and only holders of the job are named
unfoldable pub context_formed : CrewTable → ℕ → Context → Bool
context_formed t job c =
    eqb (length c) 8
    && all? (λ n. leb (entry c n).0 last_counter && (holds t n job || eqb (entry c n).0 0)) controllers

unfoldable pub point_formed : CrewTable → Key → Object → Bool
point_formed t k o =
    every
    (is_key k
    ∷ leb (length o.versions) most_versions
    ∷ versions_formed t k.job o.versions
    ∷ context_formed t k.job o.context
    ∷ [])

-- the context covers each of the versions
unfoldable pub covers_all : Context → List Version → Bool
covers_all c vs = all? (λ v. covers c v.dot) vs

-- ---- what is well-formed in a clock that is sent

-- the row stands for no counter
unfoldable pub is_none : Row → Bool
is_none r = eqb r.base 0 && eqb r.bits 0

-- eight rows; "a row for a controller in no job, a sender's own row with bits" are ill-formed
unfoldable pub clock_formed : CrewTable → Controller → Clock → Bool
clock_formed t sender k =
    every
    (eqb (length k) 8
    ∷ every_row (λ r. fits r && sound r) k
    ∷ all? (λ n. in_some_job t n || is_none (row k n)) controllers
    ∷ eqb (row k sender).bits 0
    ∷ [])

-- ---- the messages

-- no dot stands in both lists for two points
unfoldable pub dots_agree : List Listed → List Listed → Bool
dots_agree ls ms = all? (λ l. all? (λ m. not (same_dot l.dot m.dot) || same_key l.key m.key) ms) ls

-- kind 4: each version is covered by the context as it stands
unfoldable pub outgoing_formed : CrewTable → Outgoing → Bool
outgoing_formed t m =
    every
    (is_controller m.sender
    ∷ point_formed t m.key m.object
    ∷ covers_all m.object.context m.object.versions
    ∷ [])

unfoldable pub ask_formed : CrewTable → Ask → Bool
ask_formed t a = every (is_controller a.sender ∷ is_controller a.addressee ∷ clock_formed t a.sender a.clock ∷ [])

-- "A reply is its head, then kind 3 blocks ascending by job and point, none twice"; no dot stands in two of them, and each
-- version is covered by its context once that is filled with the reply's rows
unfoldable pub reply_formed : CrewTable → Reply → Bool
reply_formed t r =
    every
    (is_controller r.sender
    ∷ is_controller r.addressee
    ∷ clock_formed t r.sender r.clock
    ∷ all? (λ p. point_formed t p.key p.object) r.points
    ∷ all? (λ p. covers_all (fill_context t p.key.job r.clock p.object.context) p.object.versions) r.points
    ∷ ascends? stored_before r.points
    ∷ dots_agree (dots_of r.points) (dots_of r.points)
    ∷ [])
