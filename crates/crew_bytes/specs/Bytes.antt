-- A crew on bytes: its controllers are images, its messages are bytes, and a run is any sequence of the nine calls on lent bytes. Assumes nothing.
-- What each call does is layout's Calls. What is seen, and which writes are made, is counted as in crate crew (Moment, Run), by what the bytes say.
use Rattle.std.specs.Prelude.{ℕ, ◌+◌, ◌*◌, ◌≡◌, Bool, true, false, List, [], ◌∷◌, ◌++◌, take, Ok, Err}
use Rattle.numbers.specs.declared.Controller.{Controller}
use Rattle.numbers.specs.Words.{map}
use Rattle.numbers.specs.Numbers.{counter}
use Rattle.numbers.specs.Key.{key}
use Rattle.refusal.specs.declared.Refusal.{Refusal}
use Rattle.meaning.specs.CrewTable.{CrewTable}
use Rattle.meaning.specs.Object.{value, deleted}
use Rattle.meaning.specs.Message.{Outgoing, Reply}
use Rattle.meaning.specs.Write.{Write}
use Rattle.layout.specs.Image.{decode}
use Rattle.layout.specs.Messages.{decode_outgoing, decode_reply}
use Rattle.layout.specs.Calls.{After, start_call, read_call, write_call, delete_call, take_in_call, ask_call, reply_call, repair_call, strip_pass_call}
use Rattle.crew.specs.Moment.{◌∈◌, Sent, for, made, brings, reply_brings}
use Rattle.crew.specs.Run.{Bytes}

pub record ByteMoment : Type 0 where
  -- the controllers that have been started, and their images. No call but start is made on one that has not
  pub started : Controller → Bool
  pub image : Controller → List ℕ
  -- the writes that each has seen, and those made
  pub seen : Controller → List Write
  pub writes : List Write
  -- every message that some call of the run wrote, and the writes that its sender had seen then. None is ever taken out, none gets in otherwise
  pub outgoings : List (Sent (List ℕ))
  pub asks : List (List ℕ)
  pub replies : List (Sent (List ℕ))

-- before the first call
unfoldable pub no_images : ByteMoment
no_images =
    record {
      started = λ n. false;
      image = λ n. [];
      seen = λ n. [];
      writes = [];
      outgoings = [];
      asks = [];
      replies = [];
    }

-- ---- what there is after a call on controller n that left `a`

-- its image is the one that the call left
unfoldable pub left_by : ByteMoment → Controller → After → ByteMoment
left_by B n a =
    record {
      started = B.started;
      image = for n a.image B.image;
      seen = B.seen;
      writes = B.writes;
      outgoings = B.outgoings;
      asks = B.asks;
      replies = B.replies;
    }

-- start: it has seen nothing
unfoldable pub started_by : ByteMoment → Controller → After → ByteMoment
started_by B n a =
    record {
      started = for n true B.started;
      image = for n a.image B.image;
      seen = for n [] B.seen;
      writes = B.writes;
      outgoings = B.outgoings;
      asks = B.asks;
      replies = B.replies;
    }

-- it has now seen these writes too
unfoldable pub seen_by : ByteMoment → Controller → After → List Write → ByteMoment
seen_by B n a ws =
    record {
      started = B.started;
      image = for n a.image B.image;
      seen = for n (ws ++ B.seen n) B.seen;
      writes = B.writes;
      outgoings = B.outgoings;
      asks = B.asks;
      replies = B.replies;
    }

-- it has made the write w, and has seen it; what the call wrote has gone out
unfoldable pub written_by : ByteMoment → Controller → After → Write → ByteMoment
written_by B n a w =
    record {
      started = B.started;
      image = for n a.image B.image;
      seen = for n (w ∷ B.seen n) B.seen;
      writes = w ∷ B.writes;
      outgoings = record { message = a.out; seen = w ∷ B.seen n } ∷ B.outgoings;
      asks = B.asks;
      replies = B.replies;
    }

-- the ask that the call wrote has gone out
unfoldable pub asked_by : ByteMoment → Controller → After → ByteMoment
asked_by B n a =
    record {
      started = B.started;
      image = for n a.image B.image;
      seen = B.seen;
      writes = B.writes;
      outgoings = B.outgoings;
      asks = a.out ∷ B.asks;
      replies = B.replies;
    }

-- the reply has gone out: of the lent buffer the head and as many blocks as the call counted
unfoldable pub replied_by : ByteMoment → Controller → After → ByteMoment
replied_by B n a =
    record {
      started = B.started;
      image = for n a.image B.image;
      seen = B.seen;
      writes = B.writes;
      outgoings = B.outgoings;
      asks = B.asks;
      replies = record { message = take (512 * (1 + a.count)) a.out; seen = B.seen n } ∷ B.replies;
    }

-- what the bytes of a message say
abbrev pub said : Sent (List ℕ) → Sent Outgoing
said m = record { message = decode_outgoing m.message; seen = m.seen }

abbrev pub reply_said : Sent (List ℕ) → Sent Reply
reply_said r = record { message = decode_reply r.message; seen = r.seen }

-- ---- runs

-- the call answered 0, and left and wrote what a says
abbrev pub Answers : After → After → Type 0
Answers call a = (call ≡ a) × (a.verdict ≡ Ok tt)

-- the nine calls on an image, whatever else is given and lent to them, and what there is afterwards
pub data CallOn (image : List ℕ) : After → Type 0 where
  call_start : (number : ℕ) (table : List ℕ) → CallOn image (start_call image number table)
  call_read : (job point : ℕ) (out : List ℕ) → CallOn image (read_call image job point out)
  call_write : (job point : ℕ) (v context out : List ℕ) → CallOn image (write_call image job point v context out)
  call_delete : (job point : ℕ) (context out : List ℕ) → CallOn image (delete_call image job point context out)
  call_take_in : (message : List ℕ) → CallOn image (take_in_call image message)
  call_ask : (to : ℕ) (out : List ℕ) → CallOn image (ask_call image to out)
  call_reply : (message out : List ℕ) → CallOn image (reply_call image message out)
  call_repair : (message : List ℕ) → CallOn image (repair_call image message)
  call_strip_pass : CallOn image (strip_pass_call image)

-- one of the nine calls on a controller's image, and the moment after it. The buffers lent (out, lent) are any
pub data NextByte (t : CrewTable) (B : ByteMoment) : ByteMoment → Type 0 where
  -- each number is started once, with the crew's table
  starts : (n : Controller) → B.started n ≡ false → (lent : List ℕ) (a : After) → Answers (start_call lent n.0 t) a → NextByte t B (started_by B n a)
  -- any call that is refused, whatever it was given, also bytes that no call of the run wrote
  refuses : (n : Controller) → B.started n ≡ true → (a : After) → CallOn (B.image n) a → (r : Refusal) → a.verdict ≡ Err r → NextByte t B (left_by B n a)
  reads : (n : Controller) → B.started n ≡ true → (job point : ℕ) (out : List ℕ) (a : After) → Answers (read_call (B.image n) job point out) a
      → NextByte t B (left_by B n a)
  writes : (n : Controller) → B.started n ≡ true → (job point : ℕ) (v context out : List ℕ) (a : After) → Bytes v
      → Answers (write_call (B.image n) job point v context out) a
      → NextByte t B (written_by B n a (made (decode (B.image n)) (key job point) (value v) (map counter context)))
  deletes : (n : Controller) → B.started n ≡ true → (job point : ℕ) (context out : List ℕ) (a : After)
      → Answers (delete_call (B.image n) job point context out) a
      → NextByte t B (written_by B n a (made (decode (B.image n)) (key job point) deleted (map counter context)))
  -- each message taken in is one that some call of the run wrote
  takes_in : (n : Controller) → B.started n ≡ true → (m : Sent (List ℕ)) → m ∈ B.outgoings → (a : After) → Answers (take_in_call (B.image n) m.message) a
      → NextByte t B (seen_by B n a (brings (said m)))
  asks : (n : Controller) → B.started n ≡ true → (to : ℕ) (out : List ℕ) (a : After) → Answers (ask_call (B.image n) to out) a
      → NextByte t B (asked_by B n a)
  replies : (n : Controller) → B.started n ≡ true → (m : List ℕ) → m ∈ B.asks → (out : List ℕ) (a : After) → Answers (reply_call (B.image n) m out) a
      → NextByte t B (replied_by B n a)
  repairs : (n : Controller) → B.started n ≡ true → (r : Sent (List ℕ)) → r ∈ B.replies → (a : After) → Answers (repair_call (B.image n) r.message) a
      → NextByte t B (seen_by B n a (reply_brings (reply_said r)))
  strips : (n : Controller) → B.started n ≡ true → (a : After) → Answers (strip_pass_call (B.image n)) a → NextByte t B (seen_by B n a [])

infixl 5 ◌then◌
-- any number of calls, one after the other
pub data LaterByte (t : CrewTable) (B : ByteMoment) : ByteMoment → Type 0 where
  now : LaterByte t B B
  ◌then◌ : {C D : ByteMoment} → LaterByte t B C → NextByte t C D → LaterByte t B D

-- the moments of the runs of a crew with the table t
abbrev pub ReachedByte : CrewTable → ByteMoment → Type 0
ReachedByte t B = LaterByte t no_images B
