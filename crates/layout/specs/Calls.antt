-- The nine calls on lent bytes: from the buffers and numbers before to the answer, the count and every buffer afterwards. Assumes nothing.
-- "Checks run in this order; the first that applies is returned. No lent byte changes."
use Rattle.std.specs.Prelude.{ℕ, ◌%◌, Bool, true, ◌&&◌, not, List, [], ◌++◌, length, drop, leb, eqb, Ok, Err}
use Rattle.numbers.specs.Words.{map}
use Rattle.numbers.specs.Numbers.{controller, counter}
use Rattle.numbers.specs.Key.{key}
use Rattle.refusal.specs.declared.Refusal.TheVariants.{WrongLength, ImageNotGood, WrongCheck, IllFormed}
use Rattle.refusal.specs.Refusal.{Answer, refused, accepted, refuse◌when◌else◌, ◌>>=◌, Verdict}
use Rattle.meaning.specs.State.{State}
use Rattle.meaning.specs.OwnSteps.{start, read, write, delete, strip_pass}
use Rattle.meaning.specs.Exchange.{take_in, ask, reply, repair}
use Rattle.layout.specs.Image.{image_length, encode, decode, good_image}
use Rattle.layout.specs.Messages.{checks_right, encode_outgoing, encode_reading, decode_outgoing, encode_ask, decode_ask, encode_reply, decode_reply, laid_out_outgoing, laid_out_ask, laid_out_reply}

-- what an accepted call leaves: the image, the buffer that it writes (empty where it has none), and its count
pub record Left : Type 0 where
  pub image : List ℕ
  pub out : List ℕ
  pub count : ℕ

-- the answer, and what there is afterwards
pub record After : Type 0 where
  pub verdict : Verdict
  pub image : List ℕ
  pub out : List ℕ
  pub count : ℕ

-- a refused call leaves all as it was, and counts 0
unfoldable pub afterwards : List ℕ → List ℕ → Answer Left → After
afterwards image out (refused r) = record { verdict = Err r; image = image; out = out; count = 0 }
afterwards image out (accepted l) = record { verdict = Ok tt; image = l.image; out = l.out; count = l.count }

-- "Kind 4, 5 and 7 buffers are exactly 512 bytes, contexts eight counters."
abbrev pub one_block : List ℕ → Bool
one_block b = eqb (length b) 512

-- "A buffer for writing a reply has at least 61,952 bytes"
abbrev pub reply_room : ℕ
reply_room = 61952

-- "A reply taken in by repair is 1 to 121 whole blocks."
unfoldable pub whole_reply : List ℕ → Bool
whole_reply b = eqb (length b % 512) 0 && leb 512 (length b) && leb (length b) reply_room

abbrev pub whole_image : List ℕ → Bool
whole_image img = eqb (length img) image_length

-- the table's rows 1 and 2, and then the step on what the image says
unfoldable pub on_image : {A : Type 0} → Bool → List ℕ → (State → Answer A) → Answer A
on_image lengths_right image step =
    refuse WrongLength when not (whole_image image && lengths_right) else
    refuse ImageNotGood when not (good_image image) else
    step (decode image)

-- the table's row 3 and the half of row 4 that is of bytes, and then the rest
unfoldable pub with_message : {A : Type 0} → List ℕ → Bool → Answer A → Answer A
with_message message laid_out rest =
    refuse WrongCheck when not (checks_right message) else
    refuse IllFormed when not laid_out else
    rest

-- ---- the calls

unfoldable pub start_call : List ℕ → ℕ → List ℕ → After
start_call image number table =
    afterwards image []
    (refuse WrongLength when not (whole_image image && eqb (length table) 8) else
    (start (controller number) table >>= λ s.
    accepted (record { image = encode s; out = []; count = 0 })))

unfoldable pub read_call : List ℕ → ℕ → ℕ → List ℕ → After
read_call image job point out =
    afterwards image out
    (on_image (one_block out) image λ s.
    read s (key job point) >>= λ o.
    accepted (record { image = image; out = encode_reading o; count = 0 }))

unfoldable pub write_call : List ℕ → ℕ → ℕ → List ℕ → List ℕ → List ℕ → After
write_call image job point value context out =
    afterwards image out
    (on_image (eqb (length context) 8 && one_block out) image λ s.
    write s (key job point) value (map counter context) >>= λ d.
    accepted (record { image = encode d.state; out = encode_outgoing d.message; count = 0 }))

unfoldable pub delete_call : List ℕ → ℕ → ℕ → List ℕ → List ℕ → After
delete_call image job point context out =
    afterwards image out
    (on_image (eqb (length context) 8 && one_block out) image λ s.
    delete s (key job point) (map counter context) >>= λ d.
    accepted (record { image = encode d.state; out = encode_outgoing d.message; count = 0 }))

unfoldable pub take_in_call : List ℕ → List ℕ → After
take_in_call image message =
    afterwards image []
    (on_image (one_block message) image λ s.
    with_message message (laid_out_outgoing message)
    (take_in s (decode_outgoing message) >>= λ after.
    accepted (record { image = encode after; out = []; count = 0 })))

unfoldable pub ask_call : List ℕ → ℕ → List ℕ → After
ask_call image to out =
    afterwards image out
    (on_image (one_block out) image λ s.
    ask s (controller to) >>= λ a.
    accepted (record { image = image; out = encode_ask a; count = 0 }))

-- "and the rest keeps its bytes"
unfoldable pub over : List ℕ → List ℕ → List ℕ
over written out = written ++ drop (length written) out

unfoldable pub reply_call : List ℕ → List ℕ → List ℕ → After
reply_call image message out =
    afterwards image out
    (on_image (one_block message && leb reply_room (length out)) image λ s.
    with_message message (laid_out_ask message)
    (reply s (decode_ask message) >>= λ r.
    accepted (record { image = image; out = over (encode_reply r.message) out; count = r.count })))

unfoldable pub repair_call : List ℕ → List ℕ → After
repair_call image message =
    afterwards image []
    (on_image (whole_reply message) image λ s.
    with_message message (laid_out_reply message)
    (repair s (decode_reply message) >>= λ after.
    accepted (record { image = encode after; out = []; count = 0 })))

unfoldable pub strip_pass_call : List ℕ → After
strip_pass_call image =
    afterwards image []
    (on_image true image λ s.
    accepted (record { image = encode (strip_pass s).state; out = []; count = (strip_pass s).count }))
