-- Messages are read back as they were written, and their checks are right. Assumes nothing.
use Prim.Native.Nat.{ℕ, suc, ◌+◌, ◌*◌, ◌-◌, ◌/◌, ◌≤◌, ◌<◌}
use mathlib.Core.Path.{◌≡◌, refl, ap, sym, ◌∙◌}
use mathlib.Core.Bool.{Bool, true, ◌&&◌}
use mathlib.Core.List.{List, [], ◌∷◌, ◌++◌, append-nil}
use native.Mathlib.Omega.{arith}
use lib.ListN.{length, length-append}
use Rattle.numbers.specs.declared.Controller.{Controller}
use Rattle.numbers.specs.Words.{all?}
use Rattle.numbers.specs.Numbers.{controller}
use Rattle.numbers.proofs.Tests.{and_both, and_one, here, there}
use Rattle.block.specs.Fields.{le, cut, field, upto}
use Rattle.block.specs.Check.{sealed}
use Rattle.block.specs.Block.{block_at, blocks}
use Rattle.block.proofs.Parts.{cut_past, cut_first, cut_whole}
use Rattle.block.proofs.Numbers.{le_length}
use Rattle.block.proofs.Arrays.{upto_same}
use Rattle.block.proofs.Same.{same_of}
use Rattle.block.proofs.Content.{make_block_length, make_block_sealed, cut_content, block_first, block_next}
use Rattle.meaning.specs.Clock.{Clock}
use Rattle.meaning.specs.State.{Stored}
use Rattle.meaning.specs.Message.{Outgoing, Ask, Reply}
use Rattle.layout.specs.PointBlock.{form_1, encode_point, encode_stored, decode_stored}
use Rattle.layout.specs.Clocks.{encode_clock, decode_clock}
use Rattle.layout.specs.Image.{encode_points}
use Rattle.layout.specs.Messages.{checks_right, encode_outgoing, encode_reading, decode_outgoing, encode_greeting, encode_ask, decode_ask, encode_reply, decode_reply, laid_out_outgoing, laid_out_ask, laid_out_reply}
use Rattle.layout.proofs.PointBack.{field_is, PointSized, point_block_length, point_block_sealed, point_back}
use Rattle.layout.proofs.ImageBack.{ClockSized, clock_length, clock_back, AllSized, stored_length, stored_sealed, points_length, point_block_at}

-- ---- the checks of blocks one after the other

-- the blocks of a run are those of its first block and of the rest
pub blocks_cons : (b rest : List ℕ) → length b ≡ 512 → blocks (b ++ rest) ≡ b ∷ blocks rest
unfolding blocks
blocks_cons b rest size =
    ap (λ (n : ℕ). upto n (block_at (b ++ rest))) count
    ∙ (λ i. block_first b rest size i ∷ upto_same (length rest / 512) (λ k. block_at (b ++ rest) (suc k)) (block_at rest) (λ k l. block_next b rest k size) i)
  where
    count : length (b ++ rest) / 512 ≡ suc (length rest / 512)
    count = ap (λ (n : ℕ). n / 512) (length-append b rest) ∙ omega arith

pub checks_cons : (b rest : List ℕ) → length b ≡ 512 → sealed b ≡ true → checks_right rest ≡ true → checks_right (b ++ rest) ≡ true
unfolding checks_right
checks_cons b rest size good more = ap (all? sealed) (blocks_cons b rest size) ∙ and_both (sealed b) (all? sealed (blocks rest)) good more

pub no_blocks : checks_right [] ≡ true
unfolding checks_right blocks
no_blocks = refl

-- the check of a message of one block
pub one_check : (b : List ℕ) → length b ≡ 512 → checks_right b ≡ sealed b
unfolding checks_right
one_check b size = ap (λ (l : List ℕ). checks_right l) (sym (append-nil b)) ∙ ap (all? sealed) (blocks_cons b [] size) ∙ ap (λ (t : Bool). sealed b && t) no_blocks ∙ and_one (sealed b)

pub one_block_checked : (b : List ℕ) → length b ≡ 512 → sealed b ≡ true → checks_right b ≡ true
one_block_checked b size good = one_check b size ∙ good

points_checked : (position : ℕ) (ps : List Stored) → AllSized ps → checks_right (encode_points position ps) ≡ true
unfolding encode_points
points_checked position [] S = no_blocks
points_checked position (p ∷ ps) S =
    checks_cons (encode_stored form_1 position p) (encode_points (position + 1) ps) (stored_length position p (S p (here refl))) (stored_sealed position p (S p (here refl)))
    (points_checked (position + 1) ps (λ q m. S q (there m)))

-- ---- outgoing

module _ (m : Outgoing) (S : PointSized form_1 m) where
  pub outgoing_length : length (encode_outgoing m) ≡ 512
  unfolding encode_outgoing
  outgoing_length = point_block_length form_1 (omega arith) 4 0 m S

  pub outgoing_back : decode_outgoing (encode_outgoing m) ≡ m
  unfolding decode_outgoing encode_outgoing
  outgoing_back = point_back form_1 (omega arith) 4 0 m S

  pub outgoing_checked : checks_right (encode_outgoing m) ≡ true
  unfolding encode_outgoing
  outgoing_checked = one_block_checked (encode_point form_1 4 0 m) (point_block_length form_1 (omega arith) 4 0 m S) (point_block_sealed form_1 (omega arith) 4 0 m S)

  pub outgoing_laid_out : laid_out_outgoing (encode_outgoing m) ≡ true
  unfolding laid_out_outgoing
  outgoing_laid_out = same_of (encode_outgoing (decode_outgoing (encode_outgoing m))) (encode_outgoing m) (ap encode_outgoing outgoing_back)

  pub reading_length : length (encode_reading m) ≡ 512
  unfolding encode_reading
  reading_length = point_block_length form_1 (omega arith) 7 0 m S

  pub reading_back : decode_outgoing (encode_reading m) ≡ m
  unfolding decode_outgoing encode_reading
  reading_back = point_back form_1 (omega arith) 7 0 m S

-- ---- ask, and a reply's head

module _ (kind : ℕ) (sender addressee : Controller) (points : ℕ) (k : Clock) (small : (sender.0 < 256) × (addressee.0 < 256)) (K : ClockSized k) where
  abbrev from_points : List ℕ
  from_points = le 2 points ++ encode_clock k

  abbrev greeting : List ℕ
  greeting = le 1 sender.0 ++ (le 1 addressee.0 ++ from_points)

  greeting_content_length : length greeting ≡ 100
  greeting_content_length = simp (length-append, le_length, clock_length k K.eight) (omega arith)

  greeting_short : length greeting ≤ 504
  greeting_short = omega (arith, greeting_content_length)

  pub greeting_length : length (encode_greeting kind sender addressee points k) ≡ 512
  unfolding encode_greeting
  greeting_length = make_block_length kind 1 0 greeting greeting_short

  pub greeting_sealed : sealed (encode_greeting kind sender addressee points k) ≡ true
  unfolding encode_greeting
  greeting_sealed = make_block_sealed kind 1 0 greeting greeting_short

  in_greeting : (o n : ℕ) → 4 ≤ o → o + n ≤ 104 → cut (encode_greeting kind sender addressee points k) o n ≡ cut greeting (o - 4) n
  unfolding encode_greeting
  in_greeting o n h l = cut_content kind 1 0 greeting greeting_short o n h (omega (arith, greeting_content_length))

  past_sender : (o n : ℕ) → 1 ≤ o → cut greeting o n ≡ cut (le 1 addressee.0 ++ from_points) (o - 1) n
  past_sender o n h = cut_past (le 1 sender.0) (le 1 addressee.0 ++ from_points) 1 o n (le_length 1 sender.0) h

  sender_is : field (encode_greeting kind sender addressee points k) 4 1 ≡ sender.0
  sender_is = field_is _ 4 1 sender.0 (in_greeting 4 1 (omega arith) (omega arith) ∙ cut_first (le 1 sender.0) (le 1 addressee.0 ++ from_points) 1 (le_length 1 sender.0)) small.0

  addressee_is : field (encode_greeting kind sender addressee points k) 5 1 ≡ addressee.0
  addressee_is =
      field_is _ 5 1 addressee.0
      (in_greeting 5 1 (omega arith) (omega arith) ∙ past_sender 1 1 (omega arith) ∙ cut_first (le 1 addressee.0) from_points 1 (le_length 1 addressee.0)) small.1

  clock_is : cut (encode_greeting kind sender addressee points k) 8 96 ≡ encode_clock k
  clock_is =
      in_greeting 8 96 (omega arith) (omega arith) ∙ past_sender 4 96 (omega arith)
      ∙ cut_past (le 1 addressee.0) from_points 1 3 96 (le_length 1 addressee.0) (omega arith)
      ∙ cut_past (le 2 points) (encode_clock k) 2 2 96 (le_length 2 points) (omega arith)
      ∙ cut_whole (encode_clock k) 96 (clock_length k K.eight)

  pub greeting_back : decode_ask (encode_greeting kind sender addressee points k) ≡ record { sender = sender; addressee = addressee; clock = k }
  unfolding decode_ask
  greeting_back = λ i. record { sender = controller (sender_is i); addressee = controller (addressee_is i); clock = (ap decode_clock clock_is ∙ clock_back k K) i }

pub record AskSized (a : Ask) : Type 0 where
  pub small : (a.sender.0 < 256) × (a.addressee.0 < 256)
  pub clock : ClockSized a.clock

module _ (a : Ask) (S : AskSized a) where
  pub ask_length : length (encode_ask a) ≡ 512
  unfolding encode_ask
  ask_length = greeting_length 5 a.sender a.addressee 0 a.clock S.small S.clock

  pub ask_back : decode_ask (encode_ask a) ≡ a
  unfolding encode_ask
  ask_back = greeting_back 5 a.sender a.addressee 0 a.clock S.small S.clock

  pub ask_checked : checks_right (encode_ask a) ≡ true
  unfolding encode_ask
  ask_checked =
      one_block_checked (encode_greeting 5 a.sender a.addressee 0 a.clock) (greeting_length 5 a.sender a.addressee 0 a.clock S.small S.clock)
      (greeting_sealed 5 a.sender a.addressee 0 a.clock S.small S.clock)

  pub ask_laid_out : laid_out_ask (encode_ask a) ≡ true
  unfolding laid_out_ask
  ask_laid_out = same_of (encode_ask (decode_ask (encode_ask a))) (encode_ask a) (ap encode_ask ask_back)

-- ---- a whole reply

pub record ReplySized (r : Reply) : Type 0 where
  pub small : (r.sender.0 < 256) × (r.addressee.0 < 256)
  pub clock : ClockSized r.clock
  pub points : AllSized r.points

module _ (r : Reply) (S : ReplySized r) where
  abbrev reply_head : List ℕ
  reply_head = encode_greeting 6 r.sender r.addressee (length r.points) r.clock

  reply_head_length : length reply_head ≡ 512
  reply_head_length = greeting_length 6 r.sender r.addressee (length r.points) r.clock S.small S.clock

  pub reply_length : length (encode_reply r) ≡ 512 * suc (length r.points)
  unfolding encode_reply
  reply_length = length-append reply_head (encode_points 1 r.points) ∙ omega (arith, reply_head_length, points_length 1 r.points S.points)

  head_back : decode_ask (block_at (encode_reply r) 0) ≡ record { sender = r.sender; addressee = r.addressee; clock = r.clock }
  unfolding encode_reply
  head_back =
      ap decode_ask (block_first reply_head (encode_points 1 r.points) reply_head_length)
      ∙ greeting_back 6 r.sender r.addressee (length r.points) r.clock S.small S.clock

  point_next : (i : ℕ) → block_at (encode_reply r) (suc i) ≡ block_at (encode_points 1 r.points) i
  unfolding encode_reply
  point_next i = block_next reply_head (encode_points 1 r.points) i reply_head_length

  points_read : upto (length (encode_reply r) / 512 - 1) (λ i. decode_stored form_1 (block_at (encode_reply r) (1 + i))) ≡ r.points
  points_read =
      ap (λ (n : ℕ). upto n (λ i. decode_stored form_1 (block_at (encode_reply r) (1 + i)))) count
      ∙ upto_same (length r.points) (λ i. decode_stored form_1 (block_at (encode_reply r) (1 + i))) (λ i. decode_stored form_1 (block_at (encode_points 1 r.points ++ []) i)) (λ i l. ap (decode_stored form_1) (one i))
      ∙ point_block_at 1 r.points [] S.points
    where
      count : length (encode_reply r) / 512 - 1 ≡ length r.points
      count = ap (λ (n : ℕ). n / 512 - 1) reply_length ∙ omega arith

      one : (i : ℕ) → block_at (encode_reply r) (1 + i) ≡ block_at (encode_points 1 r.points ++ []) i
      one i =
          ap (block_at (encode_reply r)) there ∙ point_next i
          ∙ ap (λ (l : List ℕ). block_at l i) (sym (append-nil (encode_points 1 r.points)))
        where
          there : 1 + i ≡ suc i
          there = omega arith

  pub reply_back : decode_reply (encode_reply r) ≡ r
  unfolding decode_reply
  reply_back = λ i. record { sender = (head_back i).sender; addressee = (head_back i).addressee; clock = (head_back i).clock; points = points_read i }

  pub reply_checked : checks_right (encode_reply r) ≡ true
  unfolding encode_reply
  reply_checked =
      checks_cons reply_head (encode_points 1 r.points) reply_head_length (greeting_sealed 6 r.sender r.addressee (length r.points) r.clock S.small S.clock) (points_checked 1 r.points S.points)

  pub reply_laid_out : laid_out_reply (encode_reply r) ≡ true
  unfolding laid_out_reply
  reply_laid_out = same_of (encode_reply (decode_reply (encode_reply r))) (encode_reply r) (ap encode_reply reply_back)
