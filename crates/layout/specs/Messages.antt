-- The messages as bytes. Assumes nothing.
use Rattle.std.specs.Prelude.{ℕ, ◌+◌, ◌-◌, ◌/◌, Bool, List, ◌++◌, length}
use Rattle.numbers.specs.declared.Controller.{Controller}
use Rattle.numbers.specs.Words.{all?, same_list}
use Rattle.numbers.specs.Numbers.{controller}
use Rattle.block.specs.Fields.{le, cut, field, upto}
use Rattle.block.specs.Check.{sealed}
use Rattle.block.specs.Block.{make_block, block_at, blocks}
use Rattle.meaning.specs.Clock.{Clock}
use Rattle.meaning.specs.State.{Stored}
use Rattle.meaning.specs.Message.{Outgoing, Ask, Reply}
use Rattle.layout.specs.PointBlock.{form_1, encode_point, decode_point, decode_stored}
use Rattle.layout.specs.Clocks.{encode_clock, decode_clock}
use Rattle.layout.specs.Image.{encode_points}

-- 3: "a message block's check is wrong", in none of its blocks
unfoldable pub checks_right : List ℕ → Bool
checks_right message = all? sealed (blocks message)

-- ---- kind 4 and kind 7: "a message of one block has [position] 0"

unfoldable pub encode_outgoing : Outgoing → List ℕ
encode_outgoing m = encode_point form_1 4 0 m

unfoldable pub encode_reading : Outgoing → List ℕ
encode_reading m = encode_point form_1 7 0 m

unfoldable pub decode_outgoing : List ℕ → Outgoing
decode_outgoing b = decode_point form_1 b

-- ---- "Kind 5, ask; 6, reply head: 4 sender; 5 addressee; 6-7 number of points (0 in kind 5); 8-103 clock rows."

unfoldable pub encode_greeting : ℕ → Controller → Controller → ℕ → Clock → List ℕ
encode_greeting kind sender addressee points k = make_block kind 1 0 (le 1 sender.0 ++ (le 1 addressee.0 ++ (le 2 points ++ encode_clock k)))

unfoldable pub encode_ask : Ask → List ℕ
encode_ask a = encode_greeting 5 a.sender a.addressee 0 a.clock

unfoldable pub decode_ask : List ℕ → Ask
decode_ask b = record { sender = controller (field b 4 1); addressee = controller (field b 5 1); clock = decode_clock (cut b 8 96) }

-- "A reply is its head, then kind 3 blocks"; "a reply's head is 0 and its points follow from 1"
unfoldable pub encode_reply : Reply → List ℕ
encode_reply r = encode_greeting 6 r.sender r.addressee (length r.points) r.clock ++ encode_points 1 r.points

unfoldable pub decode_reply : List ℕ → Reply
decode_reply message =
    let a = decode_ask (block_at message 0) in
    record {
      sender = a.sender;
      addressee = a.addressee;
      clock = a.clock;
      points = upto (length message / 512 - 1) (λ i. decode_stored form_1 (block_at message (1 + i)));
    }

-- ---- 4, of bytes: "kind, format, position, .. padding, number of points against length". A message is laid out as it should be when it is what
-- its own contents encode to

unfoldable pub laid_out_outgoing : List ℕ → Bool
laid_out_outgoing b = same_list (encode_outgoing (decode_outgoing b)) b

unfoldable pub laid_out_ask : List ℕ → Bool
laid_out_ask b = same_list (encode_ask (decode_ask b)) b

unfoldable pub laid_out_reply : List ℕ → Bool
laid_out_reply b = same_list (encode_reply (decode_reply b)) b
