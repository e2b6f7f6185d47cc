-- "An image is 67 blocks, 34,304 bytes: head, own dots, foreign dots, then points ascending by job and point, then blocks of zeros."
-- Assumes nothing.
use Rattle.std.specs.Prelude.{ℕ, ◌+◌, ◌*◌, ◌-◌, Bool, true, false, ◌&&◌, not, List, [], ◌∷◌, ◌++◌, length, take, eqb, if◌then◌else◌}
use Rattle.numbers.specs.declared.Controller.{Controller}
use Rattle.numbers.specs.Words.{map, concat_map, same_list}
use Rattle.numbers.specs.Numbers.{controller}
use Rattle.numbers.specs.Dot.{dot}
use Rattle.numbers.specs.Key.{key}
use Rattle.block.specs.Fields.{le, cut, field, zeros, upto}
use Rattle.block.specs.Block.{make_block, block_at}
use Rattle.meaning.specs.CrewTable.{CrewTable}
use Rattle.meaning.specs.Clock.{Clock}
use Rattle.meaning.specs.State.{Stored, Listed, Watermark, State}
use Rattle.meaning.specs.Settle.{most_points, most_listed}
use Rattle.meaning.specs.Good.{good_state}
use Rattle.layout.specs.PointBlock.{form_1, encode_stored, decode_stored}
use Rattle.layout.specs.Clocks.{encode_clock, decode_clock}

abbrev pub image_length : ℕ
image_length = 34304

-- ---- "Kind 1, image head: 4 own number; 8-15 table; 16-111 eight clock rows; 112-367 watermark, row m then column n, 4 each."

unfoldable pub encode_marks : Watermark → List ℕ
encode_marks w = concat_map (concat_map (le 4)) w

-- of 256 bytes
unfoldable pub decode_marks : List ℕ → Watermark
decode_marks b = upto 8 (λ m. upto 8 (λ n. field (cut b (32 * m) 32) (4 * n) 4))

-- what the head holds
pub record Head : Type 0 where
  pub own : Controller
  pub table : CrewTable
  pub clock : Clock
  pub watermark : Watermark

abbrev pub head_of : State → Head
head_of s = record { own = s.own; table = s.table; clock = s.clock; watermark = s.watermark }

unfoldable pub encode_head : Head → List ℕ
encode_head h =
    make_block 1 1 0
    (le 1 h.own.0
    ++ (le 3 0
    ++ (concat_map (le 1) h.table
    ++ (encode_clock h.clock
    ++ encode_marks h.watermark))))

unfoldable pub decode_head : List ℕ → Head
decode_head b =
    record {
      own = controller (field b 4 1);
      table = upto 8 (λ i. field b (8 + i) 1);
      clock = decode_clock (cut b 16 96);
      watermark = decode_marks (cut b 112 256);
    }

-- ---- "Kind 2, dots: 4-5 count; 8 on, entries of 8: controller, job, point (2), counter (4)"

unfoldable pub encode_entry : Listed → List ℕ
encode_entry l = le 1 l.dot.who.0 ++ (le 1 l.key.job ++ (le 2 l.key.point.0 ++ le 4 l.dot.count.0))

unfoldable pub decode_entry : List ℕ → Listed
decode_entry b = record { dot = dot (field b 0 1) (field b 4 4); key = key (field b 1 1) (field b 2 2) }

unfoldable pub encode_dots : ℕ → List Listed → List ℕ
encode_dots position ls = make_block 2 1 position (le 2 (length ls) ++ (le 2 0 ++ concat_map encode_entry ls))

unfoldable pub decode_dots : List ℕ → List Listed
decode_dots b = take (field b 4 2) (upto most_listed (λ i. decode_entry (cut b (8 + 8 * i) 8)))

-- ---- the points, and the image

-- points one after the other, the first at a position
unfoldable pub encode_points : ℕ → List Stored → List ℕ
encode_points position [] = []
encode_points position (p ∷ ps) = encode_stored form_1 position p ++ encode_points (position + 1) ps

-- "then blocks of zeros (all 512 bytes zero)"
unfoldable pub encode : State → List ℕ
encode s =
    encode_head (head_of s)
    ++ (encode_dots 1 s.own_dots
    ++ (encode_dots 2 s.foreign_dots
    ++ (encode_points 3 s.points
    ++ zeros (512 * (most_points - length s.points)))))

-- the blocks up to the first of kind 0
abbrev pub until_zero : List (List ℕ) → List (List ℕ)
until_zero [] = []
until_zero (b ∷ bs) = let rest = until_zero bs in if eqb (field b 0 1) 0 then [] else (b ∷ rest)

unfoldable pub decode : List ℕ → State
decode img =
    let head = decode_head (block_at img 0) in
    record {
      own = head.own;
      table = head.table;
      clock = head.clock;
      watermark = head.watermark;
      own_dots = decode_dots (block_at img 1);
      foreign_dots = decode_dots (block_at img 2);
      points = map (decode_stored form_1) (until_zero (upto most_points (λ i. block_at img (3 + i))));
    }

-- "It is good when all of the above holds": the bytes are those that the layout gives what they say, and that is good
unfoldable pub good_image : List ℕ → Bool
good_image img = eqb (length img) image_length && same_list (encode (decode img)) img && good_state (decode img)
