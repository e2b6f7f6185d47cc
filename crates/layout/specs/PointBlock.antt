-- "Kind 3, stored point; 4, outgoing; 7, reading." Over the form, which says how long a value may be. Assumes nothing.
use Rattle.std.specs.Prelude.{ℕ, ◌+◌, ◌*◌, Bool, true, false, List, [], ◌++◌, length, take, eqb, if◌then◌else◌}
use Rattle.numbers.specs.declared.Controller.{Controller}
use Rattle.numbers.specs.declared.Key.{Key}
use Rattle.numbers.specs.Words.{concat_map}
use Rattle.numbers.specs.Numbers.{controller, counter}
use Rattle.numbers.specs.Dot.{dot}
use Rattle.numbers.specs.Key.{key}
use Rattle.block.specs.Fields.{le, cut, field, pad, upto}
use Rattle.block.specs.Block.{make_block}
use Rattle.meaning.specs.Context.{Context}
use Rattle.meaning.specs.Object.{Contents, value, deleted, Version, Object}
use Rattle.meaning.specs.State.{Stored}
use Rattle.meaning.specs.Message.{Outgoing, longest_value}

-- the room for a value, and the format byte that says so
pub record Form : Type 0 where
  pub room : ℕ
  pub format : ℕ

-- "value padded with zeros to 24", "format (1)"
abbrev pub form_1 : Form
form_1 = record { room = longest_value; format = 1 }

-- ---- a version's slot: "controller, length (255 = deleted), two zero bytes, counter (4), value padded with zeros to 24"

abbrev pub slot_size : Form → ℕ
slot_size f = 8 + f.room

abbrev pub said_length : Contents → ℕ
said_length (value v) = length v
said_length deleted = 255

abbrev pub said_bytes : Contents → List ℕ
said_bytes (value v) = v
said_bytes deleted = []

unfoldable pub encode_slot : Form → Version → List ℕ
encode_slot f v =
    le 1 v.dot.who.0
    ++ (le 1 (said_length v.contents)
    ++ (le 2 0
    ++ (le 4 v.dot.count.0
    ++ pad f.room (said_bytes v.contents))))

unfoldable pub decode_contents : ℕ → List ℕ → Contents
decode_contents n bytes = if eqb n 255 then deleted else value (take n bytes)

unfoldable pub decode_slot : Form → List ℕ → Version
decode_slot f b = record { dot = dot (field b 0 1) (field b 4 4); contents = decode_contents (field b 1 1) (cut b 8 f.room) }

-- ---- a context: "8-39 context"

unfoldable pub encode_context : Context → List ℕ
encode_context c = concat_map (λ e. le 4 e.0) c

unfoldable pub decode_context : List ℕ → Context
decode_context b = upto 8 (λ i. counter (field b (4 * i) 4))

-- ---- the block: "4 job; 5 version count; 6-7 point; 8-39 context; from 40, versions of 32 bytes ascending by dot; 296 sender"

-- where the versions' slots end and the sender stands: 296 in form 1
abbrev pub sender_at : Form → ℕ
sender_at f = 40 + slot_size f * 8

unfoldable pub encode_point : Form → ℕ → ℕ → Outgoing → List ℕ
encode_point f kind position m =
    make_block kind f.format position
    (le 1 m.key.job
    ++ (le 1 (length m.object.versions)
    ++ (le 2 m.key.point.0
    ++ (encode_context m.object.context
    ++ (pad (slot_size f * 8) (concat_map (encode_slot f) m.object.versions)
    ++ le 1 m.sender.0)))))

unfoldable pub decode_point : Form → List ℕ → Outgoing
decode_point f b =
    record {
      sender = controller (field b (sender_at f) 1);
      key = key (field b 4 1) (field b 6 2);
      object =
          record {
            versions = take (field b 5 1) (upto 8 (λ i. decode_slot f (cut b (40 + slot_size f * i) (slot_size f))));
            context = decode_context (cut b 8 32);
          };
    }

-- a stored point has sender 0
abbrev pub unsent : Stored → Outgoing
unsent p = record { sender = controller 0; key = p.key; object = p.object }

unfoldable pub encode_stored : Form → ℕ → Stored → List ℕ
encode_stored f position p = encode_point f 3 position (unsent p)

unfoldable pub decode_stored : Form → List ℕ → Stored
decode_stored f b = let m = decode_point f b in record { key = m.key; object = m.object }
