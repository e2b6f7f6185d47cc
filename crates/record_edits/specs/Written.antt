-- A point block, stored or sent: its kind, where it stands, and its point. Edits say what of it is another. Assumes nothing.
use Rattle.std.specs.Prelude.{ℕ, ◌-◌, List}
use Rattle.numbers.specs.declared.Controller.{Controller}
use Rattle.numbers.specs.declared.Counter.{Counter}
use Rattle.block.specs.Fields.{field, put_at}
use Rattle.meaning.specs.Object.{Version, Object}
use Rattle.meaning.specs.Message.{Outgoing}
use Rattle.layout.specs.PointBlock.{form_1, encode_point, decode_point}

pub record Written : Type 0 where
  pub kind : ℕ
  pub position : ℕ
  pub point : Outgoing

abbrev pub lay_point : Written → List ℕ
lay_point w = encode_point form_1 w.kind w.position w.point

abbrev pub point_block : List ℕ → Written
point_block b = record { kind = field b 0 1; position = field b 2 2; point = decode_point form_1 b }

abbrev pub with_object : Written → Object → Written
with_object w o = record { kind = w.kind; position = w.position; point = record { sender = w.point.sender; key = w.point.key; object = o } }

-- other versions
abbrev pub with_versions : Written → List Version → Written
with_versions w vs = with_object w (record { versions = vs; context = w.point.object.context })

-- another counter for controller n
abbrev pub put_entry : Written → Controller → Counter → Written
put_entry w n c = with_object w (record { versions = w.point.object.versions; context = put_at w.point.object.context (n.0 - 1) c })

-- another kind, place and sender
abbrev pub relabelled : Written → ℕ → ℕ → Controller → Written
relabelled w kind position sender = record { kind = kind; position = position; point = record { sender = sender; key = w.point.key; object = w.point.object } }
