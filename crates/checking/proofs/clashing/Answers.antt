-- `checking::clashing` meets its contract. By a record, or by a list (Otherwise). Assumes nothing.
use Rattle.block.proofs.Numbers.{bytes_of}
use Rattle.layout.specs.PointBlock.{form_1, decode_point}
use Rattle.layout.specs.Image.{decode}
use Rattle.merging.proofs.Slots.{few_slots}
use Rattle.checking.proofs.Otherwise.{by_a_record, by_a_list}
use Rattle.checking.proofs.clashing.Goals as goal

pub returns-then-stored_otherwise : goal.returns-then-stored_otherwise
returns-then-stored_otherwise c = let a = c.args in
    let b = a.b.now in
    by_a_record (decode a.image.now) (decode_point form_1 b).key (decode_point form_1 b).object.versions c.stored_otherwise.result c.stored_otherwise.ensures c.if-stored_otherwise.true

pub listed_otherwise-requires : goal.listed_otherwise-requires
listed_otherwise-requires c = let a = c.args in
    let r = c.requires in
    let b = a.b.now in
    (r.0, r.1, r.3, few_slots b (bytes_of b c.type_inv.b) r.3 r.4)

pub returns : goal.returns
returns c = let a = c.args in
    let b = a.b.now in
    by_a_list (decode a.image.now) (decode_point form_1 b).key (decode_point form_1 b).object.versions c.stored_otherwise.result c.stored_otherwise.ensures c.if-stored_otherwise.false c.listed_otherwise.result c.listed_otherwise.ensures
