-- `merging::merge_in` meets its contract: the three passes make the merge (Whole). Assumes nothing.
use Rattle.numbers.specs.Words.{map}
use Rattle.numbers.specs.Numbers.{counter}
use lib.ListN.{length}
use Rattle.block.proofs.Numbers.{bytes_of}
use Rattle.layout.specs.PointBlock.{form_1, decode_point}
use Rattle.merging.specs.Merging.{arriving}
use Rattle.merging.proofs.Slots.{few_slots}
use Rattle.merging.proofs.Whole.{left_ascend, left_room, whole}
use native.Mathlib.Omega.{arith}
use Rattle.merging.proofs.merge_in.Goals as goal

pub drop_missed-requires : goal.drop_missed-requires
drop_missed-requires c = let a = c.args in
    let p = c.requires in
    let m = a.m.now in
    (p.0, p.1, p.8, p.2, (few_slots m (bytes_of m c.type_inv.m) p.2 p.3), p.5)

pub put_arriving-requires : goal.put_arriving-requires
put_arriving-requires c = let a = c.args in
    let p = c.requires in
    let b = a.b.now in
    let m = a.m.now in
    let there = a.there.now in (
      omega (arith, p.0),
      c.drop_missed.ensures.1,
      left_ascend b m there _ c.drop_missed.ensures.0 p.7,
      p.2,
      p.3,
      p.10,
      p.4,
      left_room b m there _ c.drop_missed.ensures.0 (length (arriving (map counter a.here.now) (decode_point form_1 m).object.versions)) p.12,
    )

pub raise_to-requires : goal.raise_to-requires
raise_to-requires c = let p = c.requires in
    (omega (arith, p.0), c.put_arriving.ensures.1, p.5)

pub returns : goal.returns
returns c = let a = c.args in
    let p = c.requires in
    whole a.b.now a.m.now a.there.now _ c.drop_missed.ensures.0 a.here.now _ _ p.6 p.7 p.9 p.11 c.put_arriving.ensures.0 c.raise_to.ensures
