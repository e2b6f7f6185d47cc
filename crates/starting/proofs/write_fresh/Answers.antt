use Rattle.block.specs.Fields.{splice}
use native.Mathlib.Omega.{arith}
use mathlib.Core.Path.{refl, ap, ◌∙◌}
use lib.ListN.{length}
use Rattle.block.proofs.Numbers.{bytes_of}
use Rattle.starting.proofs.Fresh.{fresh_head_length, no_dots_length, fresh_image, fresh_encoded}
use Rattle.starting.proofs.write_fresh.Goals as goal

pub returns : goal.returns
returns c = let image = c.args.image.now in
    let table = c.args.table.now in
    let number = c.args.number in
    let bytes = bytes_of table c.type_inv.table in
    let h = c.write_fresh_head.ensures in
    let d1 = c.write_no_dots.ensures in
    let d2 = c.write_no_dots-2.ensures in
    let head = c.write_fresh_head.new.b in
    let own = c.write_no_dots.new.b in
    let foreign = c.write_no_dots-2.new.b in
    let one = splice image 0 512 head in
    let two = splice one 512 512 own in
    let three = splice two 1024 512 foreign in
    fresh_image image one two three c.clear.new.b head own foreign (omega arith) (ap length h ∙ fresh_head_length number table (omega arith) bytes) (ap length d1 ∙ no_dots_length 1)
    (ap length d2 ∙ no_dots_length 2) refl refl refl c.clear.ensures
    ∙ fresh_encoded number table head own foreign h d1 d2
