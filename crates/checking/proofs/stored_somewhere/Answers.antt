-- `checking::stored_somewhere` meets its contract: the records are the points of the run of blocks behind the lists (HomeLent). Assumes nothing.
use native.Mathlib.Omega.{arith}
use Rattle.block.proofs.Numbers.{bytes_of}
use Rattle.image.proofs.Counted.{points_few}
use Rattle.image.proofs.Loops.{few_behind}
use Rattle.checking.proofs.HomeLent.{records_few, somewhere}
use Rattle.checking.proofs.stored_somewhere.Goals as goal

pub among-requires : goal.among-requires
among-requires c = let a = c.args in
    let r = c.requires in
    let image = a.image.now in
    (omega (arith, points_few image, r.2, r.0), few_behind image a.count (records_few image (bytes_of image c.type_inv.image) r.0 r.1 a.count r.2))

pub returns : goal.returns
returns c = let a = c.args in
    somewhere a.image.now a.count a.d c.among.result c.requires.2 c.among.ensures
