-- `replying::write_point` meets its contract. Fetched, and given its place (Sending). Assumes nothing.
use Rattle.layout.specs.Image.{decode}
use Rattle.store.proofs.Lent.{good_ascends, good_canonical}
use Rattle.replying.proofs.Sending.{point_written}
use Rattle.replying.proofs.write_point.Goals as goal

pub fetch-requires : goal.fetch-requires
fetch-requires c = (c.requires.0, good_canonical c.args.image.now c.requires.1, c.requires.2, good_ascends c.args.image.now c.requires.1, c.requires.3)

pub returns : goal.returns
returns c = point_written (decode c.args.image.now) c.args.k c.args.position _ _ c.fetch.ensures.0 c.renumber.ensures
