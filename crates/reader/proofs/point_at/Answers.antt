-- `reader::point_at` meets its contract. Assumes nothing.
use Rattle.reader.proofs.Parts.{point_part}
use Rattle.reader.proofs.point_at.Goals as goal

pub returns : goal.returns
returns c = point_part c.args.reply.now c.args.i
