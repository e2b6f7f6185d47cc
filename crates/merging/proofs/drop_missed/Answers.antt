-- `merging::drop_missed` meets its contract (object's Asking). Assumes nothing.
use Rattle.std.proofs.Common.{rules, tests}
use Rattle.meaning.specs.Object.{survivors}
use Rattle.layout.specs.PointBlock.{form_1, decode_point}
use Rattle.object.proofs.Asking.{crewed_asked}
use Rattle.merging.proofs.Carrying.{lasts}
use Rattle.merging.proofs.drop_missed.Goals as goal

pub drop_where-requires-clause-asked : goal.drop_where-requires-clause-asked
drop_where-requires-clause-asked c = λ x i size small l there. let crew = crewed_asked (decode_point form_1 c.args.b.now).object.versions c.requires.2 x.now i l there in search rules

pub returns : goal.returns
unfolding survivors
returns c = c.drop_where.ensures (lasts c.args.m.now c.args.there.now) (λ x i r size small k. search (rules, tests))
