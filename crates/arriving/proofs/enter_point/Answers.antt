-- `arriving::enter_point` meets its contract. The invariant: the versions before i were tried (Folding). Assumes nothing.
use mathlib.Core.Path.{ap, sym, ◌∙◌}
use Rattle.numbers.specs.Words.{fold}
use Rattle.block.proofs.Numbers.{bytes_of}
use Rattle.record.proofs.Reading.{versions_are}
use Rattle.arriving.proofs.Folding.{folded_all}
use Rattle.arriving.proofs.Arrivals.{try_version, tried_versions, version_tried}
use native.Mathlib.Omega.{arith}
use Rattle.arriving.proofs.enter_point.Goals as goal

pub loop-i-preserved : goal.loop-i-preserved
loop-i-preserved c = version_tried c.args.b.now (bytes_of c.args.b.now c.type_inv.b) c.requires.0 c.args.n c.args.here c.args.t c.loop-i.i c.loop-i.last c.loop-i.invariant.0 c.loop-i.invariant.1 (omega (arith, c.version_count-count.ensures)) _ _ (omega (arith, c.version_count-count.ensures)) c.version_dot.ensures c.enter_version-last.ensures

pub returns : goal.returns
returns c = folded_all c.loop-i.invariant.0 (omega (arith, c.version_count-count.ensures)) ∙ ap (fold (try_version c.args.n c.args.here) c.args.t) (sym (versions_are c.args.b.now (omega arith))) ∙ tried_versions c.args.n c.args.here c.args.t _
