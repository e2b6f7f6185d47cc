-- `noting::next_in_point` meets its contract. The invariant: the versions before i were looked at (arriving's Folding). Assumes nothing.
use Prim.Native.Nat.{◌-◌}
use mathlib.Core.Path.{ap, sym, ◌∙◌, subst}
use Rattle.numbers.specs.declared.Dot.{Dot}
use Rattle.numbers.specs.Numbers.{Crew}
use Rattle.block.specs.Fields.{field}
use Rattle.layout.specs.Image.{decode}
use Rattle.record.proofs.Reading.{version_at}
use Rattle.record.proofs.Questions.{crewed_at}
use Rattle.arriving.proofs.Folding.{none_folded, folded_more, folded_all}
use Rattle.noting.specs.Nearest.{with_new}
use Rattle.noting.proofs.Looking.{look_at, point_looked}
use native.Mathlib.Omega.{arith}
use Rattle.noting.proofs.next_in_point.Goals as goal

pub loop-i-init : goal.loop-i-init
loop-i-init c = none_folded (look_at (decode c.args.image.now) c.key_of-k.result c.args.last) (field c.args.b.now 5 1) (version_at c.args.b.now) c.args.start

pub version_dot-requires : goal.version_dot-requires
version_dot-requires c = (c.requires.4, omega (arith, c.version_count-many.ensures, c.requires.5))

pub with_dot-best-requires : goal.with_dot-best-requires
with_dot-best-requires c = (c.requires.0, c.requires.1, c.requires.2, c.requires.3, subst (λ (d : Dot). Crew d.who) (sym c.version_dot.ensures) (crewed_at c.args.b.now c.requires.5 c.version_count-many.ensures c.requires.6 c.loop-i.i (omega arith)))

pub loop-i-preserved : goal.loop-i-preserved
loop-i-preserved c = folded_more c.loop-i.invariant (omega (arith, c.version_count-many.ensures)) _ (c.with_dot-best.ensures ∙ ap (with_new (decode c.args.image.now) c.key_of-k.result c.args.last c.loop-i.best) c.version_dot.ensures)

pub returns : goal.returns
returns c = point_looked (decode c.args.image.now) c.args.b.now c.requires.5 c.args.last c.args.start c.loop-i.best c.key_of-k.result c.key_of-k.ensures (folded_all c.loop-i.invariant (omega (arith, c.version_count-many.ensures)))
