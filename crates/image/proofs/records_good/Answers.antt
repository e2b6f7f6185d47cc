-- `image::records_good` meets its contract: each stored point is asked (Loops). Assumes nothing.
use Rattle.std.proofs.Common.{rules}
use Rattle.std.proofs.lemmas.Iterator.{serves_from_Range}
use mathlib.Core.Path.{refl}
use native.Mathlib.Omega.{arith}
use Rattle.block.proofs.Asked.{all_asked}
use Rattle.layout.specs.Clocks.{decode_clock}
use Rattle.record.specs.RecordGood.{record_good}
use Rattle.image.specs.Apart.{point_at}
use Rattle.image.proofs.Loops.{good_part, few_part}
use Rattle.image.proofs.records_good.Goals as goal

pub all-requires-clause-callable : goal.all-requires-clause-callable
all-requires-clause-callable c = let a = c.args in
    let p = c.requires in
    serves_from_Range (λ x q r. search rules) (λ k l h. let few = few_part a.image.now a.count k p.2 (omega arith) in search (rules, few, p))

pub returns : goal.returns
returns c = let a = c.args in
    let img = a.image.now in
    all_asked c.all.result a.count refl (λ x q r t. search rules) (λ i. record_good a.own a.table.now (decode_clock a.rows.now) (point_at img i)) c.all.ensures.runs (λ x l r t. good_part img x a.own a.table.now a.rows.now r (search rules))
