-- `image::list_agrees` meets its contract: each stored point is asked (ListedFor). Assumes nothing.
use Rattle.std.proofs.Common.{rules}
use Rattle.std.proofs.lemmas.Iterator.{serves_from_Range}
use mathlib.Core.Path.{refl}
use native.Mathlib.Omega.{arith}
use Rattle.block.proofs.Asked.{all_asked}
use Rattle.layout.specs.Image.{decode_dots}
use Rattle.image.specs.Apart.{listed_for, point_at}
use Rattle.image.proofs.Loops.{few_part}
use Rattle.image.proofs.ListedFor.{listed_part}
use Rattle.image.proofs.list_agrees.Goals as goal

pub all-requires-clause-callable : goal.all-requires-clause-callable
all-requires-clause-callable c = let a = c.args in
    let p = c.requires in
    serves_from_Range (λ x q r. search rules) (λ k l h. let few = few_part a.image.now a.count k p.5 (omega arith) in search (rules, few, p))

pub returns : goal.returns
returns c = let a = c.args in
    let img = a.image.now in
    let ls = decode_dots a.list.now in
    all_asked c.all.result a.count refl (λ x q r t. search rules) (λ i. listed_for ls (point_at img i)) c.all.ensures.runs (λ x l r t. listed_part ls img x r (search rules))
