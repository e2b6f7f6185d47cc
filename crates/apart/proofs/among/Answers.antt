-- `apart::among` meets its contract. Assumes nothing.
use Rattle.std.proofs.Common.{rules, tests}
use Prim.Native.Nat.{ℕ}
use mathlib.Core.Path.{ap}
use mathlib.Core.List.{List}
use Rattle.std.proofs.lemmas.Iterator.{serves_from_Range}
use Rattle.meaning.specs.Object.{has_dot}
use Rattle.layout.specs.PointBlock.{form_1, decode_stored}
use Rattle.record.proofs.Chains.{chain_any}
use Rattle.block.proofs.Runs.{block_part}
use Rattle.apart.specs.Apart.{point_of}
use Rattle.apart.proofs.Lent.{lent, lent_size, lent_few}
use Rattle.apart.proofs.among.Goals as goal

pub any-requires-clause-callable : goal.any-requires-clause-callable
any-requires-clause-callable c =
    serves_from_Range (λ x q k. search (rules, tests))
    (λ x l h. let size = lent_size c.args.points.now c.args.n x h c.requires.0 in let few = lent_few c.args.points.now c.args.n x h c.requires.1 in search rules)

pub returns : goal.returns
returns c =
    chain_any c.args.n (λ i. has_dot (decode_stored form_1 (lent c.args.points.now i)).object.versions c.args.d) (λ p. has_dot p.object.versions c.args.d)
    (point_of c.args.points.now) c.any.ensures.ran (cc) (λ x b q k. search (rules, tests))
    (λ i l. ap (λ (b : List ℕ). has_dot (decode_stored form_1 b).object.versions c.args.d) (block_part c.args.points.now i))
