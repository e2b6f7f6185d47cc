-- `merging::survivors_deleted` meets its contract: each version is asked whether it stays with a value (Judging). Assumes nothing.
use Rattle.std.proofs.Common.{rules}
use Rattle.std.proofs.lemmas.Iterator.{serves_from_Range}
use mathlib.Core.Bool.{not}
use mathlib.Core.Path.{refl, ap, ◌∙◌}
use Rattle.meaning.specs.Object.{survivors}
use Rattle.record.proofs.Reading.{version_at}
use Rattle.record.proofs.Questions.{crewed_at}
use Rattle.block.proofs.Asked.{any_asked}
use Rattle.merging.proofs.Carrying.{lasts}
use Rattle.merging.proofs.Judging.{valued, any_valued}
use native.Mathlib.Omega.{arith}
use Rattle.merging.proofs.survivors_deleted.Goals as goal

pub any-requires-clause-callable : goal.any-requires-clause-callable
any-requires-clause-callable c = let p = c.requires in
    let e = c.version_count-count.ensures in
    serves_from_Range (λ x q r. search rules) (λ k l h. let w = crewed_at c.args.b.now (omega arith) e p.2 k (omega arith) in search (rules, w, e, p))

pub returns : goal.returns
returns c = let a = c.args in
    let b = a.b.now in
    let f = lasts a.m.now a.there.now in
    unfold survivors in (ap not (any_asked c.any.result c.version_count-count.result refl (λ x r q k. search rules) (valued f) (version_at b) c.any.ensures.runs (λ x l r k. search rules) ∙ any_valued f b (omega arith) c.version_count-count.ensures))
