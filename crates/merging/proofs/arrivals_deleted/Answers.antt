-- `merging::arrivals_deleted` meets its contract: each version is asked whether it arrives with a value (Judging). Assumes nothing.
use Rattle.std.proofs.Common.{rules}
use Rattle.std.proofs.lemmas.Iterator.{serves_from_Range}
use mathlib.Core.Bool.{not}
use mathlib.Core.Path.{refl, ap, ◌∙◌}
use Rattle.record.proofs.Reading.{version_at}
use Rattle.record.proofs.Questions.{crewed_at}
use Rattle.object.proofs.Counting.{stays}
use Rattle.block.proofs.Asked.{any_asked}
use Rattle.merging.proofs.Judging.{valued, any_valued}
use native.Mathlib.Omega.{arith}
use Rattle.merging.proofs.arrivals_deleted.Goals as goal

pub any-requires-clause-callable : goal.any-requires-clause-callable
any-requires-clause-callable c = let p = c.requires in
    let e = c.version_count-count.ensures in
    serves_from_Range (λ x q r. search rules) (λ k l h. let w = crewed_at c.args.m.now (omega arith) e p.2 k (omega arith) in search (rules, w, e, p))

pub returns : goal.returns
returns c = let m = c.args.m.now in
    let f = stays c.args.here.now in
    ap not (any_asked c.any.result c.version_count-count.result refl (λ x q r k. search rules) (valued f) (version_at m) c.any.ensures.runs (λ x l r k. search rules) ∙ any_valued f m (omega arith) c.version_count-count.ensures)
