-- `merging::surviving` meets its contract: each version is asked whether it stays (Carrying). Assumes nothing.
use Rattle.std.proofs.Common.{rules}
use Rattle.std.specs.declared.ops.Range.{Range}
use Rattle.std.proofs.lemmas.Iterator.{serves_from_Range}
use Prim.Native.Nat.{ℕ}
use mathlib.Core.Path.{refl, ap, sym, ◌∙◌}
use mathlib.Core.List.{List}
use lib.ListN.{length}
use Rattle.numbers.specs.Words.{keep}
use Rattle.block.specs.Fields.{upto}
use Rattle.meaning.specs.Object.{Version, survivors}
use Rattle.record.proofs.Reading.{version_at, versions_are}
use Rattle.record.proofs.Questions.{crewed_at}
use Rattle.block.proofs.Asked.{count_asked}
use Rattle.merging.proofs.Carrying.{lasts}
use native.Mathlib.Omega.{arith}
use Rattle.merging.proofs.surviving.Goals as goal

pub count-requires-clause-can : goal.count-requires-clause-can
count-requires-clause-can c = let p = c.requires in
    let e = c.version_count-count.ensures in
    let n = ap (λ (t : Range ℕ). t.end) c.filter.ensures.source in
    (tt, tt, serves_from_Range (λ x q r. search rules) (λ k l h. let w = crewed_at c.args.b.now (omega arith) e p.2 k (omega (arith, n)) in search (rules, w, e, p, n)))

pub returns : goal.returns
returns c = let a = c.args in
    let f = lasts a.m.now a.there.now in
    unfold survivors in (count_asked f (version_at a.b.now) c.filter.result c.count.result c.version_count-count.result c.filter.ensures.source c.filter.ensures.closure refl c.count.ensures.ran (λ x r q k. search rules) ∙ ap (λ (n : ℕ). length (keep f (upto n (version_at a.b.now)))) c.version_count-count.ensures ∙ ap (λ (l : List Version). length (keep f l)) (sym (versions_are a.b.now (omega arith))))
