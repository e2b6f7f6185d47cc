-- `object::staying` meets its contract. Assumes nothing.
use Rattle.std.proofs.Common.{rules, tests}
use Prim.Native.Nat.{ℕ, ◌<◌}
use mathlib.Core.Path.{refl, ap, sym, ◌∙◌}
use mathlib.Core.List.{List}
use native.Mathlib.Omega.{arith}
use lib.ListN.{length}
use Rattle.std.specs.declared.ops.Range.{Range}
use Rattle.std.proofs.lemmas.Iterator.{serves_from_Range}
use Rattle.numbers.specs.Words.{keep}
use Rattle.block.specs.Fields.{upto}
use Rattle.meaning.specs.Object.{Version}
use Rattle.record.proofs.Chains.{chain_count}
use Rattle.record.proofs.Reading.{version_at, versions_are}
use Rattle.record.proofs.Questions.{crewed_at}
use Rattle.object.proofs.Counting.{stays}
use Rattle.object.proofs.staying.Goals as goal

pub count-requires-clause-can : goal.count-requires-clause-can
count-requires-clause-can c = (
  tt,
  tt,
  serves_from_Range (λ x q k. search (rules, tests))
      (λ x l h.
      let inside : x < c.version_count.result = omega (arith, ap (λ (s : Range ℕ). s.end) c.filter.ensures.source) in
      let small : x < 8 = omega (arith, c.version_count.ensures) in
      let crew = crewed_at c.args.b.now (omega arith) c.version_count.ensures c.requires.3 x inside in
      search rules),
)

pub returns : goal.returns
returns c =
    chain_count c.version_count.result (λ i. stays c.args.context.now (version_at c.args.b.now i)) (stays c.args.context.now) (version_at c.args.b.now)
    c.count.ensures.ran (cc) c.filter.ensures.closure (λ x b q k. search (rules, tests)) (λ i l. refl)
    ∙ ap (λ (l : List Version). length (keep (stays c.args.context.now) l)) (ap (λ (k : ℕ). upto k (version_at c.args.b.now)) c.version_count.ensures ∙ sym (versions_are c.args.b.now (omega arith)))
