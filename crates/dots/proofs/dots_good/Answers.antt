-- `dots::dots_good` meets its contract: a chain over the entries, and one over each and the one before it (Good). Assumes nothing.
use Rattle.std.proofs.Common.{rules, tests}
use Rattle.std.proofs.lemmas.Iterator.{YieldsList-from_range}
use Rattle.std.proofs.lemmas.Iterator.Search.{all_from_yields_List}
use Prim.Native.Nat.{ℕ, ◌-◌}
use mathlib.Core.Path.{◌≡◌, refl, sym, ap, ◌∙◌}
use native.Mathlib.Omega.{arith}
use Rattle.numbers.specs.Words.{every}
use Rattle.block.specs.Fields.{upto}
use Rattle.block.proofs.Passing.{range_all, range_every}
use Rattle.meaning.specs.State.{listed_before}
use Rattle.layout.specs.Clocks.{decode_clock}
use Rattle.dots.specs.Lists.{is_own}
use Rattle.layout.specs.Image.{decode_dots}
use Rattle.dots.specs.DotsGood.{dots_good}
use Rattle.dots.specs.Entries.{entry, entry_good}
use Rattle.dots.proofs.Laid.{entries_are}
use Rattle.dots.proofs.Good.{in_order, not_each}
use Rattle.dots.proofs.dots_good.Goals as goal
use Rattle.dots.proofs.dots_good.Goals.{After-all}

each : (c : After-all) → let a = c.args in c.all.result ≡ every (upto c.entry_count-n.result (λ i. entry_good (is_own a.list) a.own a.table.now (decode_clock a.rows.now) (entry a.b.now i)))
each c =
    let a = c.args in
    let n = c.entry_count-n.result in
    let test = λ (i : ℕ). entry_good (is_own a.list) a.own a.table.now (decode_clock a.rows.now) (entry a.b.now i) in
    all_from_yields_List test _ _ _ c.all.ensures.ran (YieldsList-from_range 0 n n (cc) (omega arith)) (λ x b q k. search (rules, tests)) ∙ range_every test n

-- the entries up to the count are the list
listed : (c : After-all) → let a = c.args in dots_good (is_own a.list) a.own a.table.now (decode_clock a.rows.now) (upto c.entry_count-n.result (entry a.b.now)) ≡ dots_good (is_own a.list) a.own a.table.now (decode_clock a.rows.now) (decode_dots a.b.now)
listed c = let a = c.args in ap (dots_good (is_own a.list) a.own a.table.now (decode_clock a.rows.now)) (ap (λ (n : ℕ). upto n (entry a.b.now)) c.entry_count-n.ensures ∙ sym (entries_are a.b.now (search rules)))

pub returns-then-all : goal.returns-then-all
returns-then-all c =
    let a = c.args in
    let n = c.entry_count-n.result in
    let near = λ (i : ℕ). listed_before (entry a.b.now (i - 1)) (entry a.b.now i) in
    let h = (goal.at.returns-then-all c).After-all in
    in_order (is_own a.list) a.own a.table.now (decode_clock a.rows.now) n (entry a.b.now) (each h) c.if-all.true
    (all_from_yields_List near _ _ _ c.all-then-all.ensures.ran (YieldsList-from_range 1 n (n - 1) (cc) refl) (λ x b q k. search (rules, tests)) ∙ range_all near 1 (n - 1))
    ∙ listed h

pub returns-else-all : goal.returns-else-all
returns-else-all c =
    let a = c.args in
    let h = (goal.at.returns-else-all c).After-all in
    not_each (is_own a.list) a.own a.table.now (decode_clock a.rows.now) c.entry_count-n.result (entry a.b.now) (each h) c.if-all.false ∙ listed h
