-- `block::sums_of` meets its contract (Summing). Assumes nothing.
use Prim.Native.Nat.{◌+◌, ◌<◌}
use mathlib.Core.Path.{◌≡◌, ap, ◌∙◌}
use native.Mathlib.Omega.{arith}
use lib.ListN.{length, take, length-take, length-append}
use Rattle.std.specs.Slice.Iter.{chunks_exact_rest}
use Rattle.block.specs.Check.{sums_from, sums}
use Rattle.block.proofs.Summing.{reduced, sums_more, sums_all}
use Rattle.block.proofs.sums_of.Goals as goal

pub slice_bounds-chunks_exact-end : goal.slice_bounds-chunks_exact-end
slice_bounds-chunks_exact-end c = simp length-take (omega arith)

pub loop-word-init : goal.loop-word-init
unfolding sums
loop-word-init c =
    let rest : chunks_exact_rest c.into_iter-word-iterator.result ≡ take 508 c.args.b.now = cc in
    let size : length (chunks_exact_rest c.into_iter-word-iterator.result) ≡ 508 = ap length rest ∙ simp length-take (omega arith) in
    (cc, omega arith, omega arith, ap (sums_from (reduced 0 0)) rest)

pub loop-word-preserved : goal.loop-word-preserved
loop-word-preserved c =
    let l = c.loop-word in
    let e = c.in-Some.ensures.steps in
    let word : length c.in-Some.word.now ≡ 2 = e.1.1 ∙ l.invariant.0 in
    let left : length (chunks_exact_rest l.word-iterator) ≡ length (chunks_exact_rest c.next.new.self) + 2 = omega (arith, simp length-append at (ap length e.1.0)) in
    (e.0 ∙ l.invariant.0, omega arith, omega arith, sums_more c.args.b.now l.s1 l.s2 c.in-Some.word.now (chunks_exact_rest c.next.new.self) e.1.0 word c.u16_at.ensures l.invariant.3)

pub returns : goal.returns
returns c = let l = c.loop-word in let none : length (chunks_exact_rest l.word-iterator) < 2 = omega (arith, c.in-None.ensures.steps.1.0) in sums_all c.args.b.now l.s1 l.s2 (chunks_exact_rest l.word-iterator) none l.invariant.3
