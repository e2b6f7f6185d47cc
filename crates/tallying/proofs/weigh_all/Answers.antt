-- `tallying::weigh_all` meets its contract. One point after the other (Tally). Assumes nothing.
use Prim.Native.Nat.{ℕ, ◌+◌}
use mathlib.Core.Path.{◌≡◌, refl, sym, ap, subst}
use mathlib.Core.List.{List}
use native.Mathlib.Omega.{arith}
use lib.ListN.{length, length-append}
use Rattle.block.proofs.Roads.{from_there, turn, end}
use Rattle.block.proofs.Chunks.{numbered_given}
use Rattle.layout.specs.Clocks.{decode_clock}
use Rattle.layout.specs.PointBlock.{form_1, decode_stored}
use Rattle.layout.specs.Image.{decode}
use Rattle.mending.specs.Mended.{mend}
use Rattle.tallying.specs.Tallied.{Ready, Weighed}
use Rattle.tallying.proofs.Tally.{tally_more, tally_all}
use Rattle.tallying.proofs.weigh_all.Goals as goal

pub weigh_point-w-requires : goal.weigh_point-w-requires
weigh_point-w-requires c =
    let road = from_there c.into_iter-i-iterator.ensures.into_iter_gives (numbered_given (λ b. b) c.args.points.now c.chunks_exact.ensures.rest c.chunks_exact.ensures.size c.enumerate-i-items.ensures.source c.enumerate-i-items.ensures.count) in
    let t = turn road c.loop-i.i-iterator c.next.new.self c.loop-i.yielded c.loop-i.yielded_by c.next.ensures.steps c.in-Some.is in
    (c.requires.0, c.requires.1, c.requires.2, c.requires.3, subst (Ready (decode c.args.image.now) (decode_clock c.args.clock.now)) (sym (λ i. (t.1 i).1)) (c.requires.4 (length c.loop-i.yielded) t.0), c.requires.5)

pub loop-i-preserved : goal.loop-i-preserved
loop-i-preserved c =
    let road = from_there c.into_iter-i-iterator.ensures.into_iter_gives (numbered_given (λ b. b) c.args.points.now c.chunks_exact.ensures.rest c.chunks_exact.ensures.size c.enumerate-i-items.ensures.source c.enumerate-i-items.ensures.count) in
    let t = turn road c.loop-i.i-iterator c.next.new.self c.loop-i.yielded c.loop-i.yielded_by c.next.ensures.steps c.in-Some.is in
    let at : c.in-Some.i ≡ length c.loop-i.yielded = λ i. (t.1 i).0 in
    let weighed = subst (λ (b : List ℕ). Weighed (decode c.args.image.now) (decode_clock c.args.rows.now) (mend (decode c.args.image.now) (decode_clock c.args.clock.now) (decode_stored form_1 b)) c.weigh_point-w.result.many c.weigh_point-w.result.comes c.weigh_point-w.result.goes) (λ i. (t.1 i).1) c.weigh_point-w.ensures in
    rw (length-append, at) (tally_more (decode c.args.image.now) (decode_clock c.args.clock.now) (decode_clock c.args.rows.now) c.args.points.now (length c.loop-i.yielded) c.loop-i.many c.loop-i.coming c.loop-i.going c.loop-i.marks c.loop-i.invariant t.0 (omega (arith, t.0)) c.weigh_point-w.result.many c.weigh_point-w.result.comes c.weigh_point-w.result.goes weighed _ _ _ _ refl (ap (λ (x : ℕ). c.loop-i.coming + x) c.as_mark-comes.ensures) (ap (λ (x : ℕ). c.loop-i.going + x) c.as_mark-goes.ensures) c.as_mark-comes.ensures)

pub returns : goal.returns
returns c =
    let road = from_there c.into_iter-i-iterator.ensures.into_iter_gives (numbered_given (λ b. b) c.args.points.now c.chunks_exact.ensures.rest c.chunks_exact.ensures.size c.enumerate-i-items.ensures.source c.enumerate-i-items.ensures.count) in
    let all = end road c.loop-i.i-iterator c.next.new.self c.loop-i.yielded c.loop-i.yielded_by c.next.ensures.steps c.in-None.is in
    (tally_all (decode c.args.image.now) (decode_clock c.args.clock.now) (decode_clock c.args.rows.now) c.args.points.now (length c.loop-i.yielded) c.loop-i.many c.loop-i.coming c.loop-i.going c.loop-i.marks c.loop-i.invariant (omega (arith, all)) (omega arith), c.loop-i.invariant.size)
