-- `mending::merge_marked` meets its contract. The invariant: the state is the one that the first marks leave (Passing). Assumes nothing.
use mathlib.Core.Path.{ap, ◌∙◌}
use lib.ListN.{length, length-append}
use Rattle.std.proofs.Common.{rules}
use Rattle.block.proofs.Roads.{from_there, turn, end}
use Rattle.block.proofs.Chunks.{zipped_given}
use Rattle.layout.specs.Clocks.{decode_clock}
use Rattle.layout.specs.Image.{decode}
use Rattle.mending.proofs.Passing.{reached, none_reached, may_merge, merged}
use Rattle.mending.proofs.merge_marked.Goals as goal

pub loop-b-init : goal.loop-b-init
loop-b-init c = (none_reached (decode c.args.image.now) (decode_clock c.args.clock.now) (decode_clock c.args.rows.now) c.args.points.now c.args.marks.now c.args.which, c.requires.1, c.requires.0)

pub merge_if-requires : goal.merge_if-requires
merge_if-requires c =
    let road = from_there c.into_iter-b-iterator.ensures.into_iter_gives (zipped_given (λ b. b) c.args.points.now c.chunks_exact.ensures.rest c.chunks_exact.ensures.size c.zip-b-items.ensures.first c.args.marks.now 0 c.zip-b-items.ensures.second.0 c.requires.7) in
    let t = turn road c.loop-b.b-iterator c.next.new.self c.loop-b.yielded c.loop-b.yielded_by c.next.ensures.steps c.in-Some.is in
    let m = may_merge (decode c.args.image.now) (decode_clock c.args.clock.now) (decode_clock c.args.rows.now) c.args.points.now c.args.marks.now c.args.which (length c.loop-b.yielded) c.requires.6 t.0 c.requires.7 (decode c.loop-b.image) c.in-Some.b.now
    c.loop-b.invariant.0 (λ i. (t.1 i).0) c.in-Some.mark.now (λ i. (t.1 i).1) c.requires.2 c.requires.5 c.requires.8 in
    (c.loop-b.invariant.2, c.loop-b.invariant.1, m.0, m.1, m.2, c.requires.3, c.requires.4, m.3, m.4)

pub loop-b-preserved : goal.loop-b-preserved
loop-b-preserved c =
    let road = from_there c.into_iter-b-iterator.ensures.into_iter_gives (zipped_given (λ b. b) c.args.points.now c.chunks_exact.ensures.rest c.chunks_exact.ensures.size c.zip-b-items.ensures.first c.args.marks.now 0 c.zip-b-items.ensures.second.0 c.requires.7) in
    let t = turn road c.loop-b.b-iterator c.next.new.self c.loop-b.yielded c.loop-b.yielded_by c.next.ensures.steps c.in-Some.is in (
      rw length-append (merged (decode c.args.image.now) (decode_clock c.args.clock.now) (decode_clock c.args.rows.now) c.args.points.now c.args.marks.now c.args.which (length c.loop-b.yielded) c.requires.6 t.0 c.requires.7 (decode c.loop-b.image) c.in-Some.b.now
          c.loop-b.invariant.0 (λ i. (t.1 i).0) c.in-Some.mark.now (λ i. (t.1 i).1) (decode c.merge_if.new.image) c.merge_if.ensures.0),
      c.merge_if.ensures.1,
      search rules,
    )

pub returns : goal.returns
returns c =
    let road = from_there c.into_iter-b-iterator.ensures.into_iter_gives (zipped_given (λ b. b) c.args.points.now c.chunks_exact.ensures.rest c.chunks_exact.ensures.size c.zip-b-items.ensures.first c.args.marks.now 0 c.zip-b-items.ensures.second.0 c.requires.7) in
    let all = end road c.loop-b.b-iterator c.next.new.self c.loop-b.yielded c.loop-b.yielded_by c.next.ensures.steps c.in-None.is in
    (c.loop-b.invariant.0 ∙ ap (reached (decode c.args.image.now) (decode_clock c.args.clock.now) (decode_clock c.args.rows.now) c.args.points.now c.args.marks.now c.args.which) all, c.loop-b.invariant.1)
