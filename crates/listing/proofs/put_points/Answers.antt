-- `listing::put_points` meets its contract. The invariant: the lines of the points before the one that comes stand. Assumes nothing.
use Prim.Native.Nat.{◌*◌, ◌/◌, ◌≤◌}
use mathlib.Core.Path.{◌∙◌}
use native.Mathlib.Omega.{arith}
use lib.ListN.{length, drop, length-append, length-drop}
use Rattle.block.proofs.Runs.{lent_rest}
use Rattle.block.proofs.Roads.{from_there, turn, end}
use Rattle.block.proofs.Chunks.{taken_given}
use Rattle.image.specs.Apart.{point_at}
use Rattle.image.proofs.Counted.{stored_few}
use Rattle.listing.specs.Put.{record_lines, most_line}
use Rattle.listing.proofs.Texts.{point_lines, all_points}
use Rattle.listing.proofs.Putting.{one_more, at_most, as_text}
use Rattle.listing.proofs.put_points.Goals as goal

pub loop-b-preserved : goal.loop-b-preserved
loop-b-preserved c =
    let few : c.stored_count-count.result ≤ length (drop 1536 c.args.image.now) / 512 = omega (arith, length-drop 1536 c.args.image.now, stored_few c.args.image.now, c.stored_count-count.ensures) in
    let road = from_there c.into_iter-b-iterator.ensures.into_iter_gives (taken_given (λ b. b) (drop 1536 c.args.image.now) (c.chunks_exact.ensures.rest ∙ lent_rest c.args.image.now 1536) c.chunks_exact.ensures.size c.take-b-items.ensures.source c.stored_count-count.result c.take-b-items.ensures.count few) in
    let t = turn road c.loop-b.b-iterator c.next.new.self c.loop-b.yielded c.loop-b.yielded_by c.next.ensures.steps c.in-Some.is in
    rw length-append (one_more record_lines (most_line * 8) (length c.loop-b.yielded) (point_at c.args.image.now) c.loop-b.invariant (as_text (point_lines c.args.image.now (length c.loop-b.yielded) t.1) c.put_record_lines-end.ensures))

pub returns : goal.returns
returns c =
    let few : c.stored_count-count.result ≤ length (drop 1536 c.args.image.now) / 512 = omega (arith, length-drop 1536 c.args.image.now, stored_few c.args.image.now, c.stored_count-count.ensures) in
    let road = from_there c.into_iter-b-iterator.ensures.into_iter_gives (taken_given (λ b. b) (drop 1536 c.args.image.now) (c.chunks_exact.ensures.rest ∙ lent_rest c.args.image.now 1536) c.chunks_exact.ensures.size c.take-b-items.ensures.source c.stored_count-count.result c.take-b-items.ensures.count few) in
    let all = end road c.loop-b.b-iterator c.next.new.self c.loop-b.yielded c.loop-b.yielded_by c.next.ensures.steps c.in-None.is in
    as_text (all_points c.args.image.now (length c.loop-b.yielded) (all ∙ c.stored_count-count.ensures)) (at_most (most_line * 8 * 64) c.loop-b.invariant (omega (arith, all, stored_few c.args.image.now, c.stored_count-count.ensures)))
