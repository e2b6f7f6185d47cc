-- `replying::write_points` meets its contract. The invariant: so many of the points are written, and the rest lie behind the last one (Sending). Assumes nothing.
use borrow.Author.Rules.{rules}
use Prim.Native.Nat.{◌-◌}
use mathlib.Core.Path.{refl}
use Rattle.layout.specs.Image.{decode}
use Rattle.layout.specs.Messages.{decode_ask}
use Rattle.store.proofs.Lent.{counted, good_now}
use Rattle.replying.proofs.Sending.{none_sent, as_long, fits_still, ends, one_fits, one_sent}
use native.Mathlib.Omega.{arith}
use Rattle.replying.proofs.write_points.Goals as goal

pub loop-k-init : goal.loop-k-init
loop-k-init c = none_sent (decode c.args.image.now) (decode_ask c.args.message.now) (good_now c.args.image.now c.requires.1) c.args.out.now

pub overflow_cast-result : goal.overflow_cast-result
overflow_cast-result c = omega (arith, fits_still (decode c.args.image.now) (decode_ask c.args.message.now) (good_now c.args.image.now c.requires.1) c.args.out.now c.requires.4 c.loop-k.last c.loop-k.sent c.loop-k.out c.loop-k.invariant)

pub shape_of-out : goal.shape_of-out
shape_of-out c = as_long (decode c.args.image.now) (decode_ask c.args.message.now) (good_now c.args.image.now c.requires.1) c.args.out.now c.requires.4 c.loop-k.last c.loop-k.sent c.loop-k.out c.loop-k.invariant

pub returns : goal.returns
returns c = ends (decode c.args.image.now) (decode_ask c.args.message.now) (good_now c.args.image.now c.requires.1) c.args.out.now c.requires.4 c.loop-k.last c.loop-k.sent c.loop-k.out c.loop-k.invariant c.next_key.result c.next_key.ensures (search rules)

pub overflow_mul-at : goal.overflow_mul-at
overflow_mul-at c = omega (arith, c.requires.4, one_fits (decode c.args.image.now) (decode_ask c.args.message.now) (good_now c.args.image.now c.requires.1) c.args.out.now c.requires.4 c.loop-k.last c.loop-k.sent c.loop-k.out c.loop-k.invariant c.next_key.result c.next_key.ensures c.in-Some.k c.in-Some.is, as_long (decode c.args.image.now) (decode_ask c.args.message.now) (good_now c.args.image.now c.requires.1) c.args.out.now c.requires.4 c.loop-k.last c.loop-k.sent c.loop-k.out c.loop-k.invariant)

pub overflow_add-at : goal.overflow_add-at
overflow_add-at c = omega (arith, c.requires.4, one_fits (decode c.args.image.now) (decode_ask c.args.message.now) (good_now c.args.image.now c.requires.1) c.args.out.now c.requires.4 c.loop-k.last c.loop-k.sent c.loop-k.out c.loop-k.invariant c.next_key.result c.next_key.ensures c.in-Some.k c.in-Some.is, as_long (decode c.args.image.now) (decode_ask c.args.message.now) (good_now c.args.image.now c.requires.1) c.args.out.now c.requires.4 c.loop-k.last c.loop-k.sent c.loop-k.out c.loop-k.invariant)

pub overflow_add-sent : goal.overflow_add-sent
overflow_add-sent c = omega (arith, c.requires.4, one_fits (decode c.args.image.now) (decode_ask c.args.message.now) (good_now c.args.image.now c.requires.1) c.args.out.now c.requires.4 c.loop-k.last c.loop-k.sent c.loop-k.out c.loop-k.invariant c.next_key.result c.next_key.ensures c.in-Some.k c.in-Some.is, as_long (decode c.args.image.now) (decode_ask c.args.message.now) (good_now c.args.image.now c.requires.1) c.args.out.now c.requires.4 c.loop-k.last c.loop-k.sent c.loop-k.out c.loop-k.invariant)

pub overflow_cast-sent : goal.overflow_cast-sent
overflow_cast-sent c = omega (arith, c.requires.4, one_fits (decode c.args.image.now) (decode_ask c.args.message.now) (good_now c.args.image.now c.requires.1) c.args.out.now c.requires.4 c.loop-k.last c.loop-k.sent c.loop-k.out c.loop-k.invariant c.next_key.result c.next_key.ensures c.in-Some.k c.in-Some.is, as_long (decode c.args.image.now) (decode_ask c.args.message.now) (good_now c.args.image.now c.requires.1) c.args.out.now c.requires.4 c.loop-k.last c.loop-k.sent c.loop-k.out c.loop-k.invariant)

pub overflow_add-at-in-Some : goal.overflow_add-at-in-Some
overflow_add-at-in-Some c = omega (arith, c.requires.4, one_fits (decode c.args.image.now) (decode_ask c.args.message.now) (good_now c.args.image.now c.requires.1) c.args.out.now c.requires.4 c.loop-k.last c.loop-k.sent c.loop-k.out c.loop-k.invariant c.next_key.result c.next_key.ensures c.in-Some.k c.in-Some.is, as_long (decode c.args.image.now) (decode_ask c.args.message.now) (good_now c.args.image.now c.requires.1) c.args.out.now c.requires.4 c.loop-k.last c.loop-k.sent c.loop-k.out c.loop-k.invariant)

pub slice_bounds-write_point-count : goal.slice_bounds-write_point-count
slice_bounds-write_point-count c = omega (arith, c.requires.4, one_fits (decode c.args.image.now) (decode_ask c.args.message.now) (good_now c.args.image.now c.requires.1) c.args.out.now c.requires.4 c.loop-k.last c.loop-k.sent c.loop-k.out c.loop-k.invariant c.next_key.result c.next_key.ensures c.in-Some.k c.in-Some.is, as_long (decode c.args.image.now) (decode_ask c.args.message.now) (good_now c.args.image.now c.requires.1) c.args.out.now c.requires.4 c.loop-k.last c.loop-k.sent c.loop-k.out c.loop-k.invariant)

pub slice_bounds-write_point-start : goal.slice_bounds-write_point-start
slice_bounds-write_point-start c = omega (arith, c.requires.4, one_fits (decode c.args.image.now) (decode_ask c.args.message.now) (good_now c.args.image.now c.requires.1) c.args.out.now c.requires.4 c.loop-k.last c.loop-k.sent c.loop-k.out c.loop-k.invariant c.next_key.result c.next_key.ensures c.in-Some.k c.in-Some.is, as_long (decode c.args.image.now) (decode_ask c.args.message.now) (good_now c.args.image.now c.requires.1) c.args.out.now c.requires.4 c.loop-k.last c.loop-k.sent c.loop-k.out c.loop-k.invariant)

pub slice_bounds-write_point-end : goal.slice_bounds-write_point-end
slice_bounds-write_point-end c = omega (arith, c.requires.4, one_fits (decode c.args.image.now) (decode_ask c.args.message.now) (good_now c.args.image.now c.requires.1) c.args.out.now c.requires.4 c.loop-k.last c.loop-k.sent c.loop-k.out c.loop-k.invariant c.next_key.result c.next_key.ensures c.in-Some.k c.in-Some.is, as_long (decode c.args.image.now) (decode_ask c.args.message.now) (good_now c.args.image.now c.requires.1) c.args.out.now c.requires.4 c.loop-k.last c.loop-k.sent c.loop-k.out c.loop-k.invariant)

pub write_point-requires : goal.write_point-requires
write_point-requires c = (c.requires.0, c.requires.1, counted c.args.image.now c.stored_count-count.result c.stored_count-count.ensures, omega (arith, c.requires.4, one_fits (decode c.args.image.now) (decode_ask c.args.message.now) (good_now c.args.image.now c.requires.1) c.args.out.now c.requires.4 c.loop-k.last c.loop-k.sent c.loop-k.out c.loop-k.invariant c.next_key.result c.next_key.ensures c.in-Some.k c.in-Some.is, as_long (decode c.args.image.now) (decode_ask c.args.message.now) (good_now c.args.image.now c.requires.1) c.args.out.now c.requires.4 c.loop-k.last c.loop-k.sent c.loop-k.out c.loop-k.invariant))

pub overflow_add-sent-in-Some : goal.overflow_add-sent-in-Some
overflow_add-sent-in-Some c = omega (arith, c.requires.4, one_fits (decode c.args.image.now) (decode_ask c.args.message.now) (good_now c.args.image.now c.requires.1) c.args.out.now c.requires.4 c.loop-k.last c.loop-k.sent c.loop-k.out c.loop-k.invariant c.next_key.result c.next_key.ensures c.in-Some.k c.in-Some.is, as_long (decode c.args.image.now) (decode_ask c.args.message.now) (good_now c.args.image.now c.requires.1) c.args.out.now c.requires.4 c.loop-k.last c.loop-k.sent c.loop-k.out c.loop-k.invariant)

pub loop-k-smaller : goal.loop-k-smaller
loop-k-smaller c = omega (arith, c.requires.4, one_fits (decode c.args.image.now) (decode_ask c.args.message.now) (good_now c.args.image.now c.requires.1) c.args.out.now c.requires.4 c.loop-k.last c.loop-k.sent c.loop-k.out c.loop-k.invariant c.next_key.result c.next_key.ensures c.in-Some.k c.in-Some.is, as_long (decode c.args.image.now) (decode_ask c.args.message.now) (good_now c.args.image.now c.requires.1) c.args.out.now c.requires.4 c.loop-k.last c.loop-k.sent c.loop-k.out c.loop-k.invariant)

pub loop-k-preserved : goal.loop-k-preserved
loop-k-preserved c = one_sent (decode c.args.image.now) (decode_ask c.args.message.now) (good_now c.args.image.now c.requires.1) c.args.out.now c.requires.4 c.loop-k.last c.loop-k.sent c.loop-k.out c.loop-k.invariant c.next_key.result c.next_key.ensures c.in-Some.k c.in-Some.is _ _ (search rules) c.write_point.ensures refl
