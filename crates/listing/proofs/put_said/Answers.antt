-- `listing::put_said` meets its contract: a case for each way to say it. Assumes nothing.
use native.Mathlib.Omega.{arith}
use Rattle.layout.specs.Listing.{said}
use Rattle.listing.proofs.Texts.{says_deleted, says_empty, says_value}
use Rattle.listing.proofs.Putting.{at_most, as_text}
use Rattle.listing.proofs.put_said.Goals as goal

pub said_length-n-requires : goal.said_length-n-requires
said_length-n-requires c = omega arith

pub put_word-requires : goal.put_word-requires
put_word-requires c = omega arith

pub shape_of-out-then-n : goal.shape_of-out-then-n
shape_of-out-then-n c = omega arith

pub returns-then-n : goal.returns-then-n
unfolding said
returns-then-n c = as_text (says_deleted c.args.b.now c.args.i c.said_length-n.result c.said_length-n.ensures c.if-n.true) (at_most 48 c.put_word.ensures (omega arith))

pub put_word-requires-then-n-eq0 : goal.put_word-requires-then-n-eq0
put_word-requires-then-n-eq0 c = omega arith

pub shape_of-out-then-n-eq0 : goal.shape_of-out-then-n-eq0
shape_of-out-then-n-eq0 c = omega arith

pub returns-then-n-eq0 : goal.returns-then-n-eq0
unfolding said
returns-then-n-eq0 c = as_text (says_empty c.args.b.now c.args.i c.said_length-n.result c.said_length-n.ensures c.if-n-eq0.true) (at_most 48 c.put_word-then-n-eq0.ensures (omega arith))

pub overflow_mul-from : goal.overflow_mul-from
overflow_mul-from c = omega arith

pub overflow_add-from : goal.overflow_add-from
overflow_add-from c = omega arith

pub overflow_cast-n : goal.overflow_cast-n
overflow_cast-n c = omega arith

pub at_most-len-requires : goal.at_most-len-requires
at_most-len-requires c = omega arith

pub overflow_add-from-2 : goal.overflow_add-from-2
overflow_add-from-2 c = omega arith

pub slice_bounds-put_hex-count : goal.slice_bounds-put_hex-count
slice_bounds-put_hex-count c = omega arith

pub slice_bounds-put_hex-start : goal.slice_bounds-put_hex-start
slice_bounds-put_hex-start c = omega arith

pub slice_bounds-put_hex-end : goal.slice_bounds-put_hex-end
slice_bounds-put_hex-end c = omega arith

pub put_hex-requires : goal.put_hex-requires
put_hex-requires c = omega arith

pub shape_of-out : goal.shape_of-out
shape_of-out c = omega arith

pub returns : goal.returns
returns c = as_text (says_value c.args.b.now c.args.i c.said_length-n.result c.said_length-n.ensures c.if-n.false c.if-n-eq0.false c.at_most-len.result c.at_most-len.ensures (omega arith) (omega arith)) (at_most 48 c.put_hex.ensures (omega arith))
