-- `listing::put_first_line` meets its contract. Assumes nothing.
use native.Mathlib.Omega.{arith}
use Rattle.image.proofs.Counted.{stored_few}
use Rattle.listing.proofs.Texts.{first_is}
use Rattle.listing.proofs.Putting.{◌then◌, as_text}
use Rattle.listing.proofs.put_first_line.Goals as goal

pub slice_bounds-own_of-count : goal.slice_bounds-own_of-count
slice_bounds-own_of-count c = omega arith

pub slice_bounds-own_of-start : goal.slice_bounds-own_of-start
slice_bounds-own_of-start c = omega arith

pub slice_bounds-own_of-end : goal.slice_bounds-own_of-end
slice_bounds-own_of-end c = omega arith

pub own_of-own-requires : goal.own_of-own-requires
own_of-own-requires c = omega arith

pub slice_bounds-listed-count : goal.slice_bounds-listed-count
slice_bounds-listed-count c = omega arith

pub slice_bounds-listed-start : goal.slice_bounds-listed-start
slice_bounds-listed-start c = omega arith

pub slice_bounds-listed-end : goal.slice_bounds-listed-end
slice_bounds-listed-end c = omega arith

pub listed-mine-requires : goal.listed-mine-requires
listed-mine-requires c = omega arith

pub slice_bounds-listed-count-2 : goal.slice_bounds-listed-count-2
slice_bounds-listed-count-2 c = omega arith

pub slice_bounds-listed-start-2 : goal.slice_bounds-listed-start-2
slice_bounds-listed-start-2 c = omega arith

pub slice_bounds-listed-end-2 : goal.slice_bounds-listed-end-2
slice_bounds-listed-end-2 c = omega arith

pub listed-others-requires : goal.listed-others-requires
listed-others-requires c = omega arith

pub stored_count-count-requires : goal.stored_count-count-requires
stored_count-count-requires c = omega arith

pub overflow_cast-count : goal.overflow_cast-count
overflow_cast-count c = omega (arith, stored_few c.args.image.now, c.stored_count-count.ensures)

pub overflow_cast-own : goal.overflow_cast-own
overflow_cast-own c = omega arith

pub put_after-who-requires : goal.put_after-who-requires
put_after-who-requires c = omega arith

pub put_after-records-requires : goal.put_after-records-requires
put_after-records-requires c = omega arith

pub put_after-listed-requires : goal.put_after-listed-requires
put_after-listed-requires c = omega arith

pub put_after-foreign-requires : goal.put_after-foreign-requires
put_after-foreign-requires c = omega arith

pub put_word-requires : goal.put_word-requires
put_word-requires c = omega (arith, c.requires.1, c.put_after-who.ensures.ends, c.put_after-who.ensures.fits, c.put_after-who.ensures.size)

pub shape_of-out : goal.shape_of-out
shape_of-out c = omega arith

pub returns : goal.returns
returns c = as_text (first_is c.args.image.now c.own_of-own.result c.stored_count-count.result c.listed-mine.result c.listed-others.result c.own_of-own.ensures c.stored_count-count.ensures c.listed-mine.ensures c.listed-others.ensures) (c.put_after-who.ensures then c.put_after-records.ensures then c.put_after-listed.ensures then c.put_after-foreign.ensures then c.put_word.ensures)
