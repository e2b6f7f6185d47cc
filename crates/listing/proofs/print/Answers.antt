-- `listing::print` meets its contract: a case for each answer. Assumes nothing.
use native.Mathlib.Omega.{arith}
use Rattle.block.proofs.Passing.{said_no, said_yes}
use Rattle.listing.proofs.Texts.{other_length, bad_image, good_image_lem}
use Rattle.listing.proofs.Putting.{whole}
use Rattle.listing.proofs.print.Goals as goal

pub put_refused-requires : goal.put_refused-requires
put_refused-requires c = omega arith

pub shape_of-out-then-input-ne34304 : goal.shape_of-out-then-input-ne34304
shape_of-out-then-input-ne34304 c = omega arith

pub returns-then-input-ne34304 : goal.returns-then-input-ne34304
returns-then-input-ne34304 c = whole c.put_refused.ensures (other_length c.args.input.now c.if-input-ne34304.true)

pub good-requires : goal.good-requires
good-requires c = omega arith

pub put_refused-requires-then-not-good : goal.put_refused-requires-then-not-good
put_refused-requires-then-not-good c = omega arith

pub shape_of-out-then-not-good : goal.shape_of-out-then-not-good
shape_of-out-then-not-good c = omega arith

pub returns-then-not-good : goal.returns-then-not-good
returns-then-not-good c = whole c.put_refused-then-not-good.ensures (bad_image c.args.input.now (omega arith) (said_no c.good.ensures c.if-not-good.true-raw))

pub put_listing-requires : goal.put_listing-requires
put_listing-requires c = omega arith

pub shape_of-out : goal.shape_of-out
shape_of-out c = omega arith

pub returns : goal.returns
returns c = whole c.put_listing.ensures (good_image_lem c.args.input.now (omega arith) (said_yes c.good.ensures c.if-not-good.false-raw))
