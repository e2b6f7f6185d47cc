-- `listing::put_digits` meets its contract. The measure is the number of digits that there may be. Assumes nothing.
use mathlib.Core.Path.{◌∙◌}
use native.Mathlib.Omega.{arith}
use Rattle.listing.proofs.Texts.{digits_none, digits_one, digits_more}
use Rattle.listing.proofs.Putting.{nothing_put, at_most, as_text, ◌then◌}
use Rattle.listing.proofs.+put_digits.Goals as goal

pub returns-then-most-eq0 : goal.returns-then-most-eq0
returns-then-most-eq0 t c =
    as_text (digits_none c.args.most c.args.n c.if-most-eq0.true)
    (at_most c.args.most (nothing_put c.args.out.now c.args.at (omega arith)) (omega arith))

pub returns-then-n-lt10 : goal.returns-then-n-lt10
returns-then-n-lt10 t c =
    as_text (digits_one c.args.most c.args.n (omega arith) c.if-n-lt10.true)
    (at_most c.args.most c.put_byte.ensures (omega arith))

pub put_byte-requires-2 : goal.put_byte-requires-2
put_byte-requires-2 t c = omega (arith, c.put_digits-end.ensures.ends, c.put_digits-end.ensures.fits, c.put_digits-end.ensures.size)

pub shape_of-out : goal.shape_of-out
shape_of-out t c = c.put_byte-2.ensures.size ∙ c.put_digits-end.ensures.size

pub returns : goal.returns
returns t c =
    as_text (digits_more c.args.most c.args.n (omega arith) (omega arith))
    (at_most c.args.most (c.put_digits-end.ensures then c.put_byte-2.ensures) (omega arith))
