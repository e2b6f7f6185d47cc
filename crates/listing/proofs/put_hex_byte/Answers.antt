-- `listing::put_hex_byte` meets its contract: two digits. Assumes nothing.
use Rattle.listing.proofs.Putting.{◌then◌, as_text}
use mathlib.Core.List.{[], ◌∷◌}
use native.Mathlib.Omega.{arith}
use Rattle.listing.proofs.put_hex_byte.Goals as goal

pub hex_digit-requires : goal.hex_digit-requires
hex_digit-requires c = omega arith

pub put_byte-end-requires : goal.put_byte-end-requires
put_byte-end-requires c = omega arith

pub hex_digit-requires-2 : goal.hex_digit-requires-2
hex_digit-requires-2 c = omega arith

pub put_byte-requires : goal.put_byte-requires
put_byte-requires c = omega arith

pub shape_of-out : goal.shape_of-out
shape_of-out c = omega arith

pub returns : goal.returns
returns c = as_text (λ j. c.hex_digit.ensures j ∷ c.hex_digit-2.ensures j ∷ []) (c.put_byte-end.ensures then c.put_byte.ensures)
