-- `listing::put_refused` meets its contract. Assumes nothing.
use mathlib.Core.List.{[], ◌∷◌, ◌++◌}
use native.Mathlib.Omega.{arith}
use mathlib.Core.Path.{ap}
use Prim.Native.Nat.{ℕ}
use Rattle.layout.specs.Listing.{refused_line, decimal}
use Rattle.listing.specs.Put.{most_text}
use Rattle.listing.proofs.Putting.{◌then◌, at_most, as_text}
use Rattle.listing.proofs.put_refused.Goals as goal

pub put_after-end-requires : goal.put_after-end-requires
put_after-end-requires c = omega arith

pub put_word-requires : goal.put_word-requires
put_word-requires c = omega arith

pub shape_of-out : goal.shape_of-out
shape_of-out c = omega arith

pub returns : goal.returns
unfolding refused_line
returns c = as_text (ap (λ (n : ℕ). 0x72 ∷ 0x65 ∷ 0x66 ∷ 0x75 ∷ 0x73 ∷ 0x65 ∷ 0x64 ∷ 0x20 ∷ (decimal n ++ (0x0a ∷ []))) c.from.ensures) (at_most most_text (c.put_after-end.ensures then c.put_word.ensures) (omega arith))
