-- `listing::put_hex` meets its contract. The invariant: the bytes before the one that comes stand in hex. Assumes nothing.
use Prim.Native.Nat.{ℕ, ◌*◌}
use mathlib.Core.Path.{◌≡◌, ap, ◌∙◌}
use mathlib.Core.List.{List}
use native.Mathlib.Omega.{arith}
use lib.ListN.{length, get_or}
use Rattle.numbers.specs.Words.{concat_map}
use Rattle.block.specs.Fields.{upto}
use Rattle.layout.specs.Listing.{hex}
use Rattle.listing.proofs.Putting.{one_more, by_index, at_most, as_text}
use Rattle.listing.proofs.put_hex.Goals as goal

pub loop-x-preserved : goal.loop-x-preserved
loop-x-preserved c = one_more hex 2 c.loop-x.x-index (λ k. get_or c.args.said.now k 0) c.loop-x.invariant c.put_hex_byte-end.ensures

pub returns : goal.returns
returns c = let said : List ℕ = c.args.said.now in let full : c.loop-x.x-index ≡ length said = omega arith in as_text (ap (λ (n : ℕ). concat_map hex (upto n (λ k. get_or said k 0))) full ∙ ap (concat_map hex) (by_index said)) (at_most (2 * length said) c.loop-x.invariant (omega arith))
