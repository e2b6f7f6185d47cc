-- `listing::put_record_lines` meets its contract. The invariant: the lines of the versions before the i-th stand. Assumes nothing.
use Prim.Native.Nat.{ℕ, ◌*◌, min}
use mathlib.Core.Path.{◌≡◌, ap, ◌∙◌}
use native.Mathlib.Omega.{arith}
use Rattle.numbers.specs.Words.{concat_map}
use Rattle.layout.specs.PointBlock.{form_1, decode_stored}
use Rattle.layout.specs.Listing.{version_line}
use Rattle.listing.specs.Put.{most_line}
use Rattle.listing.proofs.Texts.{slot, versions_are}
use Rattle.listing.proofs.Putting.{one_more, at_most, as_text}
use Rattle.listing.proofs.put_record_lines.Goals as goal

pub loop-i-preserved : goal.loop-i-preserved
loop-i-preserved c = one_more (version_line (decode_stored form_1 c.args.b.now).key) most_line c.loop-i.i (slot c.args.b.now) c.loop-i.invariant c.put_version_line-end.ensures

pub returns : goal.returns
returns c = let full : c.loop-i.i ≡ c.at_most-count.result = omega arith in as_text (ap (concat_map (version_line (decode_stored form_1 c.args.b.now).key)) (versions_are c.args.b.now c.loop-i.i (full ∙ c.at_most-count.ensures ∙ ap (λ (n : ℕ). min n 8) c.version_count.ensures))) (at_most (most_line * 8) c.loop-i.invariant (omega arith))
