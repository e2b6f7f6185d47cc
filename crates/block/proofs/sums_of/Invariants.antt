-- `block::sums_of` meets its contract. The invariant: the plain sums so far, reduced and carried on over the words that are left, give the sums of the block; and bounds that keep both below 2 ^ 32. Assumes nothing.
use Prim.Native.Nat.{◌+◌, ◌*◌, ◌≤◌}
use mathlib.Core.Path.{◌≡◌}
use lib.ListN.{length}
use Rattle.std.specs.Slice.Iter.{chunks_exact_rest, chunks_exact_size}
use Rattle.block.specs.Check.{sums_from, sums}
use Rattle.block.proofs.Summing.{reduced}
use Rattle.block.proofs.sums_of.Given as goal

abbrev pub invariant-loop-word : goal.invariant-loop-word
invariant-loop-word l =
    let rest = chunks_exact_rest l.word-iterator in
    (chunks_exact_size l.word-iterator ≡ 2)
    × (2 * l.s1 + 65535 * length rest ≤ 33291780)
    × (2 * l.s2 + 16645890 * length rest ≤ 8456112120)
    × (sums_from (reduced l.s1 l.s2) rest ≡ sums l.b)
