-- `listing::listed` meets its contract. Assumes nothing.
use mathlib.Core.Path.{◌∙◌, ap}
use Prim.Native.Nat.{ℕ, min}
use Rattle.listing.proofs.Texts.{listed_are}
use native.Mathlib.Omega.{arith}
use Rattle.listing.proofs.listed.Goals as goal

pub entry_count-requires : goal.entry_count-requires
entry_count-requires c = omega arith

pub overflow_cast-entry_count : goal.overflow_cast-entry_count
overflow_cast-entry_count c = omega arith

pub at_most-requires : goal.at_most-requires
at_most-requires c = omega arith

pub overflow_cast-result : goal.overflow_cast-result
overflow_cast-result c = omega arith

pub returns : goal.returns
returns c = listed_are c.args.b.now _ (c.at_most.ensures ∙ ap (λ (n : ℕ). min n 60) c.entry_count.ensures)
