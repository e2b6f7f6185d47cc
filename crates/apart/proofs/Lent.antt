-- A block of a run, as it is lent. Assumes nothing.
use Prim.Native.Nat.{ℕ, ◌+◌, ◌*◌, ◌-◌, ◌≤◌, ◌<◌}
use mathlib.Core.Path.{◌≡◌, ap, sym, ◌∙◌, subst}
use mathlib.Core.List.{List}
use native.Mathlib.Omega.{arith}
use lib.ListN.{length, take, drop}
use Rattle.block.specs.Fields.{field}
use Rattle.block.proofs.Content.{block_length}
use Rattle.block.proofs.Runs.{block_part}
use Rattle.apart.specs.Apart.{Few}

abbrev pub lent : List ℕ → ℕ → List ℕ
lent run k = take (512 * k + 512 - 512 * k) (drop (512 * k) run)

module _ (run : List ℕ) (n k : ℕ) (l : k < n) where
  pub lent_size : 512 * n ≤ length run → length (lent run k) ≡ 512
  lent_size room = ap length (block_part run k) ∙ block_length run k (omega arith)

  pub lent_few : Few run n → field (lent run k) 5 1 ≤ 8
  lent_few few = subst (λ (b : List ℕ). field b 5 1 ≤ 8) (sym (block_part run k)) (few k l)
