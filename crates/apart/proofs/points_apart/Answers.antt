-- `apart::points_apart` meets its contract. The invariant: each point before j is apart from those before it, and their marks stand. Assumes nothing.
use native.Mathlib.Omega.{arith}
use Rattle.block.proofs.Passing.{one_fails, all_passed}
use mathlib.Core.Path.{sym, ◌∙◌}
use Rattle.apart.proofs.points_apart.Goals as goal

pub returns-then-not-apart_from_earlier : goal.returns-then-not-apart_from_earlier
returns-then-not-apart_from_earlier c = one_fails c.loop-j.invariant.0 (omega arith) (search (◌∙◌, sym))

pub returns : goal.returns
returns c = all_passed c.loop-j.invariant.0 (omega arith)
