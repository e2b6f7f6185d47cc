-- `block::copy_in` meets its contract. The invariant is `Copied` (Copies). Assumes nothing.
use mathlib.Core.Path.{refl}
use native.Mathlib.Omega.{arith}
use lib.ListN.{length}
use lib.Seq.{take-length}
use Rattle.block.proofs.Copies.{copied_none, copied_more, copied_all}
use Rattle.block.proofs.copy_in.Goals as goal

pub loop-i-init : goal.loop-i-init
loop-i-init c = let a = c.args in copied_none a.out.now a.at a.src.now (length a.src.now) (omega arith) (omega arith)

pub loop-i-preserved : goal.loop-i-preserved
loop-i-preserved c = copied_more c.loop-i.invariant (omega arith) refl

pub returns : goal.returns
returns c = let s = c.args.src.now in copied_all c.loop-i.invariant s (omega arith) (take-length s)
