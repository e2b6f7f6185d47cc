-- `block::move_up` meets its contract. The invariant: the run held bytes, and what is moved so far (Moves). Assumes nothing.
use native.Mathlib.Omega.{arith}
use Rattle.block.proofs.Numbers.{bytes_of}
use Rattle.block.proofs.Moves.{from_end, next_below, all_from}
use Rattle.block.proofs.move_up.Goals as goal

pub loop-k-init : goal.loop-k-init
loop-k-init c = let p = c.requires in (bytes_of c.args.run.now c.type_inv.run, from_end p.0 p.1)

pub loop-k-preserved : goal.loop-k-preserved
loop-k-preserved c = let p = c.requires in let i = c.loop-k.invariant in (i.0, next_below p.0 p.1 i.0 i.1 (omega arith) c.u64_at-eight.ensures c.put_u64.ensures (omega arith))

pub returns : goal.returns
returns c = let p = c.requires in all_from p.0 p.1 c.loop-k.invariant.1 (omega arith)
