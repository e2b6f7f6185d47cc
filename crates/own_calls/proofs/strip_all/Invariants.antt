-- `own_calls::strip_all` meets its contract. The invariant: the records from the i-th on are stripped (StripPass). Assumes nothing.
use Rattle.layout.specs.Image.{decode}
use Rattle.own_calls.proofs.StripPass.{Stripping}
use Rattle.own_calls.proofs.strip_all.Given as goal

abbrev pub invariant-loop-i : goal.invariant-loop-i
invariant-loop-i l = Stripping (decode l.initial.image) l.i l.count l.image
