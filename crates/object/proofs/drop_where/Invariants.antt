-- `object::drop_where` meets its contract. The invariant: the versions from the i-th on were asked (Asking). Assumes nothing.
use Rattle.record_edits.specs.Written.{point_block}
use Rattle.object.proofs.Asking.{Asked}
use Rattle.object.proofs.drop_where.Given as goal

abbrev pub invariant-loop-i : goal.invariant-loop-i
invariant-loop-i g l = Asked (point_block l.initial.b) (goal.F-post g l.goes) l.i l.b
