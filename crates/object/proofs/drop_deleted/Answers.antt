-- `object::drop_deleted` meets its contract. Assumes nothing.
use Rattle.std.proofs.Common.{rules, tests}
use Prim.Native.Nat.{◌+◌, ◌*◌}
use mathlib.Core.Path.{◌≡◌, sym, ◌∙◌}
use lib.Dec.{eqb}
use Rattle.block.specs.Fields.{field}
use Rattle.meaning.specs.Object.{has_value}
use Rattle.record.proofs.Questions.{said_deleted}
use Rattle.object.proofs.drop_deleted.Goals as goal

pub returns : goal.returns
returns c =
    c.drop_where.ensures (λ v. has_value v.contents)
    (λ x i r size small k. let says : r ≡ eqb (field x.now (41 + 32 * i) 1) 255 = search (rules, tests) in says ∙ sym (said_deleted x.now i))
