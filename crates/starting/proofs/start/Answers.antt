use native.Mathlib.Omega.{arith}
use mathlib.Core.Path.{ap, sym, ◌∙◌}
use Rattle.layout.specs.Calls.{After}
use Rattle.starting.proofs.Starting.{wrong_image, wrong_table, number_zero, number_large, started}
use Rattle.starting.proofs.start.Goals as goal

pub returns-then-image-ne34304 : goal.returns-then-image-ne34304
returns-then-image-ne34304 c = let e = wrong_image c.args.image.now c.args.number c.args.table.now (omega arith) in (sym (ap (λ (a : After). a.verdict) e), sym (ap (λ (a : After). a.image) e))

pub returns-then-table-ne8 : goal.returns-then-table-ne8
returns-then-table-ne8 c = let e = wrong_table c.args.image.now c.args.number c.args.table.now (omega arith) (omega arith) in (sym (ap (λ (a : After). a.verdict) e), sym (ap (λ (a : After). a.image) e))

pub returns-then-number-lt1 : goal.returns-then-number-lt1
returns-then-number-lt1 c = let e = number_zero c.args.image.now c.args.number c.args.table.now (omega arith) (omega arith) (omega arith) in (sym (ap (λ (a : After). a.verdict) e), sym (ap (λ (a : After). a.image) e))

pub returns-then-number-gt8 : goal.returns-then-number-gt8
returns-then-number-gt8 c = let e = number_large c.args.image.now c.args.number c.args.table.now (omega arith) (omega arith) (omega arith) (omega arith) in (sym (ap (λ (a : After). a.verdict) e), sym (ap (λ (a : After). a.image) e))

pub returns : goal.returns
returns c = let e = started c.args.image.now c.args.number c.args.table.now (omega arith) (omega arith) (omega arith) (omega arith) in (sym (ap (λ (a : After). a.verdict) e), c.write_fresh.ensures ∙ sym (ap (λ (a : After). a.image) e))
