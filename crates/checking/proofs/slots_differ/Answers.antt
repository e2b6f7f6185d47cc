-- `checking::slots_differ` meets its contract. By their bytes (Clashes). Assumes nothing.
use Rattle.block.proofs.Numbers.{bytes_of}
use Rattle.record.proofs.Reading.{version_at}
use mathlib.Core.Path.{ap, sym, ◌∙◌}
use Rattle.meaning.specs.Object.{Version}
use Rattle.merging.proofs.Slots.{few_slots, lent_laid, lent_says}
use Rattle.checking.proofs.Clashes.{slots_say}
use native.Mathlib.Omega.{arith}
use Rattle.checking.proofs.slots_differ.Goals as goal

pub overflow_mul-from : goal.overflow_mul-from
overflow_mul-from c = omega (arith, few_slots c.args.b.now (bytes_of c.args.b.now c.type_inv.b) c.requires.0 c.requires.1, c.requires.2)

pub overflow_add-from : goal.overflow_add-from
overflow_add-from c = omega (arith, few_slots c.args.b.now (bytes_of c.args.b.now c.type_inv.b) c.requires.0 c.requires.1, c.requires.2)

pub overflow_mul-at : goal.overflow_mul-at
overflow_mul-at c = omega (arith, few_slots c.args.p.now (bytes_of c.args.p.now c.type_inv.p) c.requires.3 c.requires.4, c.requires.5)

pub overflow_add-at : goal.overflow_add-at
overflow_add-at c = omega (arith, few_slots c.args.p.now (bytes_of c.args.p.now c.type_inv.p) c.requires.3 c.requires.4, c.requires.5)

pub overflow_add-from-2 : goal.overflow_add-from-2
overflow_add-from-2 c = omega (arith, few_slots c.args.b.now (bytes_of c.args.b.now c.type_inv.b) c.requires.0 c.requires.1, c.requires.2)

pub slice_bounds-same_bytes-end : goal.slice_bounds-same_bytes-end
slice_bounds-same_bytes-end c = omega (arith, few_slots c.args.b.now (bytes_of c.args.b.now c.type_inv.b) c.requires.0 c.requires.1, c.requires.2, c.requires.0)

pub overflow_add-at-2 : goal.overflow_add-at-2
overflow_add-at-2 c = omega (arith, few_slots c.args.p.now (bytes_of c.args.p.now c.type_inv.p) c.requires.3 c.requires.4, c.requires.5)

pub slice_bounds-same_bytes-end-2 : goal.slice_bounds-same_bytes-end-2
slice_bounds-same_bytes-end-2 c = omega (arith, few_slots c.args.p.now (bytes_of c.args.p.now c.type_inv.p) c.requires.3 c.requires.4, c.requires.5, c.requires.3)

pub returns : goal.returns
returns c = slots_say _ _ (lent_laid c.args.b.now (bytes_of c.args.b.now c.type_inv.b) c.requires.0 c.requires.1 c.args.j c.requires.2) (lent_laid c.args.p.now (bytes_of c.args.p.now c.type_inv.p) c.requires.3 c.requires.4 c.args.i c.requires.5) (ap (λ (v : Version). v.dot) (lent_says c.args.b.now (bytes_of c.args.b.now c.type_inv.b) c.requires.0 c.requires.1 c.args.j c.requires.2) ∙ c.requires.6 ∙ sym (ap (λ (v : Version). v.dot) (lent_says c.args.p.now (bytes_of c.args.p.now c.type_inv.p) c.requires.3 c.requires.4 c.args.i c.requires.5))) (version_at c.args.b.now c.args.j) (version_at c.args.p.now c.args.i) (lent_says c.args.b.now (bytes_of c.args.b.now c.type_inv.b) c.requires.0 c.requires.1 c.args.j c.requires.2) (lent_says c.args.p.now (bytes_of c.args.p.now c.type_inv.p) c.requires.3 c.requires.4 c.args.i c.requires.5) c.same_bytes.result c.same_bytes.ensures
