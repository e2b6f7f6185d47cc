-- `image::fetch` meets its contract. The record that was found, or the empty object (Fetching). Assumes nothing.
use Rattle.block.specs.Kind.{kind_number}
use Rattle.block.proofs.Begins.{kind_fits}
use Prim.Native.Nat.{ℕ, ◌-◌}
use mathlib.Core.Path.{ap, ◌∙◌}
use native.Mathlib.Omega.{arith}
use Rattle.block.proofs.Numbers.{bytes_of}
use Rattle.record_edits.specs.Written.{point_block, relabelled}
use Rattle.image_edits.proofs.Blocks.{image_decoded}
use Rattle.image_edits.proofs.Fetching.{search_ascends, search_few, found_inside, copied_laid, fetched, fetched_none}
use borrow.Author.Rules.{rules}
use Rattle.image_edits.proofs.fetch.Goals as goal

pub find_point-requires : goal.find_point-requires
find_point-requires c = let img = c.args.image.now in let small = bytes_of c.args.image.now c.type_inv.image in let p = c.requires in let a = c.args in (p.0, search_few img small p.0 p.1 a.count p.2, search_ascends img small p.0 p.1 a.count p.2 p.3)

pub overflow_add-at : goal.overflow_add-at
overflow_add-at c = let img = c.args.image.now in let small = bytes_of c.args.image.now c.type_inv.image in let p = c.requires in let a = c.args in omega (arith, (image_decoded img small p.0).few, found_inside img small p.0 p.1 a.count p.2 p.3 a.k (kind_number a.kind) a.sender c.find_point.result c.find_point.ensures c.in-Ok.i c.in-Ok.is)

pub overflow_mul-at : goal.overflow_mul-at
overflow_mul-at c = let img = c.args.image.now in let small = bytes_of c.args.image.now c.type_inv.image in let p = c.requires in let a = c.args in omega (arith, (image_decoded img small p.0).few, found_inside img small p.0 p.1 a.count p.2 p.3 a.k (kind_number a.kind) a.sender c.find_point.result c.find_point.ensures c.in-Ok.i c.in-Ok.is)

pub overflow_add-at-in-Ok : goal.overflow_add-at-in-Ok
overflow_add-at-in-Ok c = let img = c.args.image.now in let small = bytes_of c.args.image.now c.type_inv.image in let p = c.requires in let a = c.args in omega (arith, (image_decoded img small p.0).few, found_inside img small p.0 p.1 a.count p.2 p.3 a.k (kind_number a.kind) a.sender c.find_point.result c.find_point.ensures c.in-Ok.i c.in-Ok.is)

pub slice_bounds-copy_in-end : goal.slice_bounds-copy_in-end
slice_bounds-copy_in-end c = let img = c.args.image.now in let small = bytes_of c.args.image.now c.type_inv.image in let p = c.requires in let a = c.args in omega (arith, (image_decoded img small p.0).few, found_inside img small p.0 p.1 a.count p.2 p.3 a.k (kind_number a.kind) a.sender c.find_point.result c.find_point.ensures c.in-Ok.i c.in-Ok.is)

pub relabel-requires : goal.relabel-requires
relabel-requires c = let img = c.args.image.now in let small = bytes_of c.args.image.now c.type_inv.image in let p = c.requires in let a = c.args in (omega arith, copied_laid img small p.0 p.1 a.count p.2 p.3 a.k (kind_number a.kind) a.sender c.find_point.result c.find_point.ensures c.in-Ok.i c.in-Ok.is a.out.now _ p.4 c.copy_in.ensures)

pub returns-in-Ok : goal.returns-in-Ok
returns-in-Ok c = let img = c.args.image.now in let small = bytes_of c.args.image.now c.type_inv.image in let p = c.requires in let a = c.args in fetched img small p.0 p.1 a.count p.2 p.3 a.k (kind_number a.kind) a.sender c.find_point.result c.find_point.ensures c.in-Ok.i c.in-Ok.is a.out.now _ p.4 c.copy_in.ensures _ (c.relabel.ensures.0 ∙ ap (λ (n : ℕ). relabelled (point_block c.copy_in.new.out) n 0 a.sender) c.from.ensures, c.relabel.ensures.1)

pub returns-in-Err : goal.returns-in-Err
returns-in-Err c = let img = c.args.image.now in let small = bytes_of c.args.image.now c.type_inv.image in let p = c.requires in let a = c.args in fetched_none img small p.0 p.1 a.count p.2 p.3 a.k (kind_number a.kind) a.sender c.find_point.result c.find_point.ensures c.in-Err.field-0 c.in-Err.is _ (kind_fits a.kind) (search rules) (search rules) (search rules) c.write_empty.ensures
