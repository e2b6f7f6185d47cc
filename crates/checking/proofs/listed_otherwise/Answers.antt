-- `checking::listed_otherwise` meets its contract. One list after the other (Otherwise). Assumes nothing.
use borrow.Author.Rules.{rules}
use Rattle.block.proofs.Numbers.{bytes_of}
use Rattle.store.proofs.Lent.{good_canonical}
use Rattle.store.proofs.ListsLent.{list_few}
use Rattle.checking.proofs.Otherwise.{own_ascends, foreign_ascends, own_otherwise, foreign_otherwise}
use native.Mathlib.Omega.{arith}
use Rattle.checking.proofs.listed_otherwise.Goals as goal

pub versions_listed_for-requires : goal.versions_listed_for-requires
versions_listed_for-requires c = let a = c.args in
    let r = c.requires in
    let image = a.image.now in
    (search rules, list_few image (bytes_of image c.type_inv.image) r.0 (good_canonical image r.1) 1 (omega arith) (omega arith), own_ascends image r.1, r.2, r.3)

pub returns-then-not-versions_listed_for : goal.returns-then-not-versions_listed_for
returns-then-not-versions_listed_for c = let a = c.args in
    own_otherwise a.image.now a.b.now c.versions_listed_for.result c.versions_listed_for.ensures c.if-not-versions_listed_for.true-raw

pub versions_listed_for-requires-2 : goal.versions_listed_for-requires-2
versions_listed_for-requires-2 c = let a = c.args in
    let r = c.requires in
    let image = a.image.now in
    (search rules, list_few image (bytes_of image c.type_inv.image) r.0 (good_canonical image r.1) 2 (omega arith) (omega arith), foreign_ascends image r.1, r.2, r.3)

pub returns : goal.returns
returns c = let a = c.args in
    foreign_otherwise a.image.now a.b.now c.versions_listed_for.result c.versions_listed_for.ensures c.if-not-versions_listed_for.false-raw c.versions_listed_for-2.result c.versions_listed_for-2.ensures
