-- `noting::list_new` meets its contract. The invariant: so many of the new dots are listed, and the rest lie behind the last one (Rounds). Assumes nothing.
use borrow.Author.Rules.{rules}
use Prim.Native.Nat.{◌-◌}
use mathlib.Core.Path.{refl, ap, sym, ◌∙◌}
use lib.ListN.{length}
use Rattle.block.proofs.Numbers.{bytes_of}
use Rattle.layout.specs.Image.{decode}
use Rattle.store.proofs.Lent.{good_now, good_canonical}
use Rattle.arriving.specs.Sent.{points_in}
use Rattle.noting.proofs.Rounds.{foreign_count, none_listed, fresh_crew, same_points, still_ascend, full, ends, not_listed, list_ascends, one_fits, one_listed}
use Rattle.noting.proofs.list_new.Goals as goal

pub loop-listed-init : goal.loop-listed-init
loop-listed-init c = none_listed (decode c.args.image.now) (good_now c.args.image.now c.requires.1) (points_in c.args.points.now) (fresh_crew (decode c.args.image.now) c.args.points.now c.requires.4) c.args.image.now c.entry_count-before.result c.requires.0 (good_canonical c.args.image.now c.requires.1) refl (c.entry_count-before.ensures ∙ foreign_count c.args.image.now (bytes_of c.args.image.now c.slice_known-1.given) c.requires.0 (good_canonical c.args.image.now c.requires.1))

pub next_new-requires : goal.next_new-requires
next_new-requires c = (c.loop-listed.invariant.size, c.loop-listed.invariant.canonical, c.requires.2 ∙ ap length (sym (same_points (decode c.args.image.now) (good_now c.args.image.now c.requires.1) (points_in c.args.points.now) c.loop-listed.last c.loop-listed.listed c.loop-listed.image c.loop-listed.invariant)), still_ascend (decode c.args.image.now) (good_now c.args.image.now c.requires.1) (points_in c.args.points.now) c.loop-listed.last c.loop-listed.listed c.loop-listed.image c.loop-listed.invariant, c.requires.3, c.requires.4)

pub shape_of-image-in-None : goal.shape_of-image-in-None
shape_of-image-in-None c = c.loop-listed.invariant.size ∙ sym c.requires.0

pub returns-in-None : goal.returns-in-None
returns-in-None c = (ends (decode c.args.image.now) (good_now c.args.image.now c.requires.1) (points_in c.args.points.now) c.loop-listed.last c.loop-listed.listed c.loop-listed.image c.loop-listed.invariant c.next_new.result c.next_new.ensures c.in-None.is, c.loop-listed.invariant.canonical)

pub list_dot-requires : goal.list_dot-requires
list_dot-requires c = (c.loop-listed.invariant.size, c.loop-listed.invariant.canonical, list_ascends (decode c.args.image.now) (good_now c.args.image.now c.requires.1) (points_in c.args.points.now) c.loop-listed.last c.loop-listed.listed c.loop-listed.image c.loop-listed.invariant c.next_new.result c.next_new.ensures c.in-Some.d c.in-Some.k c.in-Some.is, one_fits (decode c.args.image.now) (good_now c.args.image.now c.requires.1) (points_in c.args.points.now) c.loop-listed.last c.loop-listed.listed c.loop-listed.image c.loop-listed.invariant c.next_new.result c.next_new.ensures c.in-Some.d c.in-Some.k c.in-Some.is c.loop-listed-test.true, not_listed (decode c.args.image.now) (good_now c.args.image.now c.requires.1) (points_in c.args.points.now) c.loop-listed.last c.loop-listed.listed c.loop-listed.image c.loop-listed.invariant c.next_new.result c.next_new.ensures c.in-Some.d c.in-Some.k c.in-Some.is)

pub loop-listed-preserved : goal.loop-listed-preserved
loop-listed-preserved c = one_listed (decode c.args.image.now) (good_now c.args.image.now c.requires.1) (points_in c.args.points.now) c.loop-listed.last c.loop-listed.listed c.loop-listed.image c.loop-listed.invariant c.next_new.result c.next_new.ensures c.in-Some.d c.in-Some.k c.in-Some.is c.loop-listed-test.true _ (search rules) c.list_dot.ensures

pub returns : goal.returns
returns c = (full (decode c.args.image.now) (good_now c.args.image.now c.requires.1) (points_in c.args.points.now) c.loop-listed.last c.loop-listed.listed c.loop-listed.image c.loop-listed.invariant c.loop-listed-test.false, c.loop-listed.invariant.canonical)
