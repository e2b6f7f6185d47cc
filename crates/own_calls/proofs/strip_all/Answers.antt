-- `own_calls::strip_all` meets its contract. The invariant: the records from the i-th on are stripped (StripPass). Assumes nothing.
use mathlib.Core.Path.{refl}
use native.Mathlib.Omega.{arith}
use Rattle.layout.specs.Image.{decode}
use Rattle.store.proofs.Lent.{counted, good_ascends, good_canonical, good_now}
use Rattle.own_calls.proofs.StripPass.{stripping_none, stripped_image, stripped_count}
use Rattle.own_calls.proofs.strip_all.Goals as goal

pub loop-i-init : goal.loop-i-init
loop-i-init c = let img = c.args.image.now in
    let stored = c.stored_count-stored in
    stripping_none (decode img) img stored.result c.requires.0 refl (good_canonical img c.requires.1) (counted img stored.result stored.ensures)

pub overflow_sub-result : goal.overflow_sub-result
overflow_sub-result c = let stored = c.stored_count-stored in
    omega (arith, c.loop-i.invariant.few, counted c.args.image.now stored.result stored.ensures)

pub overflow_cast-result : goal.overflow_cast-result
overflow_cast-result c = let img = c.args.image.now in
    let stored = c.stored_count-stored in
    omega (arith, c.loop-i.invariant.few, counted img stored.result stored.ensures, (good_now img c.requires.1).points_few)

pub returns : goal.returns
returns c = let img = c.args.image.now in
    let s = decode img in
    let stored = c.stored_count-stored in
    let l = c.loop-i in
    let up = good_ascends img c.requires.1 in
    (stripped_count s l.image l.i l.count l.invariant (omega arith) up stored.result (counted img stored.result stored.ensures), stripped_image s l.image l.i l.count l.invariant (omega arith) up)
