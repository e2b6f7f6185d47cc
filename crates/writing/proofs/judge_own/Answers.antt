-- `writing::judge_own` meets its contract. Rows 14 and 15 (Rows). Assumes nothing.
use native.Mathlib.Omega.{arith}
use Rattle.block.proofs.Numbers.{bytes_of}
use Rattle.layout.specs.Image.{decode}
use Rattle.store.proofs.Lent.{own_count, good_canonical}
use Rattle.writing.proofs.Rows.{list_full, used_up, all_passed}
use Rattle.writing.proofs.judge_own.Goals as goal

pub returns-then-entry_count-ge60 : goal.returns-then-entry_count-ge60
returns-then-entry_count-ge60 c = list_full (decode c.args.image.now) (omega (arith, c.if-entry_count-ge60.true, c.entry_count.ensures, own_count c.args.image.now (bytes_of c.args.image.now c.type_inv.image) c.requires.0 (good_canonical c.args.image.now c.requires.1)))

pub returns-then-own_base-ge4294967295 : goal.returns-then-own_base-ge4294967295
returns-then-own_base-ge4294967295 c = used_up (decode c.args.image.now) (omega (arith, c.if-entry_count-ge60.false, c.entry_count.ensures, own_count c.args.image.now (bytes_of c.args.image.now c.type_inv.image) c.requires.0 (good_canonical c.args.image.now c.requires.1))) (omega (arith, c.if-own_base-ge4294967295.true, c.own_base.ensures))

pub returns : goal.returns
returns c = all_passed (decode c.args.image.now) (omega (arith, c.if-entry_count-ge60.false, c.entry_count.ensures, own_count c.args.image.now (bytes_of c.args.image.now c.type_inv.image) c.requires.0 (good_canonical c.args.image.now c.requires.1))) (omega (arith, c.if-own_base-ge4294967295.false, c.own_base.ensures))
