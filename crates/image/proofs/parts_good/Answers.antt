use native.Mathlib.Omega.{arith}
use mathlib.Core.Bool.{true, false}
use mathlib.Core.Path.{◌∙◌}
use Rattle.numbers.proofs.Lists.{passed, ◌and_also◌}
use Rattle.block.specs.Fields.{cut}
use Rattle.block.proofs.Numbers.{bytes_of}
use Rattle.block.proofs.Passing.{said_no, said_yes}
use Rattle.layout.specs.Image.{decode_head}
use Rattle.image.proofs.Counted.{stored_few}
use Rattle.image.proofs.Whole.{own_few, foreign_few, points_few, not_good, good_last, apart_is, list_good, records_are, ascend_are, own_crew, own_list_ascends, foreign_list_ascends}
use Rattle.image.proofs.parts_good.Goals as goal

pub returns-then-not-head_good : goal.returns-then-not-head_good
returns-then-not-head_good c = not_good c.args.image.now c.requires.0 0 (said_no c.head_good.ensures c.if-not-head_good.true-raw)

pub dots_good-requires : goal.dots_good-requires
dots_good-requires c = (omega arith, own_few c.args.image.now (bytes_of c.args.image.now c.type_inv.image) c.requires.0 c.requires.1, own_crew (decode_head (cut c.args.image.now 0 512)) c.own_of-own.result c.own_of-own.ensures (said_yes c.head_good.ensures c.if-not-head_good.false-raw), omega arith, omega arith)

pub returns-then-not-dots_good : goal.returns-then-not-dots_good
returns-then-not-dots_good c = not_good c.args.image.now c.requires.0 1 (said_no (list_good c.args.image.now true 512 c.own_of-own.result c.own_of-own.ensures c.dots_good.result c.dots_good.ensures) c.if-not-dots_good.true-raw)

pub dots_good-requires-2 : goal.dots_good-requires-2
dots_good-requires-2 c = (omega arith, foreign_few c.args.image.now (bytes_of c.args.image.now c.type_inv.image) c.requires.0 c.requires.1, own_crew (decode_head (cut c.args.image.now 0 512)) c.own_of-own.result c.own_of-own.ensures (said_yes c.head_good.ensures c.if-not-head_good.false-raw), omega arith, omega arith)

pub returns-then-not-dots_good-2 : goal.returns-then-not-dots_good-2
returns-then-not-dots_good-2 c = not_good c.args.image.now c.requires.0 2 (said_no (list_good c.args.image.now false 1024 c.own_of-own.result c.own_of-own.ensures c.dots_good-2.result c.dots_good-2.ensures) c.if-not-dots_good-2.true-raw)

pub records_good-requires : goal.records_good-requires
records_good-requires c = (omega arith, omega (arith, stored_few c.args.image.now, c.stored_count-count.ensures), points_few c.args.image.now (bytes_of c.args.image.now c.type_inv.image) c.requires.0 c.requires.1 c.stored_count-count.result (omega (arith, stored_few c.args.image.now, c.stored_count-count.ensures)) c.stored_count-count.ensures, omega arith, omega arith, own_crew (decode_head (cut c.args.image.now 0 512)) c.own_of-own.result c.own_of-own.ensures (said_yes c.head_good.ensures c.if-not-head_good.false-raw))

pub returns-then-not-records_good : goal.returns-then-not-records_good
returns-then-not-records_good c = not_good c.args.image.now c.requires.0 3 (said_no (records_are c.args.image.now c.own_of-own.result c.own_of-own.ensures c.stored_count-count.result c.stored_count-count.ensures c.records_good.result c.records_good.ensures) c.if-not-records_good.true-raw)

pub points_ascend-requires : goal.points_ascend-requires
points_ascend-requires c = (omega arith, omega (arith, stored_few c.args.image.now, c.stored_count-count.ensures))

pub returns-then-not-points_ascend : goal.returns-then-not-points_ascend
returns-then-not-points_ascend c = not_good c.args.image.now c.requires.0 4 (said_no (ascend_are c.args.image.now c.stored_count-count.result c.stored_count-count.ensures c.points_ascend.result c.points_ascend.ensures) c.if-not-points_ascend.true-raw)

pub dots_apart-requires : goal.dots_apart-requires
dots_apart-requires c = (omega arith, omega (arith, stored_few c.args.image.now, c.stored_count-count.ensures), points_few c.args.image.now (bytes_of c.args.image.now c.type_inv.image) c.requires.0 c.requires.1 c.stored_count-count.result (omega (arith, stored_few c.args.image.now, c.stored_count-count.ensures)) c.stored_count-count.ensures, (own_few c.args.image.now (bytes_of c.args.image.now c.type_inv.image) c.requires.0 c.requires.1, own_list_ascends c.args.image.now c.requires.0 (said_yes (list_good c.args.image.now true 512 c.own_of-own.result c.own_of-own.ensures c.dots_good.result c.dots_good.ensures) c.if-not-dots_good.false-raw)), (foreign_few c.args.image.now (bytes_of c.args.image.now c.type_inv.image) c.requires.0 c.requires.1, foreign_list_ascends c.args.image.now c.requires.0 (said_yes (list_good c.args.image.now false 1024 c.own_of-own.result c.own_of-own.ensures c.dots_good-2.result c.dots_good-2.ensures) c.if-not-dots_good-2.false-raw)))

pub returns : goal.returns
returns c = apart_is c.args.image.now c.requires.0 (said_yes (ascend_are c.args.image.now c.stored_count-count.result c.stored_count-count.ensures c.points_ascend.result c.points_ascend.ensures) c.if-not-points_ascend.false-raw) c.stored_count-count.result c.dots_apart.result c.stored_count-count.ensures c.dots_apart.ensures ∙ good_last c.args.image.now c.requires.0 (said_yes c.head_good.ensures c.if-not-head_good.false-raw and_also said_yes (list_good c.args.image.now true 512 c.own_of-own.result c.own_of-own.ensures c.dots_good.result c.dots_good.ensures) c.if-not-dots_good.false-raw and_also said_yes (list_good c.args.image.now false 1024 c.own_of-own.result c.own_of-own.ensures c.dots_good-2.result c.dots_good-2.ensures) c.if-not-dots_good-2.false-raw and_also said_yes (records_are c.args.image.now c.own_of-own.result c.own_of-own.ensures c.stored_count-count.result c.stored_count-count.ensures c.records_good.result c.records_good.ensures) c.if-not-records_good.false-raw and_also said_yes (ascend_are c.args.image.now c.stored_count-count.result c.stored_count-count.ensures c.points_ascend.result c.points_ascend.ensures) c.if-not-points_ascend.false-raw and_also passed)
