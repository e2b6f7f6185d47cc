-- `replying::smallest_after` meets its contract. The invariant: the entries from i on make of `best` what all make of the start (Lacking). Assumes nothing.
use Prim.Native.Nat.{◌-◌}
use mathlib.Core.Path.{ap, sym, ◌∙◌}
use mathlib.Core.List.{List}
use Rattle.numbers.specs.Words.{keep}
use Rattle.block.specs.Fields.{field}
use Rattle.meaning.specs.State.{Listed}
use Rattle.layout.specs.Clocks.{decode_clock}
use Rattle.dots.specs.Entries.{entry}
use Rattle.dots.proofs.Laid.{entries_are}
use Rattle.replying.specs.Nearest.{lacks, nearest}
use Rattle.replying.proofs.Lacking.{none_looked, one_looked, all_looked}
use native.Mathlib.Omega.{arith}
use Rattle.replying.proofs.smallest_after.Goals as goal

pub loop-i-init : goal.loop-i-init
loop-i-init c = none_looked (lacks c.args.table.now c.args.asker (decode_clock c.args.rows.now)) c.args.last (field c.args.list.now 4 2) (entry c.args.list.now) c.args.start

pub with_entry-best-requires : goal.with_entry-best-requires
with_entry-best-requires c = (c.requires.0, c.requires.1, omega (arith, c.entry_count-count.ensures), c.requires.2, c.requires.3, c.requires.4, c.requires.5)

pub loop-i-preserved : goal.loop-i-preserved
loop-i-preserved c = one_looked (lacks c.args.table.now c.args.asker (decode_clock c.args.rows.now)) c.args.last (field c.args.list.now 4 2) (entry c.args.list.now) c.args.start c.loop-i.best c.loop-i.i c.loop-i.invariant (omega (arith, c.entry_count-count.ensures)) c.with_entry-best.result c.with_entry-best.ensures

pub returns : goal.returns
returns c = all_looked (lacks c.args.table.now c.args.asker (decode_clock c.args.rows.now)) c.args.last (field c.args.list.now 4 2) (entry c.args.list.now) c.args.start c.loop-i.best c.loop-i.i c.loop-i.invariant (omega (arith, c.entry_count-count.ensures)) ∙ ap (λ (ls : List Listed). nearest c.args.last c.args.start (keep (lacks c.args.table.now c.args.asker (decode_clock c.args.rows.now)) ls)) (sym (entries_are c.args.list.now c.requires.1))
