-- `replying::with_entry` meets its contract (Lacking). Assumes nothing.
use mathlib.Core.Path.{ap, sym, ◌∙◌, subst}
use borrow.Author.Tests.{not-true, not-false}
use Rattle.numbers.specs.declared.Dot.{Dot}
use Rattle.numbers.specs.Numbers.{Crew}
use Rattle.block.specs.Fields.{field}
use Rattle.layout.specs.Clocks.{decode_clock}
use Rattle.dots.specs.Entries.{entry}
use Rattle.dots.proofs.Laid.{entries_are}
use Rattle.replying.specs.Nearest.{all_crew, lacks}
use Rattle.replying.proofs.Lacking.{crew_at, passed_by, looked_at}
use Rattle.replying.proofs.with_entry.Goals as goal

pub lacks-requires : goal.lacks-requires
lacks-requires c = (c.requires.4, c.requires.5, c.requires.6, subst (λ (x : Dot). Crew x.who) (sym c.entry_dot.ensures) (crew_at (field c.args.list.now 4 2) (entry c.args.list.now) (ap all_crew (sym (entries_are c.args.list.now c.requires.1)) ∙ c.requires.3) c.args.i c.requires.2))

pub returns-then-not-lacks : goal.returns-then-not-lacks
returns-then-not-lacks c = passed_by (lacks c.args.table.now c.args.asker (decode_clock c.args.rows.now)) c.args.last c.args.best (entry c.args.list.now c.args.i) (sym (c.lacks.ensures ∙ ap (lacks c.args.table.now c.args.asker (decode_clock c.args.rows.now)) (λ j. record { dot = c.entry_dot.ensures j; key = c.entry_key-k.ensures j })) ∙ not-true _ c.if-not-lacks.true-raw)

pub returns : goal.returns
returns c = looked_at (lacks c.args.table.now c.args.asker (decode_clock c.args.rows.now)) c.args.last c.args.best (entry c.args.list.now c.args.i) c.entry_key-k.result c.closer.result (sym (c.lacks.ensures ∙ ap (lacks c.args.table.now c.args.asker (decode_clock c.args.rows.now)) (λ j. record { dot = c.entry_dot.ensures j; key = c.entry_key-k.ensures j })) ∙ not-false _ c.if-not-lacks.false-raw) c.entry_key-k.ensures c.closer.ensures
