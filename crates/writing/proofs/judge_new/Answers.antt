-- `writing::judge_new` meets its contract. Rows 8 and 13, and those that ask nothing of the point (Rows, Judges). Assumes nothing.
use mathlib.Core.Path.{refl, sym, ◌∙◌}
use Rattle.numbers.specs.Words.{map}
use Rattle.numbers.specs.Numbers.{counter}
use Rattle.layout.specs.Image.{decode}
use Rattle.writing.proofs.Rows.{ahead, many_points, place_left}
use Rattle.store.proofs.Record.{no_entries}
use Rattle.writing.proofs.Judges.{ahead_is, none_stays, place_needed}
use Rattle.writing.proofs.judge_new.Goals as goal

pub returns-then-ahead : goal.returns-then-ahead
returns-then-ahead c = ahead (decode c.args.image.now) c.args.k c.args.valued (map counter c.args.context.now) (sym (ahead_is c.args.image.now c.requires.0 c.args.k (map counter c.args.context.now) _ _ c.ahead.result (no_entries c.args.image.now c.args.k c.requires.4) refl c.ahead.ensures) ∙ c.if-ahead.true)

pub returns-then-no_place : goal.returns-then-no_place
returns-then-no_place c = many_points (decode c.args.image.now) c.args.k c.args.valued (map counter c.args.context.now) (sym (ahead_is c.args.image.now c.requires.0 c.args.k (map counter c.args.context.now) _ _ c.ahead.result (no_entries c.args.image.now c.args.k c.requires.4) refl c.ahead.ensures) ∙ c.if-ahead.false) (none_stays c.args.image.now c.requires.0 c.args.k (map counter c.args.context.now) c.requires.4) (place_needed c.args.image.now c.requires.0 c.args.k (map counter c.args.context.now) c.requires.4 c.args.valued c.no_place.result c.args.count c.requires.2 c.no_place.ensures ∙ c.if-no_place.true)

pub returns : goal.returns
returns c = c.judge_own.ensures ∙ place_left (decode c.args.image.now) c.args.k c.args.valued (map counter c.args.context.now) (sym (ahead_is c.args.image.now c.requires.0 c.args.k (map counter c.args.context.now) _ _ c.ahead.result (no_entries c.args.image.now c.args.k c.requires.4) refl c.ahead.ensures) ∙ c.if-ahead.false) (none_stays c.args.image.now c.requires.0 c.args.k (map counter c.args.context.now) c.requires.4) (place_needed c.args.image.now c.requires.0 c.args.k (map counter c.args.context.now) c.requires.4 c.args.valued c.no_place.result c.args.count c.requires.2 c.no_place.ensures ∙ c.if-no_place.false)
