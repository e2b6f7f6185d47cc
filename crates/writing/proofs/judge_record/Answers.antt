-- `writing::judge_record` meets its contract. Rows 8 and 12, and those that ask nothing of the point (Rows, Judges). Assumes nothing.
use mathlib.Core.Path.{ap, sym, ◌∙◌}
use native.Mathlib.Omega.{arith}
use Rattle.numbers.specs.Words.{map}
use Rattle.numbers.specs.Numbers.{counter}
use Rattle.block.specs.Fields.{cut}
use Rattle.meaning.specs.Object.{Object}
use Rattle.layout.specs.PointBlock.{form_1, decode_point}
use Rattle.layout.specs.Image.{decode}
use Rattle.writing.proofs.Rows.{ahead, many_versions, place_left}
use Rattle.store.proofs.Record.{context_of, job_of}
use Rattle.writing.proofs.Judges.{ahead_is, staying_is, has_place}
use Rattle.writing.proofs.judge_record.Goals as goal

pub returns-then-ahead : goal.returns-then-ahead
returns-then-ahead c = λ valued. ahead (decode c.args.image.now) (decode_point form_1 c.args.b.now).key valued (map counter c.args.context.now) (sym (ahead_is c.args.image.now c.requires.0 (decode_point form_1 c.args.b.now).key (map counter c.args.context.now) (cut c.args.b.now 8 32) c.u8_at.result c.ahead.result (ap (λ (o : Object). o.context) c.requires.7 ∙ context_of c.args.b.now) (c.u8_at.ensures ∙ job_of c.args.b.now) c.ahead.ensures) ∙ c.if-ahead.true)

pub returns-then-staying-ge8 : goal.returns-then-staying-ge8
returns-then-staying-ge8 c = λ valued. many_versions (decode c.args.image.now) (decode_point form_1 c.args.b.now).key valued (map counter c.args.context.now) (sym (ahead_is c.args.image.now c.requires.0 (decode_point form_1 c.args.b.now).key (map counter c.args.context.now) (cut c.args.b.now 8 32) c.u8_at.result c.ahead.result (ap (λ (o : Object). o.context) c.requires.7 ∙ context_of c.args.b.now) (c.u8_at.ensures ∙ job_of c.args.b.now) c.ahead.ensures) ∙ c.if-ahead.false) (omega (arith, c.if-staying-ge8.true, staying_is c.args.image.now c.requires.0 (decode_point form_1 c.args.b.now).key (map counter c.args.context.now) (decode_point form_1 c.args.b.now).object c.staying.result c.requires.7 c.staying.ensures))

pub returns : goal.returns
returns c = λ valued. c.judge_own.ensures ∙ place_left (decode c.args.image.now) (decode_point form_1 c.args.b.now).key valued (map counter c.args.context.now) (sym (ahead_is c.args.image.now c.requires.0 (decode_point form_1 c.args.b.now).key (map counter c.args.context.now) (cut c.args.b.now 8 32) c.u8_at.result c.ahead.result (ap (λ (o : Object). o.context) c.requires.7 ∙ context_of c.args.b.now) (c.u8_at.ensures ∙ job_of c.args.b.now) c.ahead.ensures) ∙ c.if-ahead.false) (omega (arith, c.if-staying-ge8.false, staying_is c.args.image.now c.requires.0 (decode_point form_1 c.args.b.now).key (map counter c.args.context.now) (decode_point form_1 c.args.b.now).object c.staying.result c.requires.7 c.staying.ensures)) (has_place (decode_point form_1 c.args.b.now).key (decode c.args.image.now).points valued c.requires.6)
