-- `writing::put_said` meets its contract. The slot says the version (Steps). Assumes nothing.
use mathlib.Core.Path.{ap}
use native.Mathlib.Omega.{arith}
use Rattle.numbers.specs.Words.{map}
use Rattle.numbers.specs.Numbers.{counter}
use Rattle.meaning.specs.Object.{Version, has_value}
use Rattle.layout.specs.Image.{decode}
use Rattle.record_edits.specs.Said.{contents_of}
use Rattle.writing.proofs.Accepted.{passed}
use Rattle.writing.proofs.Steps.{said_sized, slot_says, slot_as_is, slot_formed, slot_judged, slot_made, said_short}
use borrow.Author.Rules.{rules}
use Rattle.writing.proofs.put_said.Goals as goal

pub next_dot-d-requires : goal.next_dot-d-requires
next_dot-d-requires c = (c.requires.0, c.requires.1, (passed (decode c.args.image.now) c.args.k (has_value (contents_of c.args.said)) (map counter c.args.context.now) c.requires.5).2)

pub make_slot-requires : goal.make_slot-requires
make_slot-requires c = (omega arith, said_short c.args.said c.requires.3)

pub put_down-requires : goal.put_down-requires
put_down-requires c = let d = c.next_dot-d.result in let o = c.args.said in let S = said_sized d o (search rules) (search rules) c.requires.3 in let v : Version = record { dot = d; contents = contents_of o } in (c.requires.0, c.requires.1, c.requires.2, c.next_dot-d.ensures, omega arith, slot_as_is v _ S c.make_slot.ensures, ap (λ (u : Version). u.dot) (slot_says v _ S c.make_slot.ensures), slot_formed v _ S c.make_slot.ensures c.requires.3, c.requires.4, slot_judged v _ S c.make_slot.ensures (decode c.args.image.now) c.args.k (map counter c.args.context.now) c.requires.5, c.requires.6)

pub returns : goal.returns
returns c = let d = c.next_dot-d.result in let o = c.args.said in slot_made (record { dot = d; contents = contents_of o }) _ (said_sized d o (search rules) (search rules) c.requires.3) c.make_slot.ensures (decode c.args.image.now) c.args.k (map counter c.args.context.now) _ _ c.put_down.ensures
