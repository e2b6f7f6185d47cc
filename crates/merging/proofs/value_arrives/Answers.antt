-- `merging::value_arrives` meets its contract: its length says that it is deleted, or its dot decides (Judging). Assumes nothing.
use mathlib.Core.Path.{ap, sym, subst, ◌∙◌}
use mathlib.Core.Bool.{not}
use Rattle.numbers.specs.declared.Dot.{Dot}
use Rattle.numbers.specs.Words.{map}
use Rattle.numbers.specs.Numbers.{counter, Crew}
use Rattle.meaning.specs.Context.{covers}
use Rattle.object.proofs.Counting.{stays}
use Rattle.merging.proofs.Judging.{no_value, by_other}
use Rattle.merging.proofs.value_arrives.Goals as goal

pub returns-then-said_length : goal.returns-then-said_length
returns-then-said_length c = let a = c.args in
    no_value (stays a.here.now) a.m.now a.i c.said_length.result c.said_length.ensures c.if-said_length.true

pub given_covers-requires : goal.given_covers-requires
given_covers-requires c = let p = c.requires in
    (p.3, subst (λ (x : Dot). Crew x.who) (sym c.version_dot.ensures) p.2)

pub returns : goal.returns
returns c = let a = c.args in
    let here = a.here.now in
    by_other (stays here) a.m.now a.i c.said_length.result c.said_length.ensures c.if-said_length.false (ap not (c.given_covers.ensures ∙ ap (covers (map counter here)) c.version_dot.ensures))
