-- `taking::take_in_entered` meets its contract. Assumes nothing.
use borrow.Author.Rules.{rules}
use mathlib.Core.Path.{ap, sym, ◌∙◌}
use Rattle.numbers.specs.declared.Key.{Key}
use Rattle.meaning.specs.State.{local}
use Rattle.layout.specs.Image.{decode}
use Rattle.store.proofs.Lent.{good_ascends, good_canonical}
use Rattle.store.proofs.Record.{context_of}
use Rattle.taking.proofs.take_in_entered.Goals as goal

pub local_context-requires : goal.local_context-requires
local_context-requires c = (c.requires.0, good_canonical c.args.image.now c.requires.1, c.requires.2, good_ascends c.args.image.now c.requires.1, search rules)

pub take_in_with-requires : goal.take_in_with-requires
take_in_with-requires c = (c.requires.0, c.requires.1, c.requires.2, c.requires.3, c.requires.4, c.requires.5, c.requires.6, c.requires.7, c.local_context.ensures.1, c.local_context.ensures.0 ∙ ap (λ (z : Key). (local (decode c.args.image.now) z).context) c.key_of.ensures, c.given_context.ensures.1, c.given_context.ensures.0 ∙ sym (context_of c.args.m.now))
