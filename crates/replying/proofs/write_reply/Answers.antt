-- `replying::write_reply` meets its contract. The points, and then the head (Whole). Assumes nothing.
use borrow.Author.Rules.{rules}
use mathlib.Core.Path.{◌∙◌}
use Rattle.layout.specs.Image.{decode}
use Rattle.layout.specs.Messages.{decode_ask}
use Rattle.store.proofs.Lent.{own_part, clock_part, good_now}
use Rattle.replying.proofs.Whole.{reply_is}
use Rattle.replying.proofs.write_reply.Goals as goal

pub returns : goal.returns
returns c = (c.write_points-sent.ensures.0, reply_is (decode c.args.image.now) (decode_ask c.args.message.now) (good_now c.args.image.now c.requires.1) c.args.out.now _ _ c.own_of.result c.sender_of.result _ c.write_points-sent.result c.requires.4 (search rules) c.write_points-sent.ensures.1 (search rules) c.write_greeting.ensures c.write_points-sent.ensures.0 (c.own_of.ensures ∙ own_part c.args.image.now c.requires.0) c.sender_of.ensures (clock_part c.args.image.now c.requires.0))
