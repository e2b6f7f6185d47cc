-- `tidying::known_to` meets its contract. By the table, and then by the mark (Known). Assumes nothing.
use borrow.Author.Tests.{not-true, not-false}
use Rattle.layout.specs.Image.{decode_marks}
use Rattle.tidying.proofs.Known.{no_peer, by_mark}
use Rattle.tidying.proofs.known_to.Goals as goal

pub returns-then-not-peers : goal.returns-then-not-peers
returns-then-not-peers c = no_peer c.args.table.now (decode_marks c.args.marks.now) c.args.d c.args.m c.peers.result c.peers.ensures (not-true _ c.if-not-peers.true-raw)

pub returns : goal.returns
returns c = by_mark c.args.table.now (decode_marks c.args.marks.now) c.args.d c.args.m c.peers.result c.peers.ensures (not-false _ c.if-not-peers.false-raw) c.mark_at.result c.mark_at.ensures
