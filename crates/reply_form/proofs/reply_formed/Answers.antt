-- `reply_form::reply_formed` meets its contract. The head's tests, and then the points' (Formed). Assumes nothing.
use Prim.Native.Nat.{ℕ}
use mathlib.Core.Path.{ap, sym, ◌∙◌, subst}
use mathlib.Core.List.{List}
use Rattle.block.specs.Fields.{cut}
use Rattle.block.proofs.Numbers.{bytes_of}
use Rattle.block.proofs.Parts.{length_cut}
use Rattle.block.proofs.Passing.{passed, failed, last_test, said_no, said_yes}
use Rattle.layout.specs.Clocks.{decode_clock}
use Rattle.arriving.specs.Sent.{points_in, Few}
use Rattle.reply_form.specs.Parts.{points_formed}
use Rattle.reply_form.proofs.Points.{at_least, rest_lent}
use Rattle.reply_form.proofs.LaidOut.{few}
use Rattle.reply_form.proofs.Formed.{reply_tests}
use native.Mathlib.Omega.{arith}
use Rattle.reply_form.proofs.reply_formed.Goals as goal

pub slice_bounds-ask_formed-end : goal.slice_bounds-ask_formed-end
slice_bounds-ask_formed-end c = omega (arith, (at_least c.args.reply.now c.requires.0))

pub ask_formed-requires : goal.ask_formed-requires
ask_formed-requires c = (length_cut c.args.reply.now 0 512 (omega (arith, (at_least c.args.reply.now c.requires.0))), c.requires.2)

pub returns-then-not-ask_formed : goal.returns-then-not-ask_formed
returns-then-not-ask_formed c = failed (reply_tests c.args.reply.now c.args.table.now) (said_no c.ask_formed.ensures c.if-not-ask_formed.true-raw)

pub slice_bounds-points_formed-count : goal.slice_bounds-points_formed-count
slice_bounds-points_formed-count c = omega (arith, (at_least c.args.reply.now c.requires.0))

pub slice_bounds-points_formed-start : goal.slice_bounds-points_formed-start
slice_bounds-points_formed-start c = omega (arith, (at_least c.args.reply.now c.requires.0))

pub slice_bounds-points_formed-end-2 : goal.slice_bounds-points_formed-end-2
slice_bounds-points_formed-end-2 c = omega (arith, (at_least c.args.reply.now c.requires.0))

pub points_formed-requires : goal.points_formed-requires
points_formed-requires c = (subst Few (sym (rest_lent c.args.reply.now)) (few c.args.reply.now c.requires.0 (bytes_of c.args.reply.now c.type_inv.reply) c.requires.1), c.requires.2, length_cut c.args.reply.now 8 96 (omega (arith, (at_least c.args.reply.now c.requires.0))))

pub returns : goal.returns
returns c = c.points_formed.ensures ∙ ap (λ (l : List ℕ). points_formed c.args.table.now (decode_clock (cut c.args.reply.now 8 96)) (points_in l)) (rest_lent c.args.reply.now)
    ∙ last_test (passed (reply_tests c.args.reply.now c.args.table.now) (said_yes c.ask_formed.ensures c.if-not-ask_formed.false-raw))
