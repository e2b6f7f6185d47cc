-- `reply_form::each_covered` meets its contract. Each point's block is asked (block's Chunks); a well-formed one names controllers (Loops). Assumes nothing.
use Prim.Native.Nat.{ℕ, ◌≤◌}
use mathlib.Core.Path.{◌≡◌, sym, subst}
use mathlib.Core.Bool.{true}
use mathlib.Core.List.{List}
use Rattle.std.proofs.Common.{rules}
use Rattle.block.specs.Fields.{field}
use Rattle.block.proofs.Roads.{all_of}
use Rattle.block.proofs.Chunks.{blocks_given, blocks_served}
use Rattle.meaning.specs.Context.{fill_context}
use Rattle.meaning.specs.Message.{covers_all}
use Rattle.layout.specs.Clocks.{decode_clock}
use Rattle.layout.specs.PointBlock.{form_1, decode_point, decode_stored}
use Rattle.record.specs.Crewed.{crewed}
use Rattle.reply_form.proofs.Loops.{block_crewed}
use Rattle.reply_form.proofs.each_covered.Goals as goal

pub all-requires-clause-callable : goal.all-requires-clause-callable
all-requires-clause-callable c =
    blocks_served c.args.points.now c.chunks_exact.ensures.rest c.chunks_exact.ensures.size (λ x q r. search rules)
    (λ x k l e size.
    let few = subst (λ (b : List ℕ). field b 5 1 ≤ 8) (sym e) (c.requires.0 k l) in
    let names = subst (λ (b : List ℕ). crewed (decode_point form_1 b).object.versions ≡ true) (sym e) (block_crewed c.args.table.now c.args.points.now c.requires.3 k l) in
    search rules)

pub returns : goal.returns
unfolding decode_stored
returns c =
    all_of (blocks_given (decode_stored form_1) c.args.points.now c.chunks_exact.ensures.rest c.chunks_exact.ensures.size) (λ p. covers_all (fill_context c.args.table.now p.key.job (decode_clock c.args.rows.now) p.object.context) p.object.versions)
    c.all.ensures.ran (λ x b q k. search rules)
