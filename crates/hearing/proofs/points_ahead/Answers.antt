-- `hearing::points_ahead` meets its contract. Each point's block is asked (block's Chunks), of our own row as it was read (Points). Assumes nothing.
use Prim.Native.Nat.{ℕ, ◌≤◌}
use mathlib.Core.Path.{sym, ◌∙◌, subst}
use mathlib.Core.List.{List}
use Rattle.std.proofs.Common.{rules}
use Rattle.numbers.specs.Words.{some?}
use Rattle.numbers.specs.Numbers.{Crew}
use Rattle.block.specs.Fields.{field}
use Rattle.block.proofs.Roads.{any_of}
use Rattle.block.proofs.Chunks.{blocks_given, blocks_served}
use Rattle.layout.specs.PointBlock.{form_1, decode_stored}
use Rattle.store.proofs.Lent.{own_is_crew}
use Rattle.arriving.specs.Sent.{points_in}
use Rattle.checking.specs.Points.{above}
use Rattle.replying.proofs.Judging.{own_lent}
use Rattle.hearing.proofs.Points.{above_lent}
use Rattle.hearing.proofs.points_ahead.Goals as goal

pub row_at-ours-requires : goal.row_at-ours-requires
row_at-ours-requires c = let a = c.args in
    (search rules, subst Crew (sym (own_lent a.image.now c.requires.0 c.own_of-own.result c.own_of-own.ensures)) (own_is_crew a.image.now c.requires.1))

pub any-requires-clause-callable : goal.any-requires-clause-callable
any-requires-clause-callable c =
    blocks_served c.args.points.now c.chunks_exact.ensures.rest c.chunks_exact.ensures.size (λ x q r. search rules)
    (λ x k l e size.
    let few = subst (λ (b : List ℕ). field b 5 1 ≤ 8) (sym e) (c.requires.2 k l) in
    let ours = subst Crew (sym (own_lent c.args.image.now c.requires.0 c.own_of-own.result c.own_of-own.ensures)) (own_is_crew c.args.image.now c.requires.1) in
    search rules)

pub returns : goal.returns
unfolding decode_stored
returns c =
    any_of (blocks_given (decode_stored form_1) c.args.points.now c.chunks_exact.ensures.rest c.chunks_exact.ensures.size) (λ p. above c.own_of-own.result c.row_at-ours.result.base p.object)
    c.any.ensures.ran (λ x b q k. search rules)
    ∙ λ i. some? (λ p. above_lent c.args.image.now c.requires.0 c.own_of-own.result c.own_of-own.ensures c.row_at-ours.result c.row_at-ours.ensures p.object i) (points_in c.args.points.now)
