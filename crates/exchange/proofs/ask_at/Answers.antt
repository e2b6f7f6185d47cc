-- `exchange::ask_at` meets its contract. Case by case (Asking). Assumes nothing.
use Prim.Native.Nat.{◌-◌}
use mathlib.Core.Path.{ap, sym, ◌∙◌}
use native.Mathlib.Omega.{arith}
use borrow.Author.Tests.{not-true, not-false}
use Rattle.numbers.specs.Numbers.{controller}
use Rattle.layout.specs.Image.{decode}
use Rattle.layout.specs.Calls.{After}
use Rattle.exchange.proofs.Asking.{below_range, above_range, no_peer, asks, ask_is}
use Rattle.exchange.proofs.ask_at.Goals as goal

pub returns-then-to-lt1 : goal.returns-then-to-lt1
returns-then-to-lt1 c = let e = below_range (decode c.args.image.now) c.args.to c.args.image.now c.args.out.now c.if-to-lt1.true in (sym (ap (λ (a : After). a.verdict) e), sym (ap (λ (a : After). a.out) e))

pub returns-then-to-gt8 : goal.returns-then-to-gt8
returns-then-to-gt8 c = let e = above_range (decode c.args.image.now) c.args.to c.args.image.now c.args.out.now c.if-to-gt8.true in (sym (ap (λ (a : After). a.verdict) e), sym (ap (λ (a : After). a.out) e))

pub returns-then-not-other_peer : goal.returns-then-not-other_peer
returns-then-not-other_peer c = let e = no_peer (decode c.args.image.now) c.args.to c.args.image.now c.args.out.now (omega arith) (omega arith) (sym c.other_peer.ensures ∙ not-true _ c.if-not-other_peer.true-raw) in (sym (ap (λ (a : After). a.verdict) e), sym (ap (λ (a : After). a.out) e))

pub returns : goal.returns
returns c = let e = asks (decode c.args.image.now) c.args.to c.args.image.now c.args.out.now (omega arith) (omega arith) (sym c.other_peer.ensures ∙ not-false _ c.if-not-other_peer.false-raw) in (sym (ap (λ (a : After). a.verdict) e), ask_is c.args.image.now c.requires.0 c.own_of.result (controller c.args.to) _ c.own_of.ensures c.write_greeting.ensures ∙ sym (ap (λ (a : After). a.out) e))
