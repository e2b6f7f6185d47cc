-- `own_calls::strip_pass` meets its contract. Refused by rows 1 and 2, or the pass (StripPass). Assumes nothing.
use Rattle.opening.specs.CallContracts.{without_count, count_in}
use Rattle.std.proofs.Common.{rules, ◌≡◌, Err}
use Prim.Native.Nat.{◌-◌}
use mathlib.Core.Path.{ap, sym, ◌∙◌}
use mathlib.Core.Bool.{true}
use native.Mathlib.Omega.{arith}
use Rattle.layout.specs.Calls.{After}
use Rattle.store.proofs.Lent.{rows_copied}
use Rattle.opening.proofs.Ladder.{what_is_opened}
use Rattle.own_calls.proofs.StripPass.{strip_refused, strip_passed}
use Rattle.own_calls.proofs.strip_pass.Goals as goal

pub slice_bounds-copy_in-end-2 : goal.slice_bounds-copy_in-end-2
slice_bounds-copy_in-end-2 c = omega (arith, (what_is_opened c.args.image.now true (sym c.opens.ensures ∙ c.in_ok-opens.was)).size)

pub strip_all-requires : goal.strip_all-requires
strip_all-requires c = let r = rows_copied c.args.image.now _ _ c.copy_in.ensures (what_is_opened c.args.image.now true (sym c.opens.ensures ∙ c.in_ok-opens.was)).size (omega arith) in ((what_is_opened c.args.image.now true (sym c.opens.ensures ∙ c.in_ok-opens.was)).size, (what_is_opened c.args.image.now true (sym c.opens.ensures ∙ c.in_ok-opens.was)).good, r.0, r.1)

pub returns-in_err-opens : goal.returns-in_err-opens
returns-in_err-opens c = let z : ◌≡◌ c.from_residual.result (Err c.in_err-opens.field-0.0) = search rules in let e = strip_refused c.args.image.now c.in_err-opens.field-0.0 (sym c.opens.ensures ∙ c.in_err-opens.was) in (ap without_count z ∙ sym (ap (λ (a : After). a.verdict) e), sym (ap (λ (a : After). a.image) e), ap count_in z ∙ sym (ap (λ (a : After). a.count) e))

pub returns : goal.returns
returns c = let e = strip_passed c.args.image.now (sym c.opens.ensures ∙ c.in_ok-opens.was) in (sym (ap (λ (a : After). a.verdict) e), c.strip_all.ensures.1 ∙ sym (ap (λ (a : After). a.image) e), c.strip_all.ensures.0 ∙ sym (ap (λ (a : After). a.count) e))
