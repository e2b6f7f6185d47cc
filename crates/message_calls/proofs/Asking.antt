-- The definition of ask, case by case. Assumes nothing.
use Prim.Native.Nat.{ℕ}
use mathlib.Core.Path.{◌≡◌, ap}
use mathlib.Core.List.{List}
use Rattle.numbers.specs.Numbers.{controller}
use Rattle.refusal.specs.declared.Refusal.{Refusal}
use Rattle.refusal.specs.Refusal.{Answer, verdict_of}
use Rattle.meaning.specs.State.{State}
use Rattle.meaning.specs.Exchange.{ask}
use Rattle.layout.specs.Image.{decode}
use Rattle.layout.specs.Calls.{Left, afterwards, one_block, on_image, ask_call}
use Rattle.exchange.specs.Sent.{asked}
use Rattle.store.proofs.Untouched.{untouched}
use Rattle.opening.specs.Admitted.{opened}
use Rattle.opening.proofs.Ladder.{refused_leaves, refused_first, opened_steps}
use Rattle.std.specs.Prelude.{Ok, Err}

module _ (img : List ℕ) (to : ℕ) (out : List ℕ) where
  abbrev step : State → Answer Left
  step s = asked img (ask s (controller to))

  pub ask_refused : (r : Refusal) → verdict_of (opened img (one_block out)) ≡ Err r → ask_call img to out ≡ untouched r img out
  unfolding ask_call
  ask_refused r e = refused_leaves img out (on_image (one_block out) img step) r (refused_first img (one_block out) step r e)

  pub ask_goes_on : verdict_of (opened img (one_block out)) ≡ Ok tt → ask_call img to out ≡ afterwards img out (asked img (ask (decode img) (controller to)))
  unfolding ask_call
  ask_goes_on e = ap (afterwards img out) (opened_steps img (one_block out) step e)
