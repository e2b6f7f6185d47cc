-- The definition of take in, case by case. Assumes nothing.
use Prim.Native.Nat.{ℕ}
use mathlib.Core.Path.{◌≡◌, ap}
use mathlib.Core.List.{List, []}
use Rattle.refusal.specs.declared.Refusal.{Refusal}
use Rattle.refusal.specs.Refusal.{Answer, verdict_of}
use Rattle.meaning.specs.State.{State}
use Rattle.meaning.specs.Exchange.{take_in}
use Rattle.layout.specs.Messages.{decode_outgoing, laid_out_outgoing}
use Rattle.layout.specs.Calls.{Left, afterwards, one_block, on_image, with_message, take_in_call}
use Rattle.store.proofs.Untouched.{untouched}
use Rattle.taking.specs.Taken.{left_by, heard}
use Rattle.opening.specs.Admitted.{opened}
use Rattle.opening.proofs.Ladder.{refused_leaves, refused_first, opened_steps}
use Rattle.std.specs.Prelude.{Ok, Err}

module _ (img message : List ℕ) where
  abbrev step : State → Answer Left
  step s = with_message message (laid_out_outgoing message) (left_by (take_in s (decode_outgoing message)))

  pub take_in_refused : (r : Refusal) → verdict_of (opened img (one_block message)) ≡ Err r → take_in_call img message ≡ untouched r img []
  unfolding take_in_call
  take_in_refused r e = refused_leaves img [] (on_image (one_block message) img step) r (refused_first img (one_block message) step r e)

  pub take_in_goes_on : verdict_of (opened img (one_block message)) ≡ Ok tt → take_in_call img message ≡ afterwards img [] (heard img message)
  unfolding take_in_call
  take_in_goes_on e = ap (afterwards img []) (opened_steps img (one_block message) step e)
