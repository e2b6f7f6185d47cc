-- The definition of repair, case by case. Assumes nothing.
use Prim.Native.Nat.{ℕ, ◌%◌, ◌≤◌, ◌<◌}
use mathlib.Core.Path.{◌≡◌, ap, sym, ◌∙◌}
use mathlib.Core.Bool.{Bool, false}
use mathlib.Core.List.{List, []}
use lib.ListN.{length}
use lib.Dec.{leb}
use borrow.Author.Tests.{eq-eqb, ne_eqb, lt-leb, le-leb}
use Rattle.refusal.specs.declared.Refusal.{Refusal}
use Rattle.refusal.specs.Refusal.{Answer, verdict_of}
use Rattle.meaning.specs.State.{State}
use Rattle.meaning.specs.Exchange.{repair}
use Rattle.layout.specs.Messages.{decode_reply, laid_out_reply}
use Rattle.layout.specs.Calls.{Left, afterwards, whole_reply, on_image, with_message, repair_call}
use Rattle.store.proofs.Untouched.{untouched}
use Rattle.taking.specs.Taken.{left_by}
use Rattle.repairing.specs.Repaired.{repaired}
use Rattle.opening.specs.Admitted.{opened}
use Rattle.opening.proofs.Ladder.{refused_leaves, refused_first, opened_steps}
use Rattle.std.specs.Prelude.{Ok, Err}

module _ (img message : List ℕ) where
  abbrev step : State → Answer Left
  step s = with_message message (laid_out_reply message) (left_by (repair s (decode_reply message)))

  pub repair_refused : (r : Refusal) → verdict_of (opened img (whole_reply message)) ≡ Err r → repair_call img message ≡ untouched r img []
  unfolding repair_call
  repair_refused r e = refused_leaves img [] (on_image (whole_reply message) img step) r (refused_first img (whole_reply message) step r e)

  pub repair_goes_on : verdict_of (opened img (whole_reply message)) ≡ Ok tt → repair_call img message ≡ afterwards img [] (repaired img message)
  unfolding repair_call
  repair_goes_on e = ap (afterwards img []) (opened_steps img (whole_reply message) step e)

-- ---- the lengths

module _ (m : List ℕ) where
  pub cut_short : (length m % 512 ≡ 0 → ⊥) → false ≡ whole_reply m
  unfolding whole_reply
  cut_short h = sym (rw (ne_eqb (length m % 512) 0 h))

  module _ (blocks : length m % 512 ≡ 0) where
    pub empty : length m < 512 → false ≡ whole_reply m
    unfolding whole_reply
    empty h = sym (rw (eq-eqb (length m % 512) 0 blocks, lt-leb 512 (length m) h))

    pub by_length : 512 ≤ length m → (r : Bool) → r ≡ leb (length m) 61952 → r ≡ whole_reply m
    unfolding whole_reply
    by_length h r e = e ∙ sym (rw (eq-eqb (length m % 512) 0 blocks, le-leb 512 (length m) h))
